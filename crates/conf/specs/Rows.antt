-- Values that are refused at the keys of a configuration.
use Rattle.std.specs.Prelude.{◌||◌, Bool, false, not, nat_lt, Option, Some, None}
use Rattle.std.specs.List.{list_any}
use Rattle.toml.specs.Data.{Data, Members}
use Rattle.nonces.specs.declared.limits.TheConstants.{MAX_WINDOW}
use Rattle.settings.specs.declared.limits.TheConstants.{DAY_WINDOW}
use Rattle.conf_values.specs.declared.table.TableName.TheVariants.{Policies, Policy}
use Rattle.conf_values.specs.declared.table.ValueRule.{ValueRule}
use Rattle.conf_values.specs.declared.table.ValueRule.TheVariants.{MaxAge, LongMaxAge}
use Rattle.conf_values.specs.Values.{has_type, is_allowed, window}
use Rattle.conf.specs.Table.{Row, is_true_of_value, members_at, tables_at}

-- there is a value, and it fails the test
abbrev pub fails : (Data → Bool) → Option Data → Bool
fails test None = false
fails test (Some value) = not (test value)

-- the key has a value of another type
abbrev pub is_ill_typed : Members → Row → Bool
is_ill_typed document row = is_true_of_value (fails (has_type row.rule)) document row

-- the window is too long, by what is configured or by what holds without it: longer than a day in
-- version 1, and longer than a week for one of the policies of version 2
abbrev pub clashes : Members → ValueRule → Bool
clashes document MaxAge = nat_lt DAY_WINDOW (window (members_at document Policy))
clashes document LongMaxAge =
    list_any (λ pairs. nat_lt MAX_WINDOW (window pairs)) (tables_at document Policies)
clashes document rule = false

-- the key has a value that isn't allowed, or values don't go together, whether it has one or not
abbrev pub is_out_of_range : Members → Row → Bool
is_out_of_range document row =
    clashes document row.rule
    || is_true_of_value (fails (is_allowed document row.rule)) document row
