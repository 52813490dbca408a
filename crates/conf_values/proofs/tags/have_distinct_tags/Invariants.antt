use Rattle.std.proofs.Common.{◌≡◌, Some, drop, map}
use Rattle.toml.specs.View.{view}
use Rattle.conf_values.specs.Parts.{members_in}
use Rattle.conf_values.specs.Values.{have_distinct_tags}
use Rattle.conf_values.proofs.tags.have_distinct_tags.Given as goal

abbrev pub invariant-loop-index : goal.invariant-loop-index
invariant-loop-index l =
    have_distinct_tags (map (λ value. members_in (Some (view value))) l.tables)
    ≡ have_distinct_tags (map (λ value. members_in (Some (view value))) (drop l.index l.tables))
