use Rattle.std.proofs.Common.{◌≡◌, drop}
use Rattle.std.specs.Prelude.{nat_lt}
use Rattle.std.specs.List.{list_any}
use Rattle.toml.specs.View.{items_view}
use Rattle.nonces.specs.declared.limits.TheConstants.{MAX_WINDOW}
use Rattle.conf_values.specs.Parts.{tables_of}
use Rattle.conf_values.specs.Values.{window}
use Rattle.conf_values.proofs.windows.has_long_window.Given as goal

abbrev pub invariant-loop-value : goal.invariant-loop-value
invariant-loop-value l =
    list_any (λ pairs. nat_lt MAX_WINDOW (window pairs)) (tables_of (items_view (drop l.value-index l.value-items)))
    ≡ list_any (λ pairs. nat_lt MAX_WINDOW (window pairs)) (tables_of (items_view l.value-items))
