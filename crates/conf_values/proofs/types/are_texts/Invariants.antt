use Rattle.std.proofs.Common.{◌≡◌, drop}
use Rattle.toml.specs.View.{items_view}
use Rattle.conf_values.specs.Values.{are_texts}
use Rattle.conf_values.proofs.types.are_texts.Given as goal

abbrev pub invariant-loop-value : goal.invariant-loop-value
invariant-loop-value l = are_texts (items_view (drop l.value-index l.value-items)) ≡ are_texts (items_view l.value-items)
