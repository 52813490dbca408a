use Rattle.std.proofs.Common.{◌≡◌, ℕ, List, ◌++◌, map, take, codes}
use Rattle.std.specs.List.{flat_map}
use Rattle.component_ids.specs.Identifiers.{id_text}
use Rattle.component_ids.specs.tools.Spans.{HasParts}
use Rattle.component_ids.proofs.params_text.write_ids.Given as goal

abbrev pub invariant-loop-id : goal.invariant-loop-id
invariant-loop-id l = record {
  text : l.text ≡ l.initial.text ++ flat_map (λ id. codes " " ++ id_text id) (take l.id-index l.others);
  parts : (parts : List (List ℕ)) → HasParts l.initial.text l.initial.spans.items parts
      → HasParts l.text l.spans.items (parts ++ map id_text (take l.id-index l.others));
}
