use Rattle.std.proofs.Common.{◌==◌, ℕ, List, [], ◌∷◌, ◌++◌, length, sym, ap, subst, ◌∙◌, append_assoc}
use Rattle.msg_head.specs.Views.{field_line_of}
use Rattle.msg_head.specs.Values.{value, line_values}
use Rattle.component_values.specs.Values.{byte_sequences}
use Rattle.component_values.proofs.Sequences.{values_more, not_first}
use Rattle.component_values.proofs.lines.feed_byte_sequences.Goals as goal

pub loop-line-preserved : goal.loop-line-preserved
loop-line-preserved g c =
    let done = c.loop-line.invariant.0 in
    let line = field_line_of c.in-Some.line in
    let grown = values_more done line in (
      done ++ line ∷ [],
      append_assoc done (line ∷ []) c.next.new.self ∙ (ap (λ x. done ++ x) (sym c.in-Some.ensures.steps) ∙ c.loop-line.invariant.1),
      not_first (line_values done) (value line.raw) ∙ ap (λ (ts : List (List ℕ)). length ts == 0) (sym grown),
      λ text fed. subst (λ (ts : List (List ℕ)). g.A.Absorb.absorbed c.feed_next_sequence.new.into (text ++ byte_sequences ts)) (sym grown)
          (c.feed_next_sequence.ensures text (line_values done) c.loop-line.invariant.2 (c.loop-line.invariant.3 text fed)),
    )
