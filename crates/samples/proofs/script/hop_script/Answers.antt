use Rattle.std.proofs.Common.{◌∙◌, ℕ, ap}
use Rattle.samples.specs.Draws.{drawn_below, next_state}
use Rattle.samples.proofs.Parts.{steps_are, three_pushed}
use Rattle.samples.proofs.script.hop_script.Goals as goal

pub returns : goal.returns
returns c =
    let one = c.below-index.ensures.state in
    let two = c.below.ensures.state ∙ ap next_state one in
    let three = c.below-from.ensures.state ∙ ap next_state two in
    let four = c.below-to.ensures.state ∙ ap next_state three in
    let five = c.below-size.ensures.state ∙ ap next_state four in (
      three_pushed _ _ _ _ _ _ _ c.new-script.ensures c.in_ok-push.ensures.ok c.in_ok-push-2.ensures.ok c.in_ok-push-3.ensures.ok
          ∙ steps_are c.args.draws.now.state c.below-index.result c.below.result c.below-from.result c.below-to.result c.below-size.result
          c.in_ok-from_bytes.field-0 c.new.result c.in_ok-sizes_of.field-0
          c.below-index.ensures.is
          (c.below.ensures.is ∙ ap (λ (s : ℕ). drawn_below 3 (next_state s)) one)
          c.below.ensures.within
          (c.below-from.ensures.is ∙ ap (λ (s : ℕ). drawn_below 6 (next_state s)) two)
          (c.below-to.ensures.is ∙ ap (λ (s : ℕ). drawn_below 6 (next_state s)) three)
          (c.below-size.ensures.is ∙ ap (λ (s : ℕ). drawn_below 9000 (next_state s)) four)
          c.in_ok-from_bytes.ensures.ok c.new.ensures c.in_ok-sizes_of.ensures,
      five,
    )
