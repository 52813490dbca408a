use Rattle.std.proofs.Common.{[], ◌++◌, sym, ap, ◌∙◌, append_assoc}
use Rattle.std.specs.Prelude.{codes}
use Rattle.std.specs.Str.{str_to_ascii_lowercase}
use Rattle.msg_head.specs.LeftInLines.{value_left}
use Rattle.msg_head.specs.Values.{value}
use Rattle.framing.proofs.Codings.{taken_more, not_chunked, is_chunked_where}
use Rattle.framing.proofs.coding.is_chunked.Goals as goal

pub loop-piece-init : goal.loop-piece-init
loop-piece-init c = (
  [],
  ap value_left c.into_iter-piece-iterator.ensures.into_iter_gives ∙ c.value_pieces-piece-items.ensures.value,
  ap str_to_ascii_lowercase c.as_slice-left.ensures,
)

pub returns-in_default : goal.returns-in_default
returns-in_default c =
    let done = c.loop-piece.invariant.0 in
    sym (not_chunked done c.in-Some.piece.now c.loop-piece.left.now (value_left c.next.new.self) (value c.args.line.raw.now) (ap (λ t. done ++ t) (sym c.in-Some.ensures.steps) ∙ c.loop-piece.invariant.1) c.loop-piece.invariant.2 c.in_default.ensures.none)

pub loop-piece-preserved : goal.loop-piece-preserved
loop-piece-preserved c =
    let done = c.loop-piece.invariant.0 in
    let piece = c.in-Some.piece.now in (
      done ++ piece,
      append_assoc done piece (value_left c.next.new.self) ∙ (ap (λ t. done ++ t) (sym c.in-Some.ensures.steps) ∙ c.loop-piece.invariant.1),
      taken_more done piece c.loop-piece.left.now c.in-Some-rest_after.rest.now (codes "chunked") c.loop-piece.invariant.2 c.in-Some-rest_after.ensures.some,
    )

pub returns : goal.returns
returns c =
    let done = c.loop-piece.invariant.0 in
    c.is_empty.ensures ∙ is_chunked_where done c.loop-piece.left.now (value c.args.line.raw.now) (ap (λ t. done ++ t) (sym c.in-None.ensures.steps.0) ∙ c.loop-piece.invariant.1) c.loop-piece.invariant.2
