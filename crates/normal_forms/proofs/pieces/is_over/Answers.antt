use Rattle.std.proofs.Common.{◌<◌, length, rules, sym, ◌∙◌}
use Rattle.normal_forms.specs.tools.Pieces.{text_left}
use Rattle.normal_forms.proofs.SameTexts.{not_over}
use Rattle.normal_forms.proofs.pieces.is_over.Goals as goal

pub returns-then-not-is_empty : goal.returns-then-not-is_empty
returns-then-not-is_empty c =
    let some : 0 < length c.in-Some.piece.now = search rules in
    not_over (text_left c.args.pieces) c.in-Some.piece.now (text_left c.next.new.self) (sym c.loop-piece.invariant ∙ c.in-Some.ensures.steps) some
