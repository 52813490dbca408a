use Rattle.std.proofs.Common.{◌≡◌, sym, ◌∙◌}
use Rattle.std.proofs.lemmas.Bool.{false≢true, not-false, not-true}
use Rattle.std.proofs.lemmas.Slice.Eq.{bytes_eq-Decides}
use Rattle.normal_forms.specs.tools.Pieces.{text_left}
use Rattle.normal_forms.proofs.SameTexts.{parts_apart, parts_joined, parts_same}
use Rattle.normal_forms.proofs.pieces.are_same_text.Goals as goal

pub returns-then-ne : goal.returns-then-ne
returns-then-ne c =
    let ours = c.split_at.ensures in
    let theirs = c.split_at-else-is_empty-3.ensures in
    let a = c.split_at.result.0.now in
    let b = c.split_at-else-is_empty-3.result.0.now in
    parts_apart (text_left c.args.one ≡ text_left c.args.other) c.pieces.ours.now c.pieces.theirs.now (text_left c.pieces.our_pieces) (text_left c.pieces.their_pieces) a b
    c.split_at.result.1.now c.split_at-else-is_empty-3.result.1.now c.pieces.invariant (parts_joined c.min-count.result c.pieces.ours.now a c.split_at.result.1.now ours.front ours.back)
    (parts_joined c.min-count.result c.pieces.theirs.now b c.split_at-else-is_empty-3.result.1.now theirs.front theirs.back) (ours.front_len ∙ sym theirs.front_len)
    (λ same. false≢true (sym (not-true _ (sym c.if-ne.ensures)) ∙ (bytes_eq-Decides a b).1 same))

pub pieces-preserved : goal.pieces-preserved
pieces-preserved c =
    let ours = c.split_at.ensures in
    let theirs = c.split_at-else-is_empty-3.ensures in
    let a = c.split_at.result.0.now in
    let b = c.split_at-else-is_empty-3.result.0.now in
    parts_same (text_left c.args.one ≡ text_left c.args.other) c.pieces.ours.now c.pieces.theirs.now (text_left c.pieces.our_pieces) (text_left c.pieces.their_pieces) a b
    c.split_at.result.1.now c.split_at-else-is_empty-3.result.1.now c.pieces.invariant (parts_joined c.min-count.result c.pieces.ours.now a c.split_at.result.1.now ours.front ours.back)
    (parts_joined c.min-count.result c.pieces.theirs.now b c.split_at-else-is_empty-3.result.1.now theirs.front theirs.back)
    ((bytes_eq-Decides a b).0 (not-false _ (sym c.if-ne.ensures)))
