use Rattle.std.proofs.Common.{◌≡◌, ◌<◌, length, ◌∙◌, sym, arith}
use Rattle.std.proofs.lemmas.Bool.{not-false}
use Rattle.std.proofs.lemmas.Slice.Eq.{bytes_eq-Decides}
use Rattle.derived_values.proofs.SameTexts.{same_more}
use Rattle.derived_values.proofs.query_params.are_equal.Goals as goal

pub loop-index-preserved : goal.loop-index-preserved
loop-index-preserved c =
    let text = c.index-texts-index in
    let other = c.index-others-index in
    let same : text.result ≡ other.result =
    sym c.bytes.ensures ∙ ((bytes_eq-Decides c.bytes.result.now c.bytes-in-loop-index.result.now).0 (not-false _ (sym c.if-ne.ensures)) ∙ c.bytes-in-loop-index.ensures) in
    let lt : c.loop-index.index < length c.args.others.now = omega (arith, c.loop-index-test.true, c.if-texts-others.false) in
    same_more c.args.texts.now c.args.others.now c.loop-index.index text.result other.result c.loop-index-test.true lt (sym text.is ∙ (same ∙ other.is)) c.loop-index.invariant
