use Rattle.std.proofs.Common.{sym, ◌∙◌}
use Rattle.std.proofs.lemmas.Bool.{false≢true}
use Rattle.msg_body.specs.Views.{message_of}
use Rattle.normal_forms.specs.Agreement.{HasSameBasis}
use Rattle.normal_forms.proofs.Agreeing.{all_more, first_other_is, one_basis_is}
use Rattle.normal_forms.proofs.OneExplanation.{all_bases}
use Rattle.normal_forms.proofs.agreement.first_other.Goals as goal

pub returns-then-not-has_same_basis : goal.returns-then-not-has_same_basis
returns-then-not-has_same_basis c =
    first_other_is (message_of c.args.message.now) (message_of c.args.other.now) c.loop-basis.basis-index _ c.loop-basis-test.true c.loop-basis.invariant
    (λ same. false≢true (sym c.if-not-has_same_basis.true ∙ c.has_same_basis.ensures.1 same))

pub loop-basis-preserved : goal.loop-basis-preserved
loop-basis-preserved c =
    all_more (HasSameBasis (message_of c.args.message.now) (message_of c.args.other.now)) all_bases c.loop-basis.basis-index _ c.loop-basis-test.true c.loop-basis.invariant
    (c.has_same_basis.ensures.0 c.if-not-has_same_basis.false)

pub returns : goal.returns
returns c = one_basis_is (message_of c.args.message.now) (message_of c.args.other.now) c.loop-basis.basis-index c.loop-basis-test.false c.loop-basis.invariant
