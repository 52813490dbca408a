use Rattle.std.proofs.Common.{◌∙◌, ap, subst, sym}
use Rattle.std.specs.Prelude.{IfOk}
use Rattle.std.proofs.lemmas.Bool.{false≢true}
use Rattle.component_values.specs.Context.{MessageContext}
use Rattle.signatures.specs.MessageSignatures.{AreSignaturesOf}
use Rattle.hop_audit.specs.tools.Compared.{SaysCompared}
use Rattle.hop_audit.specs.tools.Stages.{StageState}
use Rattle.hop_audit.proofs.Comparing.{fate_by}
use Rattle.hop_audit.proofs.comparison.Comparison.fate_of.Goals as goal

pub returns-then-not-has_same_signature-clause-fate : goal.returns-then-not-has_same_signature-clause-fate
returns-then-not-has_same_signature-clause-fate c = λ has.
    let message = c.args.after.now.context.message in
    let own = ap (λ (s : StageState). s.context) c.after.view_is in
    let signatures = subst (λ (m : MessageContext). AreSignaturesOf m.message c.after.inside.signatures) own c.after.invariant.signatures_are in
    false≢true (sym c.if-not-has_same_signature.true ∙ (c.has_same_signature.ensures message c.args.label.now (c.find.ensures.is message signatures)).1 has)

pub returns-clause-fate : goal.returns-clause-fate
returns-clause-fate c =
    let context = c.args.before.now.context in
    let message = c.args.after.now.context.message in
    let read = c.args.read.now in
    let own = ap (λ (s : StageState). s.context) c.after.view_is in
    let signatures = subst (λ (m : MessageContext). AreSignaturesOf m.message c.after.inside.signatures) own c.after.invariant.signatures_are in
    fate_by context message c.args.label.now read.params read.tag c.as_slice.result.now c.of_components.result
    ((c.has_same_signature.ensures message c.args.label.now (c.find.ensures.is message signatures)).0 c.if-not-has_same_signature.false) c.as_slice.ensures
    (subst (λ (m : MessageContext). IfOk c.of_components.result (SaysCompared context m.message c.as_slice.result.now)) own c.of_components.ensures.fate)
