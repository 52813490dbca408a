use Rattle.std.proofs.Common.{refl, sym, ◌∙◌}
use Rattle.sfv_text.specs.declared.value.Member.TheVariants.{InnerList as InnerMember}
use Rattle.component_ids.specs.SignatureParams.{list_of}
use Rattle.component_values.specs.Context.{context_of}
use Rattle.signatures.specs.Signatures.{input_name, signature_name}
use Rattle.signing.specs.SignCauses.{HasLabel}
use Rattle.signing.specs.declared.place.LabelPlace.TheVariants as place
use Rattle.signing.specs.tools.Judged.{NoneBelow}
use Rattle.signing.proofs.Causes.{places_fault, places_none}
use Rattle.signing.proofs.Fields.{unmentioned_place}
use Rattle.signing.proofs.refuse.judge_fields.Goals as goal

pub returns-in-Some : goal.returns-in-Some
returns-in-Some c =
    places_fault (context_of c.args.context.now) c.args.spec.now (λ (_ : Unit {0}). NoneBelow (context_of c.args.context.now) c.args.spec.now 5) c.in_ok-input.input c.in_ok-signature.signature (rw c.bytes-label.ensures at c.in_ok-input.ensures) (rw c.bytes-label.ensures at c.in_ok-signature.ensures)
    c.in-Some.fault (sym c.fault_of_places.ensures ∙ c.in-Some.is)

pub returns-in-None : goal.returns-in-None
returns-in-None c =
    places_none (context_of c.args.context.now) c.args.spec.now c.in_ok-input.input c.in_ok-signature.signature (rw c.bytes-label.ensures at c.in_ok-input.ensures) (rw c.bytes-label.ensures at c.in_ok-signature.ensures)
    (sym c.fault_of_places.ensures ∙ c.in-None.is)

pub returns-then-not-in_signature : goal.returns-then-not-in_signature
returns-then-not-in_signature c =
    let message = (context_of c.args.context.now).message in
    let spec = c.args.spec.now in
    let has = c.requires c.if-has_signature.true in
    let own = has.3 in
    let input : ¬ HasLabel message input_name spec.label = rw c.bytes-label.ensures at (c.in_ok-in_input.ensures c.if-not-in_input.true) in
    let signature : ¬ HasLabel message signature_name spec.label = rw c.bytes-label.ensures at (c.in_ok-in_signature.ensures c.if-not-in_signature.true) in
    places_none (context_of c.args.context.now) spec place.Free place.Free (unmentioned_place message input_name spec.label has.0 (InnerMember (list_of has.1)) own.input input)
    (unmentioned_place message signature_name spec.label has.0 own.member own.signature signature) refl
