use Rattle.std.proofs.Common.{◌≡◌, List, ℕ, false, refl, subst}
use Rattle.std.specs.List.{list_any}
use Rattle.component_ids.specs.declared.id.ComponentId.{ComponentId}
use Rattle.component_values.specs.Context.{context_of}
use Rattle.signing.specs.SignCauses.{IsFirstSelfCover, covers_itself}
use Rattle.gateway.proofs.Signable.{covered_at, signable}
use Rattle.gateway.proofs.own_signature.sign_by.Goals as goal

pub sign_beside-requires-clause-signature : goal.sign_beside-requires-clause-signature
sign_beside-requires-clause-signature c =
    (c.args.accepted.now.label, c.args.accepted.now.params, c.requires.signature.0, c.requires.signature.1)

pub held_fault-requires : goal.held_fault-requires
held_fault-requires c = (context_of c.args.context.now, λ other. (c.in-Err.ensures.fault c.in-Err.fault other).only refl)

pub returns-in-Err : goal.returns-in-Err
returns-in-Err c =
    c.in_ok-held_fault-in-Err.ensures (context_of c.args.context.now) c.args.accepted.now.params (λ other. (c.in-Err.ensures.fault c.in-Err.fault other).only refl)

pub returns-in-Some : goal.returns-in-Some
returns-in-Some c =
    let spec = c.args.spec.now in
    let first = subst (λ (ids : List ComponentId). IsFirstSelfCover c.bytes.result.now ids c.in-Some.field-0) c.as_slice.ensures c.in-Some.ensures.some in
    let first_own = subst (λ (label : List ℕ). IsFirstSelfCover label c.args.accepted.now.params.ids c.in-Some.field-0) c.bytes.ensures first in
    (signable (context_of c.args.context.now) spec c.in-Ok.text c.in-Ok.ensures.fault, covered_at c.args.accepted.now.params spec c.in-Some.field-0 first_own)

pub returns-in-None : goal.returns-in-None
returns-in-None c =
    let spec = c.args.spec.now in
    let none = subst (λ (ids : List ComponentId). list_any (covers_itself c.bytes.result.now) ids ≡ false) c.as_slice.ensures c.in-None.ensures.none in
    let none_own = subst (λ (label : List ℕ). list_any (covers_itself label) c.args.accepted.now.params.ids ≡ false) c.bytes.ensures none in
    record {
      signable = signable (context_of c.args.context.now) spec c.in-Ok.text c.in-Ok.ensures.fault;
      uncovered = none_own;
      written = c.in-Ok.ensures.spells.0;
      signed = c.in-Ok.ensures.spells.1;
      text_is = c.in-Ok.ensures.spells.2.text;
    }
