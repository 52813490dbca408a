-- A label for which there is no policy fails by its tag.
use Rattle.std.proofs.Common.{◌≡◌, ◌<◌, ◌<ℤ◌, pos, true, IsTrue, None, refl, length, arith}
use Rattle.std.specs.Option.{IsSomeAnd}
use Rattle.std.proofs.lemmas.Bool.{false≢true}
use Rattle.component_ids.specs.declared.id.ComponentId.{ComponentId}
use Rattle.component_ids.specs.declared.params.SigParams.{SigParams}
use Rattle.nonces.specs.declared.limits.TheConstants.{MAX_NONCE_BYTES}
use Rattle.settings.specs.declared.policy.Policy.{Policy}
use Rattle.settings.specs.declared.policy.NonceUse.TheVariants.{Require}
use Rattle.signatures.specs.declared.place.Place.{Place}
use Rattle.signatures.specs.declared.place.Place.TheVariants.{None as Nowhere, Identifier}
use Rattle.signatures.specs.declared.rule.Rule.{Rule}
use Rattle.signatures.specs.declared.rule.Rule.TheVariants.{ComponentRequired, CreatedAbsent, CreatedAhead, TooOld, ExpiresAbsent, Expired, TagWrong, NonceAbsent, NonceRepeated, NonceLong, Digest, NoncesFull}
use Rattle.verdicts.specs.ContentDigest.{LacksDigest}
use Rattle.verdicts.specs.Laws.{FailsByItsTag, HasNoPolicy, HasVerdictOfItsTag, HoldsOtherRulesOfPolicies, is_rule_of_policies}
use Rattle.verdicts.specs.Parameters.{created_of, expires_of, nonce_of}
use Rattle.verdicts.specs.Policies.{required_of, IsFirstUncovered, IsAhead, IsTooOld, asks_new, IsReplay, LacksRoom}
use Rattle.verdicts.specs.Rules.{Fails, OfPolicy, asks_digest_of}
use Rattle.verdicts.specs.Verification.{Verification}
use Rattle.verdicts.proofs.OfSignature.{on_none}
use Rattle.verdicts.proofs.PolicyFailures.{choice_fails, fails_without}

pub fails_by_its_tag : FailsByItsTag
fails_by_its_tag v has = fails_without v has.params has.tag has.signature has.none

module _ (v : Verification) (has : HasNoPolicy v) where
  without : (Fact : Policy → SigParams → Type 0) → ¬ OfPolicy v Fact
  without = on_none v has.params has.tag has.signature has.none

  others : (rule : Rule) (place : Place) → is_rule_of_policies rule ≡ true → ¬ Fails v rule place
  others ComponentRequired place is x = without (λ policy params. (id : ComponentId) × (place ≡ Identifier id) × IsFirstUncovered params.ids (required_of v policy) id) x
  others CreatedAbsent place is x = without (λ policy params. created_of params ≡ None) x.1
  others CreatedAhead place is x = without (λ policy params. IsSomeAnd (created_of params) (IsAhead policy v.now)) x.1
  others TooOld place is x = without (λ policy params. IsSomeAnd (created_of params) (IsTooOld policy v.now)) x.1
  others ExpiresAbsent place is x = without (λ policy params. IsTrue policy.expires × (expires_of params ≡ None)) x.1
  others Expired place is x = without (λ policy params. IsSomeAnd (expires_of params) (λ expires. expires <ℤ pos v.now)) x.1
  others NonceAbsent place is x = without (λ policy params. (policy.nonce ≡ Require) × (nonce_of params ≡ None)) x.1
  others NonceRepeated place is x = without (λ policy params. IsTrue (asks_new policy.nonce) × IsSomeAnd (nonce_of params) (IsReplay v params)) x.1
  others NonceLong place is x = without (λ policy params. IsTrue (asks_new policy.nonce) × IsSomeAnd (nonce_of params) (λ nonce. MAX_NONCE_BYTES < length nonce)) x.1
  others Digest place is x = without (λ policy params. IsTrue (asks_digest_of v policy) × LacksDigest v.context.message params.ids x.0) x.2
  others NoncesFull place is x = without (LacksRoom v.now v.seen) x.1
  others rule place is x = absurd (false≢true is)

pub holds_other_rules_of_policies : HoldsOtherRulesOfPolicies
holds_other_rules_of_policies v rule place has is = others v has rule place is

pub has_verdict_of_its_tag : HasVerdictOfItsTag
has_verdict_of_its_tag v has passes =
    choice_fails v has.params has.tag has.signature (λ rule place lt. passes rule place (omega (arith, lt))) TagWrong Nowhere (refl, refl, has.none)
