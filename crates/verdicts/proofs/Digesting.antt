-- Whether the digest of the content is covered and right.
use Rattle.std.proofs.Common.{◌≡◌, ◌⊎◌, true, Some, List, refl, sym, ap, ◌∙◌, inl, inr}
use Rattle.std.proofs.lemmas.Bool.{cases_Bool, false≢true}
use Rattle.msg_body.specs.Messages.{Message}
use Rattle.msg_body.specs.Views.{message_content}
use Rattle.component_ids.specs.declared.id.ComponentId.{ComponentId}
use Rattle.content_digest.specs.Faults.{IsDigestFault}
use Rattle.content_digest.specs.declared.fault.DigestFault.{DigestFault}
use Rattle.content_digest.specs.declared.fault.DigestFault.TheVariants as fault
use Rattle.content_digest.proofs.DigestLaws.{one_digest_fault, no_fault_where_holds, has_digest_answer}
use Rattle.signatures.specs.declared.place.DigestReason.{DigestReason}
use Rattle.signatures.specs.declared.place.DigestReason.TheVariants.{Uncovered, Malformed, NoneKnown, Mismatch}
use Rattle.verdicts.specs.ContentDigest.{covers_digest, digest_text, digest_reason, HasDigest, LacksDigest}

module _ (message : Message) (ids : List ComponentId) where
  pub has_not_both : HasDigest message ids → (reason : DigestReason) → ¬ LacksDigest message ids reason
  has_not_both has reason (inl lacks) = false≢true (sym lacks.1 ∙ has.covered)
  has_not_both has reason (inr lacks) = no_fault_where_holds (digest_text message) (message_content message) lacks.1 has.holds lacks.3

  pub one_reason : (reason other : DigestReason) → LacksDigest message ids reason → LacksDigest message ids other → reason ≡ other
  one_reason reason other (inl a) (inl b) = a.0 ∙ sym b.0
  one_reason reason other (inl a) (inr b) = absurd (false≢true (sym a.1 ∙ b.0))
  one_reason reason other (inr a) (inl b) = absurd (false≢true (sym b.1 ∙ a.0))
  one_reason reason other (inr a) (inr b) =
      let same = one_digest_fault (digest_text message) (message_content message) a.1 b.1 a.3 b.3 in
      let e : Some reason ≡ Some other = sym a.2 ∙ (ap digest_reason same ∙ b.2) in
      cc

  some_reason : covers_digest ids ≡ true → (f : DigestFault) → IsDigestFault (digest_text message) (message_content message) f → (reason : DigestReason) × LacksDigest message ids reason
  some_reason covered fault.Memory is = absurd is.holds
  some_reason covered fault.Malformed is = (Malformed, inr (covered, fault.Malformed, refl, is))
  some_reason covered fault.NoneKnown is = (NoneKnown, inr (covered, fault.NoneKnown, refl, is))
  some_reason covered (fault.Mismatch algorithm kept computed) is = (Mismatch algorithm, inr (covered, fault.Mismatch algorithm kept computed, refl, is))

  pub has_digest_or_reason : HasDigest message ids ⊎ ((reason : DigestReason) × LacksDigest message ids reason)
  has_digest_or_reason = elim (cases_Bool (covers_digest ids)) [
    | inr uncovered ↦ inr (Uncovered, inl (refl, uncovered))
    | inl covered ↦ elim (has_digest_answer (digest_text message) (message_content message)) [
      | inl holds ↦ inl (record { covered = covered; holds = holds })
      | inr fails ↦ inr (some_reason covered fails.0 fails.1)
    ]
  ]
