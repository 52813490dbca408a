-- Digests are the same where the field's text reads as the same Dictionary.
use Rattle.std.proofs.Common.{ℕ, List, inl, inr}
use Rattle.sfv_read.specs.Laws.{ReadAlike}
use Rattle.content_digest.specs.declared.fault.DigestFault.{DigestFault}
use Rattle.content_digest.specs.declared.fault.DigestFault.TheVariants.{Memory, Malformed, NoneKnown, Mismatch}
use Rattle.content_digest.specs.Digests.{DigestHolds}
use Rattle.content_digest.specs.Faults.{IsDigestCause, IsDigestFault}
use Rattle.content_digest.specs.Laws.{DependsOnItsDict}

alike_back : (text other : List ℕ) → ReadAlike text other → ReadAlike other text
alike_back text other alike dict = ((alike dict).1, (alike dict).0)

holds_too : (text other content : List ℕ) → ReadAlike text other → DigestHolds text content → DigestHolds other content
holds_too text other content alike holds = record { dict = holds.dict; reads = (alike holds.dict).0 holds.reads; known = holds.known; each = holds.each }

cause_too : (text other content : List ℕ) → ReadAlike text other → (fault : DigestFault) → IsDigestCause text content fault → IsDigestCause other content fault
cause_too text other content alike Malformed (inl none) = inl (λ dict reads. none dict ((alike dict).1 reads))
cause_too text other content alike Malformed (inr unsound) = inr (unsound.0, (alike unsound.0).0 unsound.1, unsound.2)
cause_too text other content alike NoneKnown cause = (cause.0, (alike cause.0).0 cause.1, cause.2)
cause_too text other content alike (Mismatch algorithm kept computed) cause = (cause.0, (alike cause.0).0 cause.1, cause.2)
cause_too text other content alike Memory cause = cause

fault_too : (text other content : List ℕ) (fault : DigestFault) → ReadAlike text other → IsDigestFault text content fault → IsDigestFault other content fault
fault_too text other content fault alike first = record {
  holds = cause_too text other content alike fault first.holds;
  none_before = λ earlier less cause. first.none_before earlier less (cause_too other text content (alike_back text other alike) earlier cause);
}

pub depends_on_its_dict : DependsOnItsDict
depends_on_its_dict = record {
  holds = λ text other content alike. (holds_too text other content alike, holds_too other text content (alike_back text other alike));
  fault = fault_too;
}
