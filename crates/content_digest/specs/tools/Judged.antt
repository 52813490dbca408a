-- What is answered to members and to digests. No public clause cites this module.
use Rattle.std.specs.Prelude.{⊤, ℕ, List, Result, Ok, Err}
use Rattle.sfv_text.specs.declared.pair.Pair.{Pair}
use Rattle.sfv_text.specs.declared.value.Member.{Member}
use Rattle.content_digest.specs.declared.fault.DigestFault.{DigestFault}
use Rattle.content_digest.specs.declared.fault.DigestFault.TheVariants.{Memory, Malformed, NoneKnown, Mismatch}
use Rattle.content_digest.specs.Digests.{DigestHolds}
use Rattle.content_digest.specs.Faults.{Differs, IsMismatch, IsDigestFault}

-- why a member's digest is refused
abbrev pub FailsByMember : List ℕ → Pair Member → DigestFault → Type 0
FailsByMember content member Memory = ⊤
FailsByMember content member (Mismatch algorithm kept computed) =
    Differs content member algorithm kept computed
FailsByMember content member Malformed = ⊥
FailsByMember content member NoneKnown = ⊥

-- why the digests of members are refused
abbrev pub FailsByMembers : List ℕ → List (Pair Member) → DigestFault → Type 0
FailsByMembers content members Memory = ⊤
FailsByMembers content members (Mismatch algorithm kept computed) =
    IsMismatch members content algorithm kept computed
FailsByMembers content members Malformed = ⊥
FailsByMembers content members NoneKnown = ⊥

-- the answer and the fact for which it is given; out of memory has none
abbrev pub ExplainsDigest : List ℕ → List ℕ → Result ⊤ DigestFault → Type 0
ExplainsDigest text content (Ok _) = DigestHolds text content
ExplainsDigest text content (Err Memory) = ⊤
ExplainsDigest text content (Err fault) = IsDigestFault text content fault
