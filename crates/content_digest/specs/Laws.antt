-- Laws of digests.
use Rattle.std.specs.Prelude.{◌≡◌, ◌↔◌, ◌⊎◌, ℕ, List}
use Rattle.sfv_read.specs.Laws.{ReadAlike}
use Rattle.content_digest.specs.declared.fault.DigestFault.{DigestFault}
use Rattle.content_digest.specs.Digests.{DigestHolds}
use Rattle.content_digest.specs.Faults.{IsDigestFault}

-- Digests hold, or they have a fault.
abbrev pub HasDigestAnswer : Type 0
HasDigestAnswer = (text content : List ℕ) →
    DigestHolds text content ⊎ ((fault : DigestFault) × IsDigestFault text content fault)

-- Digests that hold have no fault.
abbrev pub NoFaultWhereHolds : Type 0
NoFaultWhereHolds = (text content : List ℕ) (fault : DigestFault) →
    DigestHolds text content → ¬ IsDigestFault text content fault

-- Digests have at most one fault.
abbrev pub OneDigestFault : Type 0
OneDigestFault = (text content : List ℕ) (fault other : DigestFault) →
    IsDigestFault text content fault → IsDigestFault text content other → fault ≡ other

-- Of two texts that read as the same Dictionary both or neither have the digests of a content, and
-- both have the same faults.
pub record DependsOnItsDict : Type 0 where
  pub holds : (text other content : List ℕ) → ReadAlike text other
      → DigestHolds text content ↔ DigestHolds other content
  pub fault : (text other content : List ℕ) (fault : DigestFault) → ReadAlike text other
      → IsDigestFault text content fault → IsDigestFault other content fault
