-- Whether the digests of a message's field are those of its content (RFC 9530 section 2).
use Rattle.std.specs.Prelude.{◌≡◌, ℕ, Option, Some, None, List}
use Rattle.msg_head.specs.declared.error.Side.TheVariants.{Header}
use Rattle.msg_head.specs.Values.{combined_value}
use Rattle.msg_body.specs.Messages.{Message}
use Rattle.msg_body.specs.Views.{lines_on, message_content}
use Rattle.content_digest.specs.Digests.{DigestHolds, digest_name}
use Rattle.content_digest.specs.Faults.{IsDigestFault}
use Rattle.content_digest.specs.declared.fault.DigestFault.{DigestFault}
use Rattle.content_digest.specs.declared.fault.DigestFault.TheVariants as fault
use Rattle.signatures.specs.declared.place.DigestReason.{DigestReason}
use Rattle.signatures.specs.declared.place.DigestReason.TheVariants.{Malformed, NoneKnown, Mismatch}

-- the combined value of the field of the digests
abbrev pub digest_text : Message → List ℕ
digest_text message = combined_value (lines_on Header message) digest_name

-- the reason, where the digests have a fault
abbrev pub digest_reason : DigestFault → Option DigestReason
digest_reason fault.Memory = None
digest_reason fault.Malformed = Some Malformed
digest_reason fault.NoneKnown = Some NoneKnown
digest_reason (fault.Mismatch algorithm kept computed) = Some (Mismatch algorithm)

-- the field's digests are those of the content, or this is why not
abbrev pub IsDigestAnswer : Message → Option DigestReason → Type 0
IsDigestAnswer message None = DigestHolds (digest_text message) (message_content message)
IsDigestAnswer message (Some reason) = (f : DigestFault) × (digest_reason f ≡ Some reason)
    × IsDigestFault (digest_text message) (message_content message) f
