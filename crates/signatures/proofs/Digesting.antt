-- Why the digests of a field have a fault.
use Rattle.std.proofs.Common.{◌≡◌, Option, Some, Result, Ok, Err, IfOk, refl}
use Rattle.byte_grammar.specs.Causes.{AnswersWhere}
use Rattle.msg_body.specs.Messages.{Message}
use Rattle.msg_body.specs.Views.{message_content}
use Rattle.content_digest.specs.Faults.{IsDigestFault}
use Rattle.content_digest.specs.declared.fault.DigestFault.{DigestFault}
use Rattle.content_digest.specs.declared.fault.DigestFault.TheVariants as fault
use Rattle.signatures.specs.declared.place.DigestReason.{DigestReason}
use Rattle.signatures.specs.ContentDigests.{IsDigestAnswer, digest_reason, digest_text}

-- the reason of a fault of the digests
reason_says : (message : Message) (f : DigestFault) (reason : DigestReason) → digest_reason f ≡ Some reason
    → ((one : DigestFault) → ¬ (one ≡ fault.Memory) → AnswersWhere {T = Unit} fault.Memory (Err f) one (IsDigestFault (digest_text message) (message_content message) one))
    → IsDigestAnswer message (Some reason)
reason_says message fault.Memory reason e answers = absurd cc
reason_says message fault.Malformed reason e answers = (fault.Malformed, e, (answers fault.Malformed (λ e. absurd cc)).only refl)
reason_says message fault.NoneKnown reason e answers = (fault.NoneKnown, e, (answers fault.NoneKnown (λ e. absurd cc)).only refl)
reason_says message (fault.Mismatch algorithm kept computed) reason e answers =
    (fault.Mismatch algorithm kept computed, e, (answers (fault.Mismatch algorithm kept computed) (λ e. absurd cc)).only refl)

-- what is answered of a fault of the digests
pub fault_answered : {M : Type 0} (message : Message) (f : DigestFault) (result : Result (Option DigestReason) M)
    → IfOk result (λ answer. (reason : DigestReason) × (answer ≡ Some reason) × (digest_reason f ≡ Some reason))
    → ((one : DigestFault) → ¬ (one ≡ fault.Memory) → AnswersWhere {T = Unit} fault.Memory (Err f) one (IsDigestFault (digest_text message) (message_content message) one))
    → IfOk result (IsDigestAnswer message)
fault_answered message f (Ok answer) says answers = rw says.1 (reason_says message f says.0 says.2 answers)
fault_answered message f (Err memory) says answers = tt
