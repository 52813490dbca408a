-- Why a text is no message, as what stops a run.
use Rattle.std.proofs.Common.{◌≡◌, ◌≤◌, ℕ, List, length, Err, refl}
use Rattle.byte_grammar.specs.Causes.{AnswersWhere}
use Rattle.msg_body.specs.WholeTexts.{IsMessageFault, out_of_memory}
use Rattle.msg_body.specs.declared.error.MessageError.TheVariants as message
use Rattle.msg_body.specs.declared.error.MessageFault.{MessageFault}
use Rattle.msg_body.specs.declared.error.MessageFault.TheVariants as fault
use Rattle.msg_body.specs.declared.whole.Reading.{Reading}
use Rattle.refusals.specs.declared.refusal.TheConstants.{MAX_INPUT_BYTES}
use Rattle.refusals.specs.declared.refusal.Refusal.TheVariants.{Of}
use Rattle.refusals.specs.declared.role.Role.{Role}
use Rattle.refusals.specs.declared.file.FileRefusal.TheVariants.{Message as NoMessage}
use Rattle.intake.specs.Messages.{IsInputRefused}
use Rattle.intake.specs.Stops.{IfRefused, IsRefusalFor, stop_of_message}

pub error_stop : {T : Type 0} (r : Reading) (role : Role) (input : List ℕ) (f : MessageFault) → length input ≤ MAX_INPUT_BYTES
    → ((other : MessageFault) → ¬ (other ≡ out_of_memory) → AnswersWhere {T = T} out_of_memory (Err f) other (IsMessageFault r input other))
    → IfRefused (stop_of_message role f) (IsRefusalFor (IsInputRefused r input) (λ refusal. Of role refusal))
error_stop r role input (fault.Refused message.Memory) short faults = tt
error_stop r role input (fault.Refused (message.TooLong side)) short faults =
    (NoMessage (fault.Refused (message.TooLong side)), (short, (faults (fault.Refused (message.TooLong side)) (λ e. absurd (cc e))).only refl), refl)
error_stop r role input (fault.Refused (message.NakedEnd offset)) short faults =
    (NoMessage (fault.Refused (message.NakedEnd offset)), (short, (faults (fault.Refused (message.NakedEnd offset)) (λ e. absurd (cc e))).only refl), refl)
error_stop r role input (fault.Refused message.BadStart) short faults =
    (NoMessage (fault.Refused message.BadStart), (short, (faults (fault.Refused message.BadStart) (λ e. absurd (cc e))).only refl), refl)
error_stop r role input (fault.Refused (message.TooManyLines side)) short faults =
    (NoMessage (fault.Refused (message.TooManyLines side)), (short, (faults (fault.Refused (message.TooManyLines side)) (λ e. absurd (cc e))).only refl), refl)
error_stop r role input (fault.Refused (message.BadLine side index)) short faults =
    (NoMessage (fault.Refused (message.BadLine side index)), (short, (faults (fault.Refused (message.BadLine side index)) (λ e. absurd (cc e))).only refl), refl)
error_stop r role input (fault.Refused message.FramingConflict) short faults =
    (NoMessage (fault.Refused message.FramingConflict), (short, (faults (fault.Refused message.FramingConflict) (λ e. absurd (cc e))).only refl), refl)
error_stop r role input (fault.Refused message.BadLength) short faults =
    (NoMessage (fault.Refused message.BadLength), (short, (faults (fault.Refused message.BadLength) (λ e. absurd (cc e))).only refl), refl)
error_stop r role input (fault.Refused message.CodingRefused) short faults =
    (NoMessage (fault.Refused message.CodingRefused), (short, (faults (fault.Refused message.CodingRefused) (λ e. absurd (cc e))).only refl), refl)
error_stop r role input (fault.Refused (message.BadChunk offset)) short faults =
    (NoMessage (fault.Refused (message.BadChunk offset)), (short, (faults (fault.Refused (message.BadChunk offset)) (λ e. absurd (cc e))).only refl), refl)
error_stop r role input (fault.Refused message.ContentTooLong) short faults =
    (NoMessage (fault.Refused message.ContentTooLong), (short, (faults (fault.Refused message.ContentTooLong) (λ e. absurd (cc e))).only refl), refl)
error_stop r role input (fault.Truncated count) short faults =
    (NoMessage (fault.Truncated count), (short, (faults (fault.Truncated count) (λ e. absurd (cc e))).only refl), refl)
error_stop r role input (fault.Trailing offset) short faults =
    (NoMessage (fault.Trailing offset), (short, (faults (fault.Trailing offset) (λ e. absurd (cc e))).only refl), refl)
