-- The line that a refusal writes, and the status that it gives.
use Rattle.std.specs.Prelude.{ℕ, List, ◌∷◌, ◌++◌, codes}
use Rattle.std.specs.Fmt.{decimal}
use Rattle.std.specs.Str.{byte}
use Rattle.component_ids.specs.Causes.{id_fault_text}
use Rattle.derived_values.specs.Words.{lack_word}
use Rattle.field_lists.specs.Words.{from_fault_text, to_fault_text}
use Rattle.field_lists.specs.declared.to_fault.ToFault.{ToFault}
use Rattle.field_lists.specs.declared.to_fault.ToFault.TheVariants.{TooLarge}
use Rattle.hms_io.specs.declared.status.Status.{Status}
use Rattle.hms_io.specs.declared.status.Status.TheVariants.{BadArguments, BadInput, LimitPassed}
use Rattle.normal_forms.specs.Words.{explain_fault_text}
use Rattle.signing.specs.Words.{sign_fault_text, want_fault_text}
use Rattle.signing.specs.declared.fault.SignFault.{SignFault}
use Rattle.signing.specs.declared.fault.SignFault.TheVariants.{TooLong}
use Rattle.refusals.specs.Texts.{role_text, file_text, file_status}
use Rattle.refusals.specs.declared.refusal.Refusal.{Refusal}
use Rattle.refusals.specs.declared.refusal.Refusal.TheVariants.{Arguments, Of, Command}
use Rattle.refusals.specs.declared.refusal.CommandRefusal.{CommandRefusal}
use Rattle.refusals.specs.declared.refusal.CommandRefusal.TheVariants.{Syntax, Ids, Lacks, Sign, Wishes, NotTaken, Explain, ToMessage, FromMessage, Digest}
use Rattle.refusals.specs.declared.refusal.DigestRefusal.{DigestRefusal}
use Rattle.refusals.specs.declared.refusal.DigestRefusal.TheVariants.{Malformed, Unacceptable, Unmet}
use Rattle.refusals.specs.declared.refusal.StepRefusal.{StepRefusal}
use Rattle.refusals.specs.declared.refusal.StepRefusal.TheVariants.{LabelUnread, NotApplicable, NotPermitted}

-- why a step of a script isn't taken, with its index
abbrev pub step_text : StepRefusal → List ℕ
step_text LabelUnread = codes "label-unread"
step_text (NotApplicable index) = codes "not-applicable " ++ decimal index
step_text (NotPermitted index) = codes "not-permitted " ++ decimal index

-- why the digest that a request asks for isn't made (RFC 9530 section 4)
abbrev pub digest_text : DigestRefusal → List ℕ
digest_text Malformed = codes "wish-malformed"
digest_text Unacceptable = codes "wish-unacceptable"
digest_text Unmet = codes "wish-digest"

-- why PARAMS are refused, which component lacks a value and how, why the message isn't signed, why
-- the wishes aren't met, why a step of a script isn't taken, why two messages aren't explained, why
-- a list of fields is turned into no message, or a message into no list, or why the digest that a
-- request asks for isn't made
abbrev pub command_text : CommandRefusal → List ℕ
command_text (Syntax offset) = codes "params-syntax " ++ decimal offset
command_text (Ids fault) = id_fault_text fault
command_text (Lacks lack id) = lack_word lack ++ byte " " ∷ id
command_text (Sign fault) = sign_fault_text fault
command_text (Wishes fault) = want_fault_text fault
command_text (NotTaken cause) = step_text cause
command_text (Explain fault) = explain_fault_text fault
command_text (ToMessage fault) = to_fault_text fault
command_text (FromMessage fault) = from_fault_text fault
command_text (Digest cause) = digest_text cause

-- what is refused, and why
abbrev pub refusal_text : Refusal → List ℕ
refusal_text Arguments = codes "words"
refusal_text (Of role refusal) = (role_text role ++ codes " ") ++ file_text refusal
refusal_text (Command refusal) = codes "command " ++ command_text refusal

-- the one line that a refusal writes
abbrev pub refusal_line : Refusal → List ℕ
refusal_line refusal = codes "refused " ++ (refusal_text refusal ++ codes "\n")

-- a limit that the signed message would pass, or else a bad input
abbrev pub sign_status : SignFault → Status
sign_status (TooLong limit) = LimitPassed
sign_status fault = BadInput

-- a limit that the message of a list would pass, or else a bad input
abbrev pub to_status : ToFault → Status
to_status (TooLarge limit) = LimitPassed
to_status fault = BadInput

-- the status that a command's own refusal gives
abbrev pub command_status : CommandRefusal → Status
command_status (Syntax offset) = BadInput
command_status (Ids fault) = BadInput
command_status (Lacks lack id) = BadInput
command_status (Sign fault) = sign_status fault
command_status (Wishes fault) = BadInput
command_status (NotTaken cause) = BadInput
command_status (Explain fault) = BadInput
command_status (ToMessage fault) = to_status fault
command_status (FromMessage fault) = BadInput
command_status (Digest cause) = BadInput

-- the status of a refusal, by what is refused and why
abbrev pub refusal_status : Refusal → Status
refusal_status Arguments = BadArguments
refusal_status (Of role refusal) = file_status refusal
refusal_status (Command refusal) = command_status refusal
