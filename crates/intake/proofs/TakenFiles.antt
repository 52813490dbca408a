-- A message in a file: it is taken and read, and there is one, or one cause to refuse it.
use Rattle.std.proofs.Common.{◌≡◌, ℕ, List, Option, Some, None, inl, inr, refl, sym, ap, ◌∙◌}
use Rattle.hms_io.specs.Files.{FileMap, HasLongerFile, HasNoFile}
use Rattle.hms_io.specs.declared.whole_file.FileError.{FileError}
use Rattle.hms_io.specs.declared.whole_file.FileError.TheVariants as file
use Rattle.msg_body.specs.Messages.{Message}
use Rattle.intake.specs.Files.{HasFound}
use Rattle.intake.specs.Laws.{IsRecordDecided, IsRequestDecided, IsWantedDecided, HasRecord, HasRequest, HasWanted}
use Rattle.intake.specs.Layers.{HasAnswer}
use Rattle.msg_body.specs.declared.whole.Reading.{Reading}
use Rattle.intake.specs.Messages.{IsInputMessage, IsInputRefused}
use Rattle.msg_body.specs.WholeTexts.{any_message, one_request}
use Rattle.intake.specs.MessageFiles.{IsMessageFile, IsMessageFileRefused, IsTaken, IsOfBytes}
use Rattle.intake.specs.Stops.{IfStopped, IsRefusalFor, stop_of_file}
use Rattle.refusals.specs.declared.refusal.TheConstants.{MAX_INPUT_BYTES}
use Rattle.refusals.specs.declared.role.Role.{Role}
use Rattle.refusals.specs.declared.file.FileRefusal.{FileRefusal}
use Rattle.refusals.specs.declared.file.FileRefusal.TheVariants.{Missing}
use Rattle.refusals.specs.declared.refusal.Refusal.TheVariants.{Of}
use Rattle.intake.proofs.Answered.{has_message}
use Rattle.intake.proofs.Decided.{input_decided}
use Rattle.intake.proofs.DecidedConf.{found_value, found_cause, found_either}
use Rattle.intake.proofs.FoundFiles.{file_stop}

-- why the file isn't taken
pub message_file_stop : (role : Role) (reading : Reading) (known : Option FileMap) (name : List ℕ) (error : FileError)
    → (error ≡ file.TooLong → HasLongerFile known name MAX_INPUT_BYTES) → (error ≡ file.Missing → HasNoFile known name)
    → IfStopped (stop_of_file role MAX_INPUT_BYTES error)
    (λ refusal. HasFound known (Some name) (λ found. IsRefusalFor (IsMessageFileRefused reading (Some name) found) (λ cause. Of role cause) refusal))
message_file_stop role reading = file_stop role MAX_INPUT_BYTES (IsInputRefused reading) (λ text long. (refl, long))

pub none_taken : (known : Option FileMap) → HasFound known None (λ found. IsTaken None found None)
none_taken known = record { found = None; known = tt; holds = refl }

-- ---- there is one, or one cause to refuse it

module _ (r : Reading) where
  file_value : (name found : Option (List ℕ)) (a b : Option Message) → IsMessageFile r name found a → IsMessageFile r name found b → a ≡ b
  file_value None found a b is also = is ∙ sym also
  file_value (Some name) found None b is also = absurd is
  file_value (Some name) found (Some m) None is also = absurd also
  file_value (Some name) found (Some m) (Some n) is also =
      ap (λ (message : Message). Some message) (found_value (IsInputMessage r) (IsInputRefused r) (λ text. input_decided r text) found m n is also)

  file_cause : (name found : Option (List ℕ)) (c d : FileRefusal) → IsMessageFileRefused r name found c → IsMessageFileRefused r name found d → c ≡ d
  file_cause None found c d a b = absurd a
  file_cause (Some name) found c d a b =
      found_cause (IsInputMessage r) (IsInputRefused r) (λ text. input_decided r text) found c d a b

  file_either : (name found : Option (List ℕ)) (message : Option Message) (c : FileRefusal) → IsMessageFile r name found message → IsMessageFileRefused r name found c → ⊥
  file_either None found message c is cause = cause
  file_either (Some name) found None c is cause = is
  file_either (Some name) found (Some m) c is cause =
      found_either (IsInputMessage r) (IsInputRefused r) (λ text. input_decided r text) found m c is cause

  has_file : (name found : Option (List ℕ)) → IsOfBytes found → HasAnswer (IsMessageFile r name found) (IsMessageFileRefused r name found)
  has_file None found bytes = inl (None, refl)
  has_file (Some name) None bytes = inr (Missing, refl)
  has_file (Some name) (Some text) bytes = elim (has_message r text bytes) [
    | inl is ↦ inl (Some is.0, is.1)
    | inr cause ↦ inr cause
  ]

pub record_decided : IsRecordDecided
record_decided r name found = record { value = file_value r name found; cause = file_cause r name found; either = file_either r name found }

pub request_decided : IsRequestDecided
request_decided name found = record_decided one_request name found

pub wanted_decided : IsWantedDecided
wanted_decided name found = record_decided any_message name found

pub has_record : HasRecord
has_record r name found bytes = has_file r name found bytes

pub has_request : HasRequest
has_request name found bytes = has_file one_request name found bytes

pub has_wanted : HasWanted
has_wanted name found bytes = has_file any_message name found bytes
