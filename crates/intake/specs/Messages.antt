-- Texts that are one whole message, and why others aren't (RFC 9112 sections 2.1 and 6.3).
use Rattle.std.specs.Prelude.{◌≡◌, ◌<◌, ◌≤◌, ℕ, IsTrue, List, length}
use Rattle.std.specs.List.{list_all}
use Rattle.sfv_text.specs.Classes.{is_byte}
use Rattle.msg_body.specs.Messages.{Message}
use Rattle.msg_body.specs.WholeTexts.{IsMessageFault, IsWhole}
use Rattle.msg_body.specs.declared.whole.Reading.{Reading}
use Rattle.refusals.specs.declared.refusal.TheConstants.{MAX_INPUT_BYTES}
use Rattle.refusals.specs.declared.file.FileRefusal.{FileRefusal}
use Rattle.refusals.specs.declared.file.FileRefusal.TheVariants.{TooLong, Message as NoMessage}

-- the input is of bytes, within the limit, and this message, read in this way
pub record IsInputMessage (reading : Reading) (input : List ℕ) (message : Message) : Type 0 where
  pub are_bytes : IsTrue (list_all is_byte input)
  pub within : length input ≤ MAX_INPUT_BYTES
  pub whole : IsWhole reading input message

-- why an input is refused
abbrev pub IsInputRefused : Reading → List ℕ → FileRefusal → Type 0
IsInputRefused reading input (TooLong limit) =
    (limit ≡ MAX_INPUT_BYTES) × (MAX_INPUT_BYTES < length input)
IsInputRefused reading input (NoMessage fault) =
    (length input ≤ MAX_INPUT_BYTES) × IsMessageFault reading input fault
IsInputRefused reading input refusal = ⊥
