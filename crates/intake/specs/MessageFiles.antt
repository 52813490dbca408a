-- Messages in files: the request that a response answers (RFC 9421 section 2.4), and the message
-- that wishes signatures (section 5.1).
use Rattle.std.specs.Prelude.{◌≡◌, ◌≤◌, ℕ, List, length, Option, Some, None, IsSomeAnd, IfSome, IsTrue}
use Rattle.std.specs.List.{list_all}
use Rattle.sfv_text.specs.Classes.{is_byte}
use Rattle.msg_body.specs.Messages.{Message}
use Rattle.intake.specs.Layers.{ReadsFound, IsFileRefused}
use Rattle.intake.specs.Messages.{IsInputMessage, IsInputRefused}
use Rattle.msg_body.specs.WholeTexts.{any_message, one_request}
use Rattle.msg_body.specs.declared.whole.Reading.{Reading}
use Rattle.refusals.specs.declared.refusal.TheConstants.{MAX_INPUT_BYTES}
use Rattle.refusals.specs.declared.file.FileRefusal.{FileRefusal}

-- the file that was found is the message, read in this way, and there is none where no file has a
-- name
abbrev pub IsMessageFile : Reading → Option (List ℕ) → Option (List ℕ) → Option Message → Type 0
IsMessageFile reading None found message = message ≡ None
IsMessageFile reading (Some name) found message =
    IsSomeAnd message (ReadsFound (IsInputMessage reading) found)

-- why the file is refused
abbrev pub IsMessageFileRefused : Reading → Option (List ℕ) → Option (List ℕ) → FileRefusal
    → Type 0
IsMessageFileRefused reading None found refusal = ⊥
IsMessageFileRefused reading (Some name) found refusal =
    IsFileRefused (IsInputRefused reading) found refusal

-- the request that the input answers
abbrev pub IsRequested : Option (List ℕ) → Option (List ℕ) → Option Message → Type 0
IsRequested name found related = IsMessageFile one_request name found related

-- why its file is refused
abbrev pub IsRequestRefused : Option (List ℕ) → Option (List ℕ) → FileRefusal → Type 0
IsRequestRefused name found refusal = IsMessageFileRefused one_request name found refusal

-- the message that wishes signatures
abbrev pub IsWanted : Option (List ℕ) → Option (List ℕ) → Option Message → Type 0
IsWanted name found wishes = IsMessageFile any_message name found wishes

-- why its file is refused
abbrev pub IsWantedRefused : Option (List ℕ) → Option (List ℕ) → FileRefusal → Type 0
IsWantedRefused name found refusal = IsMessageFileRefused any_message name found refusal

-- what was found is of bytes, as each file is
abbrev pub IsOfBytes : Option (List ℕ) → Type 0
IsOfBytes found = IfSome found (λ text. IsTrue (list_all is_byte text))

-- ---- the file's text, which is taken before it is read

-- the text that was found, within the limit, and none where no file has a name
abbrev pub IsTaken : Option (List ℕ) → Option (List ℕ) → Option (List ℕ) → Type 0
IsTaken None found taken = taken ≡ None
IsTaken (Some name) found taken =
    (found ≡ taken) × IsSomeAnd taken (λ text. length text ≤ MAX_INPUT_BYTES)

-- the text is that of the message, read in this way, and there is none without a text
abbrev pub IsMessageIn : Reading → Option (List ℕ) → Option Message → Type 0
IsMessageIn reading None message = message ≡ None
IsMessageIn reading (Some text) message = IsSomeAnd message (IsInputMessage reading text)

-- why the text is refused
abbrev pub IsTextRefused : Reading → Option (List ℕ) → FileRefusal → Type 0
IsTextRefused reading None refusal = ⊥
IsTextRefused reading (Some text) refusal = IsInputRefused reading text refusal
