-- What bytes begin with, by parts of a head. No public clause cites this module.
use Rattle.std.specs.Prelude.{◌≡◌, ◌≢◌, ◌<◌, ℕ, Bool, IsTrue, IsFalse, List, ◌++◌, length, take, drop, Option}
use Rattle.std.specs.List.{list_all}
use Rattle.byte_grammar.specs.Language.{starts_in}
use Rattle.msg_head.specs.RawValues.{RawPieces}
use Rattle.msg_head.specs.Lines.{FieldLine}
use Rattle.msg_head.specs.Starts.{StartLine, IsStartLine, start_text, request, status, RequestLine, IsRequestLine, StatusLine, IsStatusLine, request_text, status_text, is_code, reason_text}
use Rattle.msg_head.specs.Cuts.{MakesLine}

-- so many bytes are of the class, and the next one isn't
pub record EndsAt (test : ℕ → Bool) (n : ℕ) (bytes : List ℕ) : Type 0 where
  pub within : n < length bytes
  pub each : IsTrue (list_all test (take n bytes))
  pub ends : IsFalse (starts_in test (drop n bytes))

-- the bytes are a prefix of the class, that end, and more
pub record StandsBefore (test : ℕ → Bool) (end prefix more bytes : List ℕ) : Type 0 where
  pub each : IsTrue (list_all test prefix)
  pub joined : bytes ≡ prefix ++ (end ++ more)

abbrev pub NoneStandsBefore : (ℕ → Bool) → List ℕ → List ℕ → Type 0
NoneStandsBefore test end bytes = (prefix more : List ℕ) → ¬ StandsBefore test end prefix more bytes

-- the bytes are a start line and more
pub record BeginsWithStart (start : StartLine) (more bytes : List ℕ) : Type 0 where
  pub is : IsStartLine start
  pub joined : bytes ≡ start_text start ++ more

abbrev pub BeginsWithNoStart : List ℕ → Type 0
BeginsWithNoStart bytes = (start : StartLine) (more : List ℕ) → ¬ BeginsWithStart start more bytes

-- the start line is a request line, with which the bytes begin
abbrev pub BeginsWithRequest : StartLine → List ℕ → List ℕ → Type 0
BeginsWithRequest start more bytes =
    (line : RequestLine) × (start ≡ request line)
    × IsRequestLine line × (bytes ≡ request_text line ++ more)

abbrev pub BeginsWithNoRequest : List ℕ → Type 0
BeginsWithNoRequest bytes =
    (line : RequestLine) (more : List ℕ) → IsRequestLine line → bytes ≢ request_text line ++ more

-- the start line is a status line, with which the bytes begin
abbrev pub BeginsWithStatus : StartLine → List ℕ → List ℕ → Type 0
BeginsWithStatus start more bytes =
    (line : StatusLine) × (start ≡ status line)
    × IsStatusLine line × (bytes ≡ status_text line ++ more)

abbrev pub BeginsWithNoStatus : List ℕ → Type 0
BeginsWithNoStatus bytes =
    (line : StatusLine) (more : List ℕ) → IsStatusLine line → bytes ≢ status_text line ++ more

-- the text is a status code, and then nothing, or SP and a reason
pub record IsCodeAndReason (code : List ℕ) (reason : Option (List ℕ)) (text : List ℕ)
    : Type 0 where
  pub is : IsTrue (is_code code)
  pub joined : text ≡ code ++ reason_text reason

abbrev pub NoCodeAndReason : List ℕ → Type 0
NoCodeAndReason text =
    (code : List ℕ) (reason : Option (List ℕ)) → ¬ IsCodeAndReason code reason text

-- the line as it is cut is the field line, and more comes after it
pub record ReadsLine (cut : RawPieces) (more : List ℕ) (line : FieldLine) (rest : List ℕ)
    : Type 0 where
  pub makes : MakesLine cut line
  pub rest_is : rest ≡ more
