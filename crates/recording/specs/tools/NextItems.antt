-- What comes next in a recording: an item, or the last line. No public clause cites this module.
use Rattle.std.specs.Prelude.{◌≡◌, ℕ, ◌+◌, ◌-◌, ◌<◌, ◌≤◌, Option, Some, None, IfSome, List, ◌++◌, length, take, codes}
use Rattle.byte_grammar.specs.Language.{Begins}
use Rattle.recording.specs.declared.read.Stop.{Stop}
use Rattle.recording.specs.declared.read.Stop.TheVariants as stop
use Rattle.byte_grammar.specs.Numbers.{IsNumber}
use Rattle.recording.specs.Items.{Body, moment, body_text, number_of}
use Rattle.recording.specs.tools.Running.{IsAllowedAfter, IsLongAfter, IsFallingAfter}
use Rattle.recording.specs.tools.RecordingTexts.{IsTurn}

-- the text of the item, or of the last line
abbrev pub next_text : Option Body → List ℕ
next_text None = codes "end\n"
next_text (Some item) = body_text item

-- the bytes begin with the item, which is allowed after this moment, or with the last line
pub record BeginsWithNext (last : ℕ) (next : Option Body) (rest bytes : List ℕ) : Type 0 where
  pub joined : bytes ≡ next_text next ++ rest
  pub number : IfSome next (λ item. IsNumber (number_of item))
  pub allowed : IfSome next (λ item. IsAllowedAfter last item)

-- The bytes up to where so many are left begin an item or the last line, whatever its moment and
-- length. With the next byte they begin none; and where no byte is left, more may come.
pub record IsUnread (bytes : List ℕ) (left : ℕ) : Type 0 where
  pub within : left ≤ length bytes
  pub begins : Begins IsTurn (take (length bytes - left) bytes)
  pub last : 0 < left → ¬ Begins IsTurn (take (length bytes - left + 1) bytes)

-- the bytes begin with such a line
abbrev pub BeginsWithLine : (ℕ → List ℕ → Type 0) → ℕ → List ℕ → Type 0
BeginsWithLine IsSuch last bytes =
    (line more : List ℕ) × (bytes ≡ line ++ more) × IsSuch last line

-- the bytes begin with the line that names the format, and an item that is this moment
pub record BeginsWithFirst (first : ℕ) (rest bytes : List ℕ) : Type 0 where
  pub joined : bytes ≡ codes "hms-recording 1\n" ++ (body_text (moment first) ++ rest)
  pub number : IsNumber first

-- how many bytes were left
abbrev pub bytes_left : Stop → ℕ
bytes_left (stop.Left n) = n
bytes_left (stop.TooLong n) = n
bytes_left (stop.MomentFalls n) = n

-- why nothing is read after this moment, and where
abbrev pub IsStop : ℕ → List ℕ → Stop → Type 0
IsStop last bytes (stop.Left n) = IsUnread bytes n
IsStop last bytes (stop.TooLong n) = (n ≡ length bytes) × BeginsWithLine IsLongAfter last bytes
IsStop last bytes (stop.MomentFalls n) =
    (n ≡ length bytes) × BeginsWithLine IsFallingAfter last bytes
