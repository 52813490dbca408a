-- Why bytes are refused as a head, in the order in which it is judged.
use Rattle.std.specs.Prelude.{ℕ, ◌<◌, ◌≤◌, List, length, take, slice_get, IsSomeAnd}
use Rattle.std.specs.List.{All}
use Rattle.byte_grammar.specs.Causes.{IsFirst}
use Rattle.msg_head.specs.declared.limits.TheConstants.{MAX_HEAD_BYTES, MAX_HEAD_LINES}
use Rattle.msg_head.specs.declared.error.Side.TheVariants.{Header, Trailer}
use Rattle.msg_head.specs.declared.error.HeadError.{HeadError}
use Rattle.msg_head.specs.declared.error.HeadError.TheVariants.{Memory, TooLong, NakedEnd, BadStart, TooManyLines, BadLine}
use Rattle.msg_head.specs.RawValues.{RawPieces}
use Rattle.msg_head.specs.Lines.{FieldLine}
use Rattle.msg_head.specs.Cuts.{HasNoEnd, IsSection, IsFirstNakedEnd, IsCut, MakesLine, MakesNoLine, MakesNoStart}

-- as many bytes as a head may have are there, and hold no end
pub record IsTooLong (bytes : List ℕ) : Type 0 where
  pub long : MAX_HEAD_BYTES ≤ length bytes
  pub no_end : HasNoEnd (take MAX_HEAD_BYTES bytes)

-- the first byte of the head that is NUL or half of a line's end is at the offset
pub record HasNakedEnd (bytes : List ℕ) (offset : ℕ) : Type 0 where
  pub section : List ℕ
  pub is : IsSection bytes section
  pub first : IsFirstNakedEnd section offset

-- the head's first line is no start line
pub record HasBadStart (bytes : List ℕ) : Type 0 where
  pub start : List ℕ
  pub lines : List RawPieces
  pub cut : IsCut start lines bytes
  pub bad : MakesNoStart start

-- more lines than there may be
abbrev pub AreTooMany : List RawPieces → Type 0
AreTooMany lines = MAX_HEAD_LINES < length lines

-- the first line that is no field line has the index
pub record IsFirstBadLine (lines : List RawPieces) (index : ℕ) : Type 0 where
  pub before : All (λ cut. (line : FieldLine) × MakesLine cut line) (take index lines)
  pub there : IsSomeAnd (slice_get lines index) MakesNoLine

-- the head's lines after the first, as they are cut, are such
pub record HasLines (Are : List RawPieces → Type 0) (bytes : List ℕ) : Type 0 where
  pub start : List ℕ
  pub lines : List RawPieces
  pub cut : IsCut start lines bytes
  pub are : Are lines

-- the fact for which the fault is answered; being out of memory is none of them
abbrev pub IsHeadCause : List ℕ → HeadError → Type 0
IsHeadCause bytes (TooLong Header) = IsTooLong bytes
IsHeadCause bytes (NakedEnd offset) = HasNakedEnd bytes offset
IsHeadCause bytes BadStart = HasBadStart bytes
IsHeadCause bytes (TooManyLines Header) = HasLines AreTooMany bytes
IsHeadCause bytes (BadLine Header index) = HasLines (λ lines. IsFirstBadLine lines index) bytes
IsHeadCause bytes (TooLong Trailer) = ⊥
IsHeadCause bytes (TooManyLines Trailer) = ⊥
IsHeadCause bytes (BadLine Trailer index) = ⊥
IsHeadCause bytes Memory = ⊥

-- the order in which the causes are judged
abbrev pub head_order : HeadError → ℕ
head_order (TooLong side) = 0
head_order (NakedEnd offset) = 1
head_order BadStart = 2
head_order (TooManyLines side) = 3
head_order (BadLine side index) = 4
head_order Memory = 5

-- the fault's cause is the first that holds
abbrev pub IsHeadError : List ℕ → HeadError → Type 0
IsHeadError bytes fault = IsFirst head_order (IsHeadCause bytes) fault
