-- Why bytes are refused as a trailer section, in the order in which it is judged, a head's.
use Rattle.std.specs.Prelude.{ℕ, ◌≤◌, List, [], length, take}
use Rattle.byte_grammar.specs.Causes.{IsFirst}
use Rattle.msg_head.specs.declared.limits.TheConstants.{MAX_HEAD_BYTES}
use Rattle.msg_head.specs.declared.error.Side.TheVariants.{Header, Trailer}
use Rattle.msg_head.specs.declared.error.HeadError.{HeadError}
use Rattle.msg_head.specs.declared.error.HeadError.TheVariants.{Memory, TooLong, NakedEnd, BadStart, TooManyLines, BadLine}
use Rattle.msg_head.specs.RawValues.{RawPieces}
use Rattle.msg_head.specs.Cuts.{HasNoEnd, IsFirstNakedEnd, IsCut}
use Rattle.msg_head.specs.Causes.{AreTooMany, IsFirstBadLine, head_order}
use Rattle.msg_head.specs.Trailers.{IsTrailerSection, after_chunks}

-- as many bytes as a trailer section may have are there, and don't hold its end
pub record IsTrailerTooLong (bytes : List ℕ) : Type 0 where
  pub long : MAX_HEAD_BYTES ≤ length bytes
  pub no_end : HasNoEnd (after_chunks (take MAX_HEAD_BYTES bytes))

-- the first byte of the section that is NUL or half of a line's end is at the offset
pub record HasTrailerNakedEnd (bytes : List ℕ) (offset : ℕ) : Type 0 where
  pub section : List ℕ
  pub is : IsTrailerSection bytes section
  pub first : IsFirstNakedEnd section offset

-- The section's lines, as they are cut, are such. They are cut as a head's lines are after its
-- first line, which here is the end of the last chunk's line.
pub record HasTrailerLines (Are : List RawPieces → Type 0) (bytes : List ℕ) : Type 0 where
  pub lines : List RawPieces
  pub cut : IsCut [] lines (after_chunks bytes)
  pub are : Are lines

-- the fact for which the fault is answered; being out of memory is none of them
abbrev pub IsTrailerCause : List ℕ → HeadError → Type 0
IsTrailerCause bytes (TooLong Trailer) = IsTrailerTooLong bytes
IsTrailerCause bytes (NakedEnd offset) = HasTrailerNakedEnd bytes offset
IsTrailerCause bytes (TooManyLines Trailer) = HasTrailerLines AreTooMany bytes
IsTrailerCause bytes (BadLine Trailer index) =
    HasTrailerLines (λ lines. IsFirstBadLine lines index) bytes
IsTrailerCause bytes (TooLong Header) = ⊥
IsTrailerCause bytes BadStart = ⊥
IsTrailerCause bytes (TooManyLines Header) = ⊥
IsTrailerCause bytes (BadLine Header index) = ⊥
IsTrailerCause bytes Memory = ⊥

-- the fault's cause is the first that holds
abbrev pub IsTrailerError : List ℕ → HeadError → Type 0
IsTrailerError bytes fault = IsFirst head_order (IsTrailerCause bytes) fault
