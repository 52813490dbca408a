-- Field lines up to an empty line. No public clause cites this module.
use Rattle.std.specs.Prelude.{◌≡◌, ℕ, ◌+◌, ◌-◌, ◌<◌, ◌≤◌, ⊤, IsTrue, List, ◌++◌, length, map, drop, codes}
use Rattle.std.specs.List.{All, list_all, flat_map}
use Rattle.msg_head.specs.declared.limits.TheConstants.{MAX_HEAD_LINES}
use Rattle.line_index.specs.declared.span.LineSpan.{LineSpan}
use Rattle.msg_head.specs.declared.error.Side.{Side}
use Rattle.msg_head.specs.declared.error.HeadError.{HeadError}
use Rattle.msg_head.specs.declared.error.HeadError.TheVariants.{Memory, TooLong, NakedEnd, BadStart, TooManyLines, BadLine}
use Rattle.msg_head.specs.RawValues.{RawPieces}
use Rattle.msg_head.specs.Lines.{FieldLine, IsLine, line_text}
use Rattle.msg_head.specs.Causes.{AreTooMany, IsFirstBadLine}
use Rattle.msg_head.specs.Views.{line_at, lies_in, FollowEachOther}

-- the bytes end with that rest
pub record IsRestOf (bytes rest : List ℕ) : Type 0 where
  pub within : length rest ≤ length bytes
  pub is : rest ≡ drop (length bytes - length rest) bytes

-- the offsets of a field line whose name begins at that offset
abbrev pub span_at : ℕ → FieldLine → LineSpan
span_at offset line = record {
  name = offset;
  colon = offset + length line.name;
  end = offset + length line.name + 1 + length line.raw;
}

-- the rest is the field lines at these offsets in the bytes, and an empty line
pub record AreSpansOf (bytes : List ℕ) (spans : List LineSpan) (rest : List ℕ) : Type 0 where
  pub joined : rest ≡ flat_map line_text (map (line_at bytes) spans) ++ codes "\r\n"
  pub each : All IsLine (map (line_at bytes) spans)
  pub few : length spans ≤ MAX_HEAD_LINES
  pub lie : IsTrue (list_all (lies_in (length bytes)) spans)
  pub follow : FollowEachOther (length bytes - length rest) spans (length bytes - 2)

-- why these lines are refused
abbrev pub IsLinesFault : Side → List RawPieces → HeadError → Type 0
IsLinesFault side lines Memory = ⊤
IsLinesFault side lines (TooManyLines other) = (other ≡ side) × AreTooMany lines
IsLinesFault side lines (BadLine other index) =
    (other ≡ side) × (length lines ≤ MAX_HEAD_LINES) × IsFirstBadLine lines index
IsLinesFault side lines (TooLong other) = ⊥
IsLinesFault side lines (NakedEnd offset) = ⊥
IsLinesFault side lines BadStart = ⊥

-- why they are refused, of which so many are done and these are left
abbrev pub IsFaultFrom : Side → ℕ → List RawPieces → HeadError → Type 0
IsFaultFrom side index left (TooManyLines other) =
    (other ≡ side) × (MAX_HEAD_LINES < index + length left)
IsFaultFrom side index left (BadLine other at) =
    (other ≡ side) × (at ≡ index) × (index + length left ≤ MAX_HEAD_LINES)
IsFaultFrom side index left Memory = ⊥
IsFaultFrom side index left (TooLong other) = ⊥
IsFaultFrom side index left (NakedEnd offset) = ⊥
IsFaultFrom side index left BadStart = ⊥
