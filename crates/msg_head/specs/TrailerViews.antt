-- What the view of a trailer section stands for.
use Rattle.std.specs.Prelude.{◌≡◌, ℕ, ◌+◌, ◌≤◌, List, length, map, take}
use Rattle.line_index.specs.declared.span.LineSpan.{LineSpan}
use Rattle.msg_head.specs.Lines.{FieldLine}
use Rattle.msg_head.specs.Views.{line_at, FollowEachOther}
use Rattle.msg_head.specs.Trailers.{IsTrailerText}

-- the bytes of a trailer section, and where its field lines are in them
pub record TrailerParts : Type 0 where
  pub bytes : List ℕ
  pub spans : List LineSpan

-- the field lines of the view
abbrev pub trailer_lines_of : TrailerParts → List FieldLine
trailer_lines_of parts = map (line_at parts.bytes) parts.spans

-- the field lines and an empty line, of two bytes, fill the bytes
abbrev pub TrailerFills : TrailerParts → Type 0
TrailerFills parts = (end : ℕ) × FollowEachOther 0 parts.spans end
    × (length parts.bytes ≡ end + 2)

-- the view is that of the trailer section that the first bytes, so many, spell
pub record IsTrailerViewOf (bytes : List ℕ) (parts : TrailerParts) (used : ℕ) : Type 0 where
  pub within : used ≤ length bytes
  pub bytes_are : parts.bytes ≡ take used bytes
  pub spells : IsTrailerText (trailer_lines_of parts) parts.bytes
  pub fills : TrailerFills parts
