-- Trailer sections of chunked messages: RFC 9112 section 7.1.2.
use Rattle.std.specs.Prelude.{◌≡◌, ℕ, ◌<◌, ◌≤◌, List, ◌++◌, length, take, codes}
use Rattle.std.specs.List.{All, flat_map}
use Rattle.msg_head.specs.declared.limits.TheConstants.{MAX_HEAD_BYTES, MAX_HEAD_LINES}
use Rattle.msg_head.specs.Lines.{FieldLine, IsLine, line_text}
use Rattle.msg_head.specs.Cuts.{HasNoEnd, IsSection}

-- each field line, and an empty line
abbrev pub trailer_text : List FieldLine → List ℕ
trailer_text lines = flat_map line_text lines ++ codes "\r\n"

-- the lines are field lines, within the limits that are set here
pub record IsTrailer (lines : List FieldLine) : Type 0 where
  pub each : All IsLine lines
  pub few : length lines ≤ MAX_HEAD_LINES
  pub short : length (trailer_text lines) ≤ MAX_HEAD_BYTES

-- the bytes are the section's text, and nothing more
pub record IsTrailerText (lines : List FieldLine) (bytes : List ℕ) : Type 0 where
  pub is : IsTrailer lines
  pub text : bytes ≡ trailer_text lines

-- the first bytes, so many, are the section's text
pub record SpellsTrailer (lines : List FieldLine) (used : ℕ) (bytes : List ℕ) : Type 0 where
  pub within : used ≤ length bytes
  pub spells : IsTrailerText lines (take used bytes)

-- ---- where a trailer section ends

-- the bytes, and before them the end of the last chunk's line
abbrev pub after_chunks : List ℕ → List ℕ
after_chunks bytes = codes "\r\n" ++ bytes

-- The bytes up to and with the first empty line: CRLF where they begin with it, or else those up to
-- and with the first CRLF CRLF.
abbrev pub IsTrailerSection : List ℕ → List ℕ → Type 0
IsTrailerSection bytes section = IsSection (after_chunks bytes) (after_chunks section)

-- the end of a trailer section isn't there, and may still come within the limit
pub record IsTrailerUnfinished (bytes : List ℕ) : Type 0 where
  pub no_end : HasNoEnd (after_chunks bytes)
  pub short : length bytes < MAX_HEAD_BYTES
