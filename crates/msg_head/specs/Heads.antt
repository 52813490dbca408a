-- Heads of messages: RFC 9112 section 2.1.
use Rattle.std.specs.Prelude.{◌≡◌, ℕ, ◌<◌, ◌≤◌, List, ◌++◌, length, take, codes}
use Rattle.std.specs.List.{All, flat_map}
use Rattle.msg_head.specs.declared.limits.TheConstants.{MAX_HEAD_BYTES, MAX_HEAD_LINES}
use Rattle.msg_head.specs.Lines.{FieldLine, IsLine, line_text}
use Rattle.msg_head.specs.Starts.{StartLine, IsStartLine, start_text}
use Rattle.msg_head.specs.Cuts.{HasNoEnd}

-- a start line, and the field lines in order
pub record Head : Type 0 where
  pub start : StartLine
  pub lines : List FieldLine

-- the start line, each field line, and an empty line
abbrev pub head_text : Head → List ℕ
head_text head = start_text head.start ++ (flat_map line_text head.lines ++ codes "\r\n")

-- the parts are those that a head has, within the limits that are set here
pub record IsHead (head : Head) : Type 0 where
  pub start : IsStartLine head.start
  pub lines : All IsLine head.lines
  pub few : length head.lines ≤ MAX_HEAD_LINES
  pub short : length (head_text head) ≤ MAX_HEAD_BYTES

-- the bytes are a head's text, and nothing more
pub record IsHeadText (head : Head) (bytes : List ℕ) : Type 0 where
  pub is : IsHead head
  pub text : bytes ≡ head_text head

-- the first bytes, so many, are a head's text
pub record SpellsHead (head : Head) (used : ℕ) (bytes : List ℕ) : Type 0 where
  pub within : used ≤ length bytes
  pub spells : IsHeadText head (take used bytes)

-- the end of a head, an empty line, isn't there, and may still come within the limit
pub record IsUnfinished (bytes : List ℕ) : Type 0 where
  pub no_end : HasNoEnd bytes
  pub short : length bytes < MAX_HEAD_BYTES
