-- Field lines: RFC 9112 section 5.
use Rattle.std.specs.Prelude.{ℕ, IsTrue, List, ◌∷◌, ◌++◌, codes}
use Rattle.std.specs.Str.{byte}
use Rattle.byte_grammar.specs.Classes.{is_token}
use Rattle.msg_head.specs.RawValues.{IsRaw}

-- the name as it is written, and the raw value: all that is between the colon and the line's
-- end, folds included
pub record FieldLine : Type 0 where
  pub name : List ℕ
  pub raw : List ℕ

-- the name is a token (RFC 9110 section 5.1), and the raw value one that may be folded
pub record IsLine (line : FieldLine) : Type 0 where
  pub name : IsTrue (is_token line.name)
  pub raw : IsRaw line.raw

-- the name, a colon, the raw value, CRLF
abbrev pub line_text : FieldLine → List ℕ
line_text line = line.name ++ byte ":" ∷ (line.raw ++ codes "\r\n")

-- ---- lines of a value

-- the line of this name with a space before the text
abbrev pub line_of : List ℕ → List ℕ → FieldLine
line_of name text = record { name = name; raw = byte " " ∷ text }

-- the line of a Dictionary of one member, by its key and the text of its value (RFC 9651 section
-- 3.2)
abbrev pub member_line : List ℕ → List ℕ → List ℕ → FieldLine
member_line name key text = line_of name (key ++ byte "=" ∷ text)
