-- Lists of field lines that have the same of a name: line by line, or combined (RFC 9421 section
-- 2.1).
use Rattle.std.specs.Prelude.{◌≡◌, ℕ, List}
use Rattle.std.specs.Str.{str_to_ascii_lowercase}
use Rattle.msg_head.specs.Lines.{FieldLine}
use Rattle.msg_head.specs.Values.{combined_value, is_there, values}

-- the line's name in lower case
abbrev pub name_of : FieldLine → List ℕ
name_of line = str_to_ascii_lowercase line.name

-- both have lines of the name or neither has, with the same values
pub record HasSameValues (lines others : List FieldLine) (name : List ℕ) : Type 0 where
  pub there : is_there others name ≡ is_there lines name
  pub same : values others name ≡ values lines name

-- both have lines of the name or neither has, with one combined value
pub record HasSameField (lines others : List FieldLine) (name : List ℕ) : Type 0 where
  pub there : is_there others name ≡ is_there lines name
  pub combined : combined_value others name ≡ combined_value lines name
