-- Names of fields, in which case doesn't count: RFC 9110 section 5.1.
use Rattle.std.specs.Prelude.{ℕ, Bool, List}
use Rattle.std.specs.Str.{bytes_eq, str_to_ascii_lowercase}
use Rattle.msg_head.specs.Lines.{FieldLine}

-- the line's name in lower case is the name
abbrev pub has_name : List ℕ → FieldLine → Bool
has_name name line = bytes_eq (str_to_ascii_lowercase line.name) name
