-- Spacing in raw values: blanks (RFC 9110 section 5.6.3) and the ends of folds (RFC 9112 section
-- 5.2).
use Rattle.std.specs.Prelude.{ℕ, Bool, ◌||◌, not, List, reverse}
use Rattle.byte_grammar.specs.Classes.{is_blank}
use Rattle.byte_grammar.specs.Language.{starts_in}
use Rattle.msg_head.specs.Values.{is_end}

-- SP, HTAB, CR or LF, of which blanks and folds are made
abbrev pub is_spacing : ℕ → Bool
is_spacing c = is_blank c || is_end c

-- any other byte
abbrev pub is_solid : ℕ → Bool
is_solid c = not (is_spacing c)

-- the text ends with a byte of the class
abbrev pub ends_in : (ℕ → Bool) → List ℕ → Bool
ends_in class text = starts_in class (reverse text)
