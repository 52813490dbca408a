-- Texts between line ends. No public clause cites this module.
use Rattle.std.specs.Prelude.{◌≡◌, ◌⊎◌, ℕ, Bool, IsTrue, ◌||◌, not, List, [], ◌++◌}
use Rattle.std.specs.List.{list_all}
use Rattle.byte_grammar.specs.Classes.{is_blank}
use Rattle.byte_grammar.specs.Language.{starts_in}
use Rattle.msg_head.specs.Values.{is_end}

-- neither a blank nor a line end
abbrev pub is_solid : ℕ → Bool
is_solid c = not (is_blank c || is_end c)

-- the bytes are the line, which has no end in it, and the rest, which begins with one or is empty
pub record IsLineBefore (line rest bytes : List ℕ) : Type 0 where
  pub joined : bytes ≡ line ++ rest
  pub clean : IsTrue (list_all (λ c. not (is_end c)) line)
  pub stops : (rest ≡ []) ⊎ IsTrue (starts_in is_end rest)
