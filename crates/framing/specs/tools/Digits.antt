-- Digits that are read one after the other. No public clause cites this module.
use Rattle.std.specs.Prelude.{◌≡◌, ℕ, ◌≤◌, IsTrue, IsFalse, List, ◌++◌, length}
use Rattle.std.specs.List.{list_all}
use Rattle.std.specs.Str.Parse.{digits_value}
use Rattle.byte_grammar.specs.Classes.{is_digit}
use Rattle.framing.specs.declared.length.Digits.{Digits}
use Rattle.framing.specs.declared.limits.TheConstants.{MAX_LENGTH_DIGITS}
use Rattle.framing.specs.Framings.{is_length}

-- the text is digits, which are these
pub record AreDigitsOf (text : List ℕ) (digits : Digits) : Type 0 where
  pub all : IsTrue (list_all is_digit text)
  pub few : length text ≤ MAX_LENGTH_DIGITS
  pub count : digits.count ≡ length text
  pub number : digits.number ≡ digits_value 10 text

-- no length begins with the text
abbrev pub BeginsNoLength : List ℕ → Type 0
BeginsNoLength text = (more : List ℕ) → IsFalse (is_length (text ++ more))
