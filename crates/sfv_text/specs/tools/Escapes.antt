-- The characters of a String that have a `\` before them, and the bytes of a Display String that
-- are encoded.
-- No public clause cites this module.
use Rattle.std.specs.Prelude.{ℕ, Bool, ◌||◌, ◌==◌, not}
use Rattle.std.specs.Str.{byte}
use Rattle.sfv_text.specs.Classes.{is_unencoded}

-- `"` or `\`
abbrev pub is_escaped : ℕ → Bool
is_escaped c = (c == byte "\"") || (c == byte "\\")

-- no printable ASCII, or `%` or `"`
abbrev pub is_encoded : ℕ → Bool
is_encoded c = not (is_unencoded c)
