-- What a text shows, whatever its bytes are.
use Rattle.std.specs.Prelude.{ℕ, List, encode_utf8}
use Rattle.std.specs.List.{flat_map}

-- each byte as the character of its number, in UTF-8: a byte of ASCII is the character itself
abbrev pub displayed : List ℕ → List ℕ
displayed bytes = flat_map encode_utf8 bytes
