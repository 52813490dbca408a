-- The bytes of Strings, Tokens, Byte Sequences, Display Strings and keys (RFC 9651).
use Rattle.std.specs.Prelude.{ℕ, ◌^◌, Bool, false, ◌&&◌, ◌||◌, ◌==◌, not, nat_lt, nat_le, List, [], ◌∷◌, codes}
use Rattle.std.specs.Str.{byte}
use Rattle.std.specs.Char.{is_ascii_alphabetic, is_ascii_digit, is_ascii_lowercase}
use Rattle.std.specs.List.{list_all}
use Rattle.byte_grammar.specs.Classes.{is_one_of, is_tchar}

-- a String's characters (RFC 9651 section 3.3.3)
abbrev pub is_string_byte : ℕ → Bool
is_string_byte c = nat_le (byte " ") c && nat_le c (byte "~")

-- what a Display String has as it is: printable ASCII, but not `%` and `"` (RFC 9651
-- section 3.3.8)
abbrev pub is_unencoded : ℕ → Bool
is_unencoded c = is_string_byte c && (not (c == byte "%") && not (c == byte "\""))

-- the number is one of the 256 bytes
abbrev pub is_byte : ℕ → Bool
is_byte c = nat_lt c (2 ^ 8)

-- a Token's first byte: a letter or `*` (RFC 9651 section 3.3.4)
abbrev pub is_token_first : ℕ → Bool
is_token_first c = is_ascii_alphabetic c || (c == byte "*")

-- what a Token has after its first byte: tchar, `:` and `/` (RFC 9651 section 3.3.4)
abbrev pub is_token_rest : ℕ → Bool
is_token_rest c = is_tchar c || is_one_of (codes ":/") c

-- a key's first byte: a lower-case letter or `*` (RFC 9651 section 3.1.2)
abbrev pub is_key_first : ℕ → Bool
is_key_first c = is_ascii_lowercase c || (c == byte "*")

-- what a key has after its first byte: lower-case letters, digits, `_`, `-`, `.` and `*`
-- (RFC 9651 section 3.1.2)
abbrev pub is_key_rest : ℕ → Bool
is_key_rest c = is_ascii_lowercase c || is_ascii_digit c || is_one_of (codes "_-.*") c

-- a byte of the first class, then bytes of the other: the test of `IsWord` of `byte_grammar`
abbrev pub is_word : (ℕ → Bool) → (ℕ → Bool) → List ℕ → Bool
is_word first others [] = false
is_word first others (c ∷ cs) = first c && list_all others cs

-- the text is a Token (RFC 9651 section 3.3.4)
abbrev pub is_sf_token : List ℕ → Bool
is_sf_token text = is_word is_token_first is_token_rest text

-- the text is a key of a parameter or of a member (RFC 9651 section 3.1.2)
abbrev pub is_key : List ℕ → Bool
is_key text = is_word is_key_first is_key_rest text
