-- Display Strings, read over lists from left to right. No public clause cites this module.
use Rattle.std.specs.Prelude.{ℕ, zero, suc, ◌+◌, ◌-◌, ◌*◌, ◌/◌, Bool, ◌&&◌, ◌||◌, ◌==◌, nat_le, nat_lt, List, [], ◌∷◌, ◌++◌, Result, Option, Ok, if◌then◌else◌}
use Rattle.std.specs.Str.{byte, continuation_len}
use Rattle.std.specs.Str.Lossy.{second_byte_min, second_byte_max}
use Rattle.byte_grammar.specs.Classes.{is_digit}
use Rattle.byte_grammar.specs.Walk.{Reader, ◌>>=◌, byte_read, all_read}
use Rattle.byte_grammar.specs.tools.Walks.{optional_read, turns_read, with_state}
use Rattle.sfv_text.specs.Range.{is_unencoded}
use Rattle.sfv_read.specs.Class.{is_percent, is_quote}
use Rattle.sfv_read.specs.declared.display_string.HexDigits.{HexDigits}
use Rattle.sfv_read.specs.declared.display_string.HexDigits.TheVariants.{Lead, Between}

-- ---- hexadecimal digits

-- a lower-case hexadecimal digit
abbrev pub is_hex : ℕ → Bool
is_hex c = is_digit c || (nat_le (byte "a") c && nat_le c (byte "f"))

abbrev pub hex_value : ℕ → ℕ
hex_value c = if is_digit c then c - byte "0" else c - (byte "a" - 10)

-- what the first byte of a character has as its first digit: 0 to 7, or c to f (RFC 3629
-- section 4)
abbrev pub is_lead : ℕ → Bool
is_lead v = nat_lt v 8 || nat_le 12 v

abbrev pub is_between : ℕ → ℕ → ℕ → Bool
is_between least most v = nat_le least v && nat_le v most

-- the values of the digits
abbrev pub has_value : HexDigits → ℕ → Bool
has_value Lead v = is_lead v
has_value (Between least most) v = is_between least most v

abbrev pub hex_members : HexDigits → ℕ → Bool
hex_members digits c = is_hex c && has_value digits (hex_value c)

-- the value of one of the digits
unfoldable pub hex_read : HexDigits → Reader ℕ
hex_read digits bytes = byte_read (hex_members digits) bytes >>= λ d. Ok (hex_value d.0, d.1)

-- ---- encoded characters

-- the second digit of the first byte of a character, after its first digit (RFC 3629 section 4)
abbrev pub after_lead : ℕ → HexDigits
after_lead v = Between (if v == 12 then 2 else 0) (if v == 15 then 4 else 15)

-- the first digit of the second byte of a character, after its first byte (RFC 3629 section 4)
abbrev pub after_first : ℕ → HexDigits
after_first b = Between (second_byte_min b / 16) (second_byte_max b / 16)

-- any second digit
abbrev pub any_digit : ℕ → HexDigits
any_digit v = Between 0 15

-- the first digit of each further byte of a character
abbrev pub continuation : HexDigits
continuation = Between 8 11

-- `%` and two digits, of which the first says what the second may be
unfoldable pub encoded_read : HexDigits → (ℕ → HexDigits) → Reader ℕ
encoded_read firsts seconds bytes = do
  s ← byte_read is_percent bytes
  h ← hex_read firsts s.1
  l ← hex_read (seconds h.0) h.1
  Ok (h.0 * 16 + l.0, l.1)

-- so many bytes that go on with a character
unfoldable pub continuations_read : ℕ → HexDigits → Reader (List ℕ)
continuations_read zero firsts bytes = Ok ([], bytes)
continuations_read (suc n) firsts bytes = do
  c ← encoded_read firsts any_digit bytes
  cs ← continuations_read n continuation c.1
  Ok (c.0 ∷ cs.0, cs.1)

-- the bytes of a character
unfoldable pub encoded_character_read : Reader (List ℕ)
encoded_character_read bytes = do
  b ← encoded_read Lead after_lead bytes
  cs ← continuations_read (continuation_len b.0) (after_first b.0) b.1
  Ok (b.0 ∷ cs.0, cs.1)

-- ---- Display Strings

-- an encoded character, and the bytes after it that stand for themselves
unfoldable pub encoded_run_read : Reader (List ℕ)
encoded_run_read bytes =
    encoded_character_read bytes >>= λ c. all_read is_unencoded c.1 >>= λ r. Ok (c.0 ++ r.0, r.1)

-- an encoded run where a `%` comes
unfoldable pub next_encoded_run_read : Reader (Option (List ℕ))
next_encoded_run_read bytes = optional_read is_percent encoded_run_read bytes

abbrev pub with_run : List ℕ → List ℕ → List ℕ
with_run text run = text ++ run

-- bytes that stand for themselves, and encoded runs
unfoldable pub display_characters_read : Reader (List ℕ)
display_characters_read bytes =
    all_read is_unencoded bytes
    >>= λ first. with_state with_run first.0 (turns_read next_encoded_run_read first.1)

unfoldable pub display_string_read : Reader (List ℕ)
display_string_read bytes = do
  p ← byte_read is_percent bytes
  q ← byte_read is_quote p.1
  s ← display_characters_read q.1
  e ← byte_read is_quote s.1
  Ok (s.0, e.1)

-- what a reader gives, after a text
abbrev pub appended : List ℕ → Result (List ℕ × List ℕ) ℕ → Result (List ℕ × List ℕ) ℕ
appended text read = read >>= λ a. Ok (text ++ a.0, a.1)
