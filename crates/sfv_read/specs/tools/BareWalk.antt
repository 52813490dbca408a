-- Bare items, read over lists from left to right. No public clause cites this module.
use Rattle.std.specs.Prelude.{ℕ, ◌+◌, ◌-◌, ◌*◌, ◌/◌, ◌%◌, ◌^◌, Bool, true, false, ◌||◌, List, [], ◌∷◌, ◌++◌, length, nat_eq, nat_lt, Option, Some, None, Ok, Err, if◌then◌else◌}
use Rattle.std.specs.Str.{byte}
use Rattle.byte_grammar.specs.Walk.{Reader, ◌>>=◌, byte_read, run_read, all_read, word_read}
use Rattle.byte_grammar.specs.tools.Walks.{optional_read, pick_read, turns_read, with_state}
use Rattle.sfv_text.specs.declared.value.BareItem.{BareItem}
use Rattle.sfv_text.specs.declared.value.BareItem.TheVariants.{Integer, Decimal, Str, Token, Bytes, Bool as Boolean, Date, Display}
use Rattle.sfv_read.specs.declared.bare.BareKind.{BareKind}
use Rattle.sfv_read.specs.declared.bare.BareKind.TheVariants.{Number as NumberKind, String as StringKind, Token as TokenKind, ByteSequence as ByteSequenceKind, Boolean as BooleanKind, Date as DateKind, DisplayString as DisplayStringKind}
use Rattle.sfv_text.specs.Range.{is_token_first, is_token_rest}
use Rattle.byte_grammar.specs.Classes.{is_digit}
use Rattle.sfv_read.specs.Class.{is_minus, is_dot, is_quote, is_backslash, is_unescaped, is_escapable, is_question, is_bit, is_colon, is_equals, is_base64, is_at, is_percent}
use Rattle.std.specs.Str.Parse.{digits_value}
use Rattle.sfv_read.specs.BareItem.{with_sign}
pub use Rattle.sfv_read.specs.tools.DisplayWalk.{with_run}
use Rattle.sfv_read.specs.tools.DisplayWalk.{display_string_read}

-- ---- Integers and Decimals

abbrev pub number_of : List ℕ → List ℕ → Option (List ℕ) → BareItem
number_of sign digits None = Integer (with_sign sign (digits_value 10 digits))
number_of sign digits (Some part) =
    Decimal (with_sign sign (digits_value 10 (digits ++ part) * 10 ^ (3 - length part)))

-- a point and 1 to 3 digits
unfoldable pub part_read : Reader (List ℕ)
part_read bytes = byte_read is_dot bytes >>= λ d. run_read is_digit 1 3 d.1

-- after more than 12 digits no point may stand
unfoldable pub fraction_read : ℕ → Reader (Option (List ℕ))
fraction_read digits bytes =
    if nat_lt 12 digits then Ok (None, bytes) else optional_read is_dot part_read bytes

unfoldable pub number_read : Reader BareItem
number_read bytes = do
  s ← run_read is_minus 0 1 bytes
  d ← run_read is_digit 1 15 s.1
  f ← fraction_read (length d.0) d.1
  Ok (number_of s.0 d.0 f.0, f.1)

-- ---- Dates

unfoldable pub date_read : Reader BareItem
date_read bytes = do
  a ← byte_read is_at bytes
  s ← run_read is_minus 0 1 a.1
  d ← run_read is_digit 1 15 s.1
  Ok (Date (with_sign s.0 (digits_value 10 d.0)), d.1)

-- ---- Strings

-- a backslash, the character that it escapes, and those after it that stand for themselves
unfoldable pub escaped_run_read : Reader (List ℕ)
escaped_run_read bytes =
    byte_read is_backslash bytes >>= λ b. word_read is_escapable is_unescaped b.1

-- an escaped run where a backslash comes
unfoldable pub next_run_read : Reader (Option (List ℕ))
next_run_read bytes = optional_read is_backslash escaped_run_read bytes

-- characters that stand for themselves, and escaped runs
unfoldable pub characters_read : Reader (List ℕ)
characters_read bytes =
    all_read is_unescaped bytes
    >>= λ first. with_state with_run first.0 (turns_read next_run_read first.1)

unfoldable pub string_read : Reader (List ℕ)
string_read bytes = do
  q ← byte_read is_quote bytes
  s ← characters_read q.1
  e ← byte_read is_quote s.1
  Ok (s.0, e.1)

-- ---- Byte Sequences

-- the six bits of a letter
abbrev pub six : ℕ → ℕ
six c =
    if nat_lt c 48 then (if nat_eq c (byte "+") then 62 else 63)
    else (if nat_lt c 58 then c + 4
    else (if nat_lt c 91 then c - 65 else c - 71))

-- how many `=` fill the last group of four letters
abbrev pub pads : ℕ → ℕ
pads letters = (4 - letters % 4) % 4

-- the last group is no single letter, and its bits that no byte needs are zero
abbrev pub are_whole : List ℕ → Bool
are_whole (a ∷ b ∷ c ∷ d ∷ rest) = are_whole rest
are_whole (a ∷ b ∷ c ∷ []) = nat_eq (six c % 4) 0
are_whole (a ∷ b ∷ []) = nat_eq (six b % 16) 0
are_whole (a ∷ []) = false
are_whole [] = true

-- the bytes of letters
unfoldable pub bytes_of : List ℕ → List ℕ
bytes_of (a ∷ b ∷ c ∷ d ∷ rest) = (six a * 4 + six b / 16)
    ∷ (six b % 16 * 16 + six c / 4) ∷ (six c % 4 * 64 + six d) ∷ bytes_of rest
bytes_of (a ∷ b ∷ c ∷ []) = (six a * 4 + six b / 16) ∷ (six b % 16 * 16 + six c / 4) ∷ []
bytes_of (a ∷ b ∷ []) = (six a * 4 + six b / 16) ∷ []
bytes_of (a ∷ []) = []
bytes_of [] = []

abbrev pub padding_of : Option (List ℕ) → List ℕ
padding_of None = []
padding_of (Some f) = f

-- `=` so many times or not at all
unfoldable pub padding_read : ℕ → Reader (List ℕ)
padding_read n bytes =
    if nat_eq n 0 then Ok ([], bytes)
    else (optional_read is_equals (λ b. run_read is_equals n n b) bytes
    >>= λ o. Ok (padding_of o.0, o.1))

-- the padding, and a colon
unfoldable pub padding_end_read : ℕ → Reader (List ℕ)
padding_end_read n bytes = do
  f ← padding_read n bytes
  c ← byte_read is_colon f.1
  Ok (f.0, c.1)

unfoldable pub padding_if_whole : List ℕ → Reader (List ℕ)
padding_if_whole letters bytes =
    if are_whole letters then padding_end_read (pads (length letters)) bytes
    else Err (length bytes)

-- the bytes of the letters, after which their end stands
unfoldable pub letters_end_read : List ℕ → Reader (List ℕ)
letters_end_read letters bytes = padding_if_whole letters bytes >>= λ f. Ok (bytes_of letters, f.1)

unfoldable pub byte_sequence_read : Reader (List ℕ)
byte_sequence_read bytes = do
  c ← byte_read is_colon bytes
  l ← all_read is_base64 c.1
  letters_end_read l.0 l.1

-- ---- bare items

unfoldable pub boolean_read : Reader BareItem
boolean_read bytes = do
  q ← byte_read is_question bytes
  b ← byte_read is_bit q.1
  Ok (Boolean (nat_eq b.0 (byte "1")), b.1)

abbrev pub kind_of_bare_item : ℕ → Option BareKind
kind_of_bare_item c =
    if is_digit c || is_minus c then Some NumberKind
    else (if is_quote c then Some StringKind
    else (if is_token_first c then Some TokenKind
    else (if is_colon c then Some ByteSequenceKind
    else (if is_question c then Some BooleanKind
    else (if is_at c then Some DateKind
    else (if is_percent c then Some DisplayStringKind else None))))))

abbrev pub bare_item_by : BareKind → Reader BareItem
bare_item_by NumberKind bytes = number_read bytes
bare_item_by StringKind bytes = string_read bytes >>= λ s. Ok (Str s.0, s.1)
bare_item_by TokenKind bytes =
    word_read is_token_first is_token_rest bytes >>= λ s. Ok (Token s.0, s.1)
bare_item_by ByteSequenceKind bytes = byte_sequence_read bytes >>= λ s. Ok (Bytes s.0, s.1)
bare_item_by BooleanKind bytes = boolean_read bytes
bare_item_by DateKind bytes = date_read bytes
bare_item_by DisplayStringKind bytes = display_string_read bytes >>= λ s. Ok (Display s.0, s.1)

unfoldable pub bare_item_read : Reader BareItem
bare_item_read bytes = pick_read kind_of_bare_item bare_item_by bytes
