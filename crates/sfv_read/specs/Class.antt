-- Classes of bytes in structured fields (RFC 9651 section 3).
use Rattle.std.specs.Prelude.{ℕ, Bool, ◌&&◌, ◌||◌, ◌==◌, not}
use Rattle.std.specs.Str.{byte}
use Rattle.byte_grammar.specs.Classes.{is_digit, is_alpha}
use Rattle.sfv_text.specs.Range.{is_string_byte, is_unencoded, is_key_first, is_key_rest, is_token_first, is_token_rest}
use Rattle.sfv_read.specs.declared.class.SfClass.{SfClass}
use Rattle.sfv_read.specs.declared.class.SfClass.TheVariants.{Escapable, Unescaped, KeyFirst, KeyRest, TokenFirst, TokenRest, Bit, Base64, Unencoded}

-- ---- one byte

-- `-`, which begins a negative number (RFC 9651 section 3.3.1)
abbrev pub is_minus : ℕ → Bool
is_minus c = c == byte "-"

-- `.`, the point of a Decimal (RFC 9651 section 3.3.2)
abbrev pub is_dot : ℕ → Bool
is_dot c = c == byte "."

-- `"`, at both ends of a String (RFC 9651 section 3.3.3)
abbrev pub is_quote : ℕ → Bool
is_quote c = c == byte "\""

-- `\`, before an escaped character of a String (RFC 9651 section 3.3.3)
abbrev pub is_backslash : ℕ → Bool
is_backslash c = c == byte "\\"

-- `;`, which begins a parameter (RFC 9651 section 3.1.2)
abbrev pub is_semicolon : ℕ → Bool
is_semicolon c = c == byte ";"

-- `,`, between two members (RFC 9651 sections 3.1 and 3.2)
abbrev pub is_comma : ℕ → Bool
is_comma c = c == byte ","

-- `=`, between a key and its value (RFC 9651 sections 3.1.2 and 3.2)
abbrev pub is_equals : ℕ → Bool
is_equals c = c == byte "="

-- `?`, which begins a Boolean (RFC 9651 section 3.3.6)
abbrev pub is_question : ℕ → Bool
is_question c = c == byte "?"

-- `(`, which begins an Inner List (RFC 9651 section 3.1.1)
abbrev pub is_open : ℕ → Bool
is_open c = c == byte "("

-- `)`, which ends the Items of an Inner List (RFC 9651 section 3.1.1)
abbrev pub is_close : ℕ → Bool
is_close c = c == byte ")"

-- `:`, at both ends of a Byte Sequence (RFC 9651 section 3.3.5)
abbrev pub is_colon : ℕ → Bool
is_colon c = c == byte ":"

-- `@`, which begins a Date (RFC 9651 section 3.3.7)
abbrev pub is_at : ℕ → Bool
is_at c = c == byte "@"

-- `%`, which begins a Display String and each of its encoded bytes (RFC 9651 section 3.3.8)
abbrev pub is_percent : ℕ → Bool
is_percent c = c == byte "%"

-- ---- several bytes

-- what a String has after a backslash alone (RFC 9651 section 3.3.3)
abbrev pub is_escapable : ℕ → Bool
is_escapable c = (c == byte "\"") || (c == byte "\\")

-- what a String has without a backslash before it (RFC 9651 section 3.3.3)
abbrev pub is_unescaped : ℕ → Bool
is_unescaped c = is_string_byte c && (not (c == byte "\"") && not (c == byte "\\"))

-- what says which Boolean it is (RFC 9651 section 3.3.6)
abbrev pub is_bit : ℕ → Bool
is_bit c = (c == byte "0") || (c == byte "1")

-- the base64 alphabet (RFC 4648 section 4)
abbrev pub is_base64 : ℕ → Bool
is_base64 c = is_alpha c || (is_digit c || ((c == byte "+") || (c == byte "/")))

-- the bytes of a class of structured fields, by its name
abbrev pub members : SfClass → ℕ → Bool
members Escapable c = is_escapable c
members Unescaped c = is_unescaped c
members KeyFirst c = is_key_first c
members KeyRest c = is_key_rest c
members TokenFirst c = is_token_first c
members TokenRest c = is_token_rest c
members Bit c = is_bit c
members Base64 c = is_base64 c
members Unencoded c = is_unencoded c
