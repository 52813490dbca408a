-- The texts of bare items (RFC 9651 section 3.3).
use Rattle.std.specs.Prelude.{◌≡◌, ℕ, ◌-◌, ◌*◌, ◌^◌, ◌⊎◌, Bool, List, [], ◌∷◌, ◌++◌, length, ℤ, pos, neg_ℤ, IsTrue}
use Rattle.std.specs.Str.{byte, is_utf8}
use Rattle.std.specs.Str.Parse.{digits_value}
use Rattle.std.specs.List.{list_all}
use Rattle.base64.specs.Engines.{standard, standard_no_pad}
use Rattle.base64.specs.GeneralPurpose.{encode_of}
use Rattle.byte_grammar.specs.Language.{AreBytesOf, Each, IsWord}
use Rattle.sfv_text.specs.declared.value.BareItem.{BareItem}
use Rattle.sfv_text.specs.declared.value.BareItem.TheVariants.{Integer, Decimal, Str, Token, Bytes, Bool as Boolean, Date, Display}
use Rattle.sfv_text.specs.Range.{is_byte, is_string_byte, is_token_first, is_token_rest, is_unencoded}
use Rattle.sfv_text.specs.Strict.{string_text, bool_text, encoded_byte}
use Rattle.byte_grammar.specs.Classes.{is_digit}
use Rattle.sfv_read.specs.Class.{is_minus}

-- the number, negative where there is a sign
abbrev pub with_sign : List ℕ → ℕ → ℤ
with_sign [] n = pos n
with_sign (_ ∷ _) n = neg_ℤ (pos n)

-- an optional minus, and 1 to 15 digits (RFC 9651 section 3.3.1)
pub record IsInteger (text : List ℕ) (z : ℤ) : Type 0 where
  pub sign : List ℕ
  pub digits : List ℕ
  pub joined : text ≡ sign ++ digits
  pub minus : AreBytesOf is_minus 0 1 sign
  pub whole : AreBytesOf is_digit 1 15 digits
  pub value : z ≡ with_sign sign (digits_value 10 digits)

-- an optional minus, 1 to 12 digits, a point, and 1 to 3 digits; the value is in thousandths
-- (RFC 9651 section 3.3.2)
pub record IsDecimal (text : List ℕ) (z : ℤ) : Type 0 where
  pub sign : List ℕ
  pub digits : List ℕ
  pub part : List ℕ
  pub joined : text ≡ sign ++ (digits ++ byte "." ∷ part)
  pub minus : AreBytesOf is_minus 0 1 sign
  pub whole : AreBytesOf is_digit 1 12 digits
  pub fraction : AreBytesOf is_digit 1 3 part
  pub value : z ≡ with_sign sign (digits_value 10 (digits ++ part) * 10 ^ (3 - length part))

-- printable characters in quotes, `"` and `\` after a backslash (RFC 9651 section 3.3.3)
pub record IsString (text : List ℕ) (s : List ℕ) : Type 0 where
  pub joined : text ≡ string_text s
  pub printable : IsTrue (list_all is_string_byte s)

-- a letter or `*`, and then tchar, `:` or `/` (RFC 9651 section 3.3.4)
abbrev pub IsToken : List ℕ → List ℕ → Type 0
IsToken text token = IsWord is_token_first is_token_rest text token

-- the bytes in base64 between colons, with all of its `=` or none (RFC 9651 section 3.3.5,
-- RFC 4648 section 4)
pub record IsByteSequence (text : List ℕ) (bytes : List ℕ) : Type 0 where
  pub are_bytes : IsTrue (list_all is_byte bytes)
  pub joined : (text ≡ byte ":" ∷ (encode_of standard bytes ++ byte ":" ∷ []))
      ⊎ (text ≡ byte ":" ∷ (encode_of standard_no_pad bytes ++ byte ":" ∷ []))

-- `?1` or `?0` (RFC 9651 section 3.3.6)
abbrev pub IsBoolean : List ℕ → Bool → Type 0
IsBoolean text b = text ≡ bool_text b

-- `@` and an Integer (RFC 9651 section 3.3.7)
pub record IsDate (text : List ℕ) (z : ℤ) : Type 0 where
  pub number : List ℕ
  pub joined : text ≡ byte "@" ∷ number
  pub is_number : IsInteger number z

-- a byte as it is, where it is printable ASCII but not `%` or `"`, or as `%` and two lower-case
-- hexadecimal digits (RFC 9651 section 3.3.8)
abbrev pub IsDisplayByte : List ℕ → ℕ → Type 0
IsDisplayByte text b = ((text ≡ b ∷ []) × IsTrue (is_unencoded b))
    ⊎ ((text ≡ encoded_byte b) × IsTrue (is_byte b))

-- bytes between `%"` and `"`, which are UTF-8 (RFC 9651 section 3.3.8)
pub record IsDisplayString (text : List ℕ) (bytes : List ℕ) : Type 0 where
  pub inside : List ℕ
  pub joined : text ≡ byte "%" ∷ byte "\"" ∷ (inside ++ byte "\"" ∷ [])
  pub each : Each IsDisplayByte inside bytes
  pub utf8 : IsTrue (is_utf8 bytes)

-- a bare item of each kind that is read
abbrev pub IsBareItem : List ℕ → BareItem → Type 0
IsBareItem text (Integer z) = IsInteger text z
IsBareItem text (Decimal z) = IsDecimal text z
IsBareItem text (Str s) = IsString text s
IsBareItem text (Token t) = IsToken text t
IsBareItem text (Bytes b) = IsByteSequence text b
IsBareItem text (Boolean b) = IsBoolean text b
IsBareItem text (Date z) = IsDate text z
IsBareItem text (Display bytes) = IsDisplayString text bytes
