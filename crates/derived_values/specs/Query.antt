-- The parameters of a query, by name (RFC 9421 section 2.2.8).
use Rattle.std.specs.Prelude.{◌≡◌, ◌≤◌, ℕ, List, [], ◌∷◌, map, filter, length}
use Rattle.std.specs.Prelude.{IsTrue, if◌then◌else◌}
use Rattle.std.specs.List.{flat_map, list_all}
use Rattle.std.specs.Str.{bytes_eq}
use Rattle.std.specs.Str.Lossy.{utf8_lossy}
use Rattle.form_urlencoded.specs.Form.{raw_pairs, decode, is_unchanged}
use Rattle.percent_encoding.specs.Percent.{percent_encode_byte}
use Rattle.sfv_text.specs.Range.{is_string_byte}
use Rattle.derived_values.specs.declared.query.ParamFound.{ParamFound}
use Rattle.derived_values.specs.declared.query.ParamFound.TheVariants.{None, One, Many}

-- a name and a value of a query, decoded
pub record QueryPair : Type 0 where
  pub name : List ℕ
  pub value : List ℕ

-- the text that a name or a value stands for: `+` is a space, a percent triplet is its byte, and
-- what isn't UTF-8 then is U+FFFD (WHATWG URL section 5.1)
abbrev pub decoded : List ℕ → List ℕ
decoded raw = utf8_lossy (decode raw)

-- the name and the value of a pair as it is written, decoded
abbrev pub decoded_pair : List ℕ × List ℕ → QueryPair
decoded_pair raw = record { name = decoded raw.0; value = decoded raw.1 }

-- the pairs between the `&`, in order (WHATWG URL section 5.1)
abbrev pub pairs : List ℕ → List QueryPair
pairs query = map decoded_pair (raw_pairs query)

-- a letter, a digit, `*`, `-`, `.` and `_` stay; any other byte is `%` and two upper-case
-- hexadecimal digits (WHATWG URL section 1.3)
abbrev pub encoded_byte : ℕ → List ℕ
encoded_byte c = if is_unchanged c then c ∷ [] else percent_encode_byte c

-- the text with each of its bytes encoded in this way (RFC 9421 section 2.2.8)
abbrev pub encoded : List ℕ → List ℕ
encoded text = flat_map encoded_byte text

-- the encoded values of those of the pairs whose encoded name is this
abbrev pub values_under : List ℕ → List QueryPair → List (List ℕ)
values_under name all =
    map (λ pair. encoded pair.value) (filter (λ pair. bytes_eq (encoded pair.name) name) all)

-- the encoded values that the query has under the encoded name (RFC 9421 section 2.2.8)
abbrev pub matches : List ℕ → List ℕ → List (List ℕ)
matches query name = values_under name (pairs query)

-- two queries
pub record TwoQueries : Type 0 where
  pub query : List ℕ
  pub other : List ℕ

-- what is found where these are the values
abbrev pub IsFound : List (List ℕ) → ParamFound → Type 0
IsFound values None = values ≡ []
IsFound values (One text) = values ≡ text ∷ []
IsFound values Many = 2 ≤ length values

-- ---- laws

-- an encoded text has printable bytes of ASCII alone
abbrev pub HasPrintableEncodings : Type 0
HasPrintableEncodings = (text : List ℕ) → IsTrue (list_all is_string_byte (encoded text))

-- each value that a query has under a name has printable bytes of ASCII alone
abbrev pub HasPrintableMatches : Type 0
HasPrintableMatches =
    (query name : List ℕ) → IsTrue (list_all (list_all is_string_byte) (matches query name))
