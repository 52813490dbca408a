-- The key that a text spells.
use Rattle.std.proofs.Common.{◌≡◌, ℕ, true, false, ◌&&◌, Some, None, Result, Ok, Err, List, [], ◌∷◌, zero, suc, refl, inl, inr, ap, ◌∙◌, arith}
use Rattle.std.specs.List.{list_all}
use Rattle.std.specs.Str.{bytes_eq}
use Rattle.std.proofs.lemmas.Bool.{and_parts, cases_Bool, ltb-true, lt-ltb}
use Rattle.std.proofs.lemmas.Bool.Decides.{nat_tests}
use Rattle.std.proofs.lemmas.Slice.Eq.{bytes_eq-Decides}
use Rattle.base64.specs.Engines.{standard}
use Rattle.base64.specs.GeneralPurpose.{decode_of, encode_of, IsBytes}
use Rattle.base64.specs.declared.decode.DecodeError.{DecodeError}
use Rattle.base64.proofs.EngineFacts.{decode_of-encode_of}
use Rattle.sfv_text.specs.Classes.{is_byte}
use Rattle.toml.specs.Data.{Data, string, as_str}
use Rattle.settings.specs.Keys.{IsHmacKey}
use Rattle.conf_values.specs.Values.{IsKeyText}
use Rattle.conf.specs.tools.Added.{is_key_length, key_if, key_in}

-- ---- bytes and lengths

bytes_all : (key : List ℕ) → IsBytes key → list_all is_byte key ≡ true
bytes_all [] h = refl
bytes_all (c ∷ key) h = rw (lt-ltb c 256 (h 0), bytes_all key (λ i. h (suc i))) refl

all_bytes : (key : List ℕ) → list_all is_byte key ≡ true → IsBytes key
all_bytes [] all i = omega arith
all_bytes (c ∷ key) all zero = ltb-true _ _ (and_parts (is_byte c) (list_all is_byte key) all).0
all_bytes (c ∷ key) all (suc i) = all_bytes key (and_parts (is_byte c) (list_all is_byte key) all).1 i

length_of : (key : List ℕ) → IsHmacKey key → is_key_length key ≡ true
length_of key is = let some = is.some in let few = is.few in grind (arith, nat_tests, some, few)

pub of_length : (key : List ℕ) → is_key_length key ≡ true → IsHmacKey key
of_length key test = record { some = grind (arith, nat_tests, test); few = grind (arith, nat_tests, test) }

-- ---- the key of a text

decoded : (text key : List ℕ) → IsBytes key → text ≡ encode_of standard key → decode_of standard text ≡ Ok key
decoded text key bytes spelled = ap (decode_of standard) spelled ∙ decode_of-encode_of standard key refl bytes

-- a text that spells a key is read as that key
pub key_is : (text key : List ℕ) → IsKeyText text key → Some key ≡ key_in (string text)
unfolding key_in
key_is text key is =
    rw (decoded text key is.bytes is.spelled, length_of key is.is_key, bytes_all key is.bytes, (bytes_eq-Decides text (encode_of standard key)).1 is.spelled) refl

-- bytes of another length are none
pub key_isnt : (text key : List ℕ) → IsBytes key → text ≡ encode_of standard key → is_key_length key ≡ false → None ≡ key_in (string text)
unfolding key_in
key_isnt text key bytes spelled other = rw (decoded text key bytes spelled, other) refl

-- nor is a text that spells no bytes
pub no_key : (text : List ℕ) (d : DecodeError) → decode_of standard text ≡ Err d → None ≡ key_in (string text)
unfolding key_in
no_key text d fails = rw fails refl

read_if : {E : Type 0} (text key : List ℕ) (read : Result (List ℕ) E) → key_if text read ≡ Some key → IsKeyText text key
read_if text key (Ok bytes) found = elim (cases_Bool (is_key_length bytes && (list_all is_byte bytes && bytes_eq text (encode_of standard bytes)))) [
  | inl passes ↦
      let same : bytes ≡ key = cc (rw passes at found) in
      let one = and_parts (is_key_length bytes) (list_all is_byte bytes && bytes_eq text (encode_of standard bytes)) passes in
      let two = and_parts (list_all is_byte bytes) (bytes_eq text (encode_of standard bytes)) one.1 in
      rw (← same) (record { bytes = all_bytes bytes two.0; spelled = (bytes_eq-Decides text (encode_of standard bytes)).0 two.1; is_key = of_length bytes one.0 })
  | inr fails ↦ let none = rw fails at found in absurd cc
]
read_if text key (Err e) found = absurd cc

-- what is read as a key is spelled by the text
pub key_spelled : (text key : List ℕ) → key_in (string text) ≡ Some key → IsKeyText text key
unfolding key_in
key_spelled text key found = read_if text key (decode_of standard text) found

-- a value that is no text spells none
pub key_of_other : (value : Data) → as_str value ≡ None → key_in value ≡ None
unfolding key_in
key_of_other (string text) other = absurd cc
key_of_other value other = refl
