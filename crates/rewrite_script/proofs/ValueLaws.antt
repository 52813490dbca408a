-- Whether the words of a signature have values.
use Rattle.std.proofs.Common.{◌≡◌, ◌⊎◌, inl, inr, ℕ, true, ◌&&◌, List, Result, Ok, Err, Option, Some, None, refl, sym, ap, subst, ◌∙◌, bytes_eq}
use Rattle.std.specs.List.{list_all}
use Rattle.std.specs.Prelude.{MatchResult}
use Rattle.std.specs.Result.{result_and}
use Rattle.std.proofs.lemmas.Bool.{cases_Bool, and_parts, and_from}
use Rattle.std.proofs.lemmas.Slice.Eq.{bytes_eq-Decides}
use Rattle.base64.specs.Engines.{standard}
use Rattle.base64.specs.GeneralPurpose.{IsBytes, decode_of, encode_of}
use Rattle.base64.specs.declared.decode.DecodeError.{DecodeError}
use Rattle.base64.proofs.EngineFacts.{decode_of-encode_of}
use Rattle.sfv_text.specs.Classes.{is_byte}
use Rattle.sfv_text.specs.declared.value.InnerList.{InnerList}
use Rattle.sfv_read.specs.Reads.{ReadsInner}
use Rattle.sfv_read.proofs.Base64Letters.{all_bytes, each_byte}
use Rattle.sfv_read.proofs.Readings.{inner_is_decided}
use Rattle.rewrite_script.specs.declared.rewrite.Rewrite.{Rewrite}
use Rattle.rewrite_script.specs.declared.rewrite.Rewrite.TheVariants.{Lines, Whole}
use Rattle.rewrite_script.specs.declared.rewrite.WholeRewrite.TheVariants.{AddLabel, Rechunk, Chunk, Dechunk, Origin, Absolute, Host, Query, Resf}
use Rattle.rewrite_script.specs.declared.fault.LineFault.{LineFault}
use Rattle.rewrite_script.specs.declared.fault.LineFault.TheVariants.{Memory, NotSpelled}
use Rattle.rewrite_script.specs.Lines.{HasValues, IsBase64, ReadsAsInner}
use Rattle.rewrite_script.specs.tools.Gives.{GivesWhere}
use Rattle.rewrite_script.proofs.Exactness.{some_is}

-- ---- what a test found

pub base64_is : (text bytes : List ℕ) → IsBytes bytes → text ≡ encode_of standard bytes → IsBase64 text
base64_is text bytes are e = record { bytes = bytes; are_bytes = are; encoded = e }

pub base64_isnt : (text : List ℕ) → ((bytes : List ℕ) → IsBytes bytes → ¬ (text ≡ encode_of standard bytes)) → ¬ IsBase64 text
base64_isnt text none is = none is.bytes is.are_bytes is.encoded

pub inner_is : (text : List ℕ) (list : InnerList) → ReadsInner text list → ReadsAsInner text
inner_is text list reads = record { list = list; reads = reads }

pub inner_isnt : (text : List ℕ) → ((list : InnerList) → ¬ ReadsInner text list) → ¬ ReadsAsInner text
inner_isnt text none is = none is.list is.reads

-- ---- words have values or not

ok_is : {E : Type 0} (r : Result (List ℕ) E) (x y : List ℕ) → r ≡ Ok x → r ≡ Ok y → x ≡ y
ok_is r x y one two = cc

base64_decided : (text : List ℕ) → IsBase64 text ⊎ (¬ IsBase64 text)
base64_decided text = go (decode_of standard text) refl
  where
    held : (bytes : List ℕ) → IsBytes bytes → text ≡ encode_of standard bytes → (list_all is_byte bytes && bytes_eq text (encode_of standard bytes)) ≡ true
    held bytes are e = and_from (list_all is_byte bytes) (bytes_eq text (encode_of standard bytes)) (all_bytes bytes are) ((bytes_eq-Decides text (encode_of standard bytes)).1 e)

    decoded : (bytes : List ℕ) → IsBytes bytes → text ≡ encode_of standard bytes → decode_of standard text ≡ Ok bytes
    decoded bytes are e = ap (decode_of standard) e ∙ decode_of-encode_of standard bytes refl are

    go : (r : Result (List ℕ) DecodeError) → decode_of standard text ≡ r → IsBase64 text ⊎ (¬ IsBase64 text)
    go (Err d) e = inr (λ is. absurd (cc (e, decoded is.bytes is.are_bytes is.encoded)))
    go (Ok bytes) e = elim (cases_Bool (list_all is_byte bytes && bytes_eq text (encode_of standard bytes))) [
      | inl right ↦
          let both = and_parts (list_all is_byte bytes) (bytes_eq text (encode_of standard bytes)) right in
          inl (base64_is text bytes (each_byte bytes both.0) ((bytes_eq-Decides text (encode_of standard bytes)).0 both.1))
      | inr wrong ↦ inr (λ is.
          let same : is.bytes ≡ bytes = ok_is (decode_of standard text) is.bytes bytes (decoded is.bytes is.are_bytes is.encoded) e in
          let right : (list_all is_byte bytes && bytes_eq text (encode_of standard bytes)) ≡ true = subst (λ (b : List ℕ). (list_all is_byte b && bytes_eq text (encode_of standard b)) ≡ true) same (held is.bytes is.are_bytes is.encoded) in
          absurd (cc (wrong, right)))
    ]

inner_decided : (text : List ℕ) → ReadsAsInner text ⊎ (¬ ReadsAsInner text)
inner_decided text = elim (inner_is_decided text) [
  | inl is ↦ inl (inner_is text is.0 is.1)
  | inr none ↦ inr (inner_isnt text none)
]

label_decided : (tag params : List ℕ) → (IsBase64 tag × ReadsAsInner params) ⊎ (¬ (IsBase64 tag × ReadsAsInner params))
label_decided tag params = elim (base64_decided tag) [
  | inl is ↦ elim (inner_decided params) [
    | inl reads ↦ inl (is, reads)
    | inr none ↦ inr (λ both. none both.1)
  ]
  | inr none ↦ inr (λ both. none both.0)
]

pub values_decided : (rewrite : Rewrite) → HasValues rewrite ⊎ (¬ HasValues rewrite)
values_decided (Lines rewrite) = inl tt
values_decided (Whole (AddLabel label tag params)) = label_decided tag params
values_decided (Whole (Rechunk sizes)) = inl tt
values_decided (Whole (Chunk sizes)) = inl tt
values_decided (Whole (Host text)) = inl tt
values_decided (Whole (Query text)) = inl tt
values_decided (Whole (Resf side name)) = inl tt
values_decided (Whole Dechunk) = inl tt
values_decided (Whole Origin) = inl tt
values_decided (Whole Absolute) = inl tt

-- ---- a rewriting with values

pub not_valued : (rewrite : Rewrite) → ¬ HasValues rewrite → (other : Rewrite) → Some rewrite ≡ Some other → ¬ HasValues other
not_valued rewrite none other e values = none (subst (λ (r : Rewrite). HasValues r) (sym (some_is rewrite other e)) values)

-- it is given where it was judged to have values
pub given_judged : {T : Type 0} (judged : Result T LineFault) (rewrite : Rewrite) → MatchResult judged (λ _. HasValues rewrite) (λ fault. fault ≡ NotSpelled → ¬ HasValues rewrite)
    → GivesWhere HasValues (λ r. r) (result_and judged (Ok rewrite)) (Some rewrite)
given_judged (Ok x) rewrite values = (refl, values)
given_judged (Err NotSpelled) rewrite none = not_valued rewrite (none refl)
given_judged (Err Memory) rewrite none = tt

pub given_where : (result : Result Rewrite LineFault) (rewrite : Rewrite) (read : Option Rewrite) → read ≡ Some rewrite → GivesWhere HasValues (λ r. r) result (Some rewrite) → GivesWhere HasValues (λ r. r) result read
given_where result rewrite read is gives = subst (λ (o : Option Rewrite). GivesWhere HasValues (λ r. r) result o) (sym is) gives

pub none_where : (read : Option Rewrite) → read ≡ None → (rewrite : Rewrite) → read ≡ Some rewrite → ¬ HasValues rewrite
none_where read none rewrite e values = absurd (cc (none, e))
