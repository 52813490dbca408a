-- The value of a key passes what all pairs pass.
use Rattle.std.proofs.Common.{◌≡◌, true, Bool, List, [], ◌∷◌, ℕ, Some, sym, ap, ◌∙◌, inl, inr}
use Rattle.std.specs.List.{list_all}
use Rattle.std.proofs.lemmas.Bool.{cases_Bool, and_parts}
use Rattle.sfv_text.specs.Keys.{has_key, have_distinct_keys, value_of}
use Rattle.sfv_text.specs.Range.{is_key, is_bare_in_range, is_param_in_range, are_params_in_range, is_string_byte}
use Rattle.sfv_text.specs.declared.pair.Pair.{Pair}
use Rattle.sfv_text.specs.declared.value.BareItem.{BareItem}
use Rattle.sfv_text.specs.declared.value.BareItem.TheVariants.{Str}

-- the value of a key stands in a pair, and that pair passes a test that each pair passes
pub value_passes : {V : Type 0} (test : Pair V → Bool) (pairs : List (Pair V)) (key : List ℕ) (value : V) → list_all test pairs ≡ true → value_of pairs key ≡ Some value
    → (pair : Pair V) × (test pair ≡ true) × (pair.value ≡ value)
value_passes test [] key value all there = absurd cc
value_passes test (pair ∷ pairs) key value all there =
    let h = and_parts (test pair) (list_all test pairs) all in
    elim (cases_Bool (has_key key pair)) [
      | inl found ↦ let same : pair.value ≡ value = let e = rw found at there in cc in (pair, h.0, same)
      | inr other ↦ value_passes test pairs key value h.1 (rw other at there)
    ]

-- a String among parameters in range has printable characters
pub string_in_range : (params : List (Pair BareItem)) (key text : List ℕ) → are_params_in_range params ≡ true → value_of params key ≡ Some (Str text)
    → list_all is_string_byte text ≡ true
string_in_range params key text fit there =
    let at = value_passes is_param_in_range params key (Str text) (and_parts (have_distinct_keys params) (list_all is_param_in_range params) fit).1 there in
    ap is_bare_in_range (sym at.2) ∙ (and_parts (is_key at.0.key) (is_bare_in_range at.0.value) at.1).1
