-- The characters of a String and the bytes of a Display String that are their own text.
use Rattle.std.proofs.Common.{◌≡◌, get_or, take, ℕ, zero, suc, ◌<◌, Bool, true, false, not, List, [], ◌∷◌, length, refl, ap, arith, Some, None}
use Rattle.std.specs.List.{flat_map, list_any, position}
use Rattle.std.proofs.lemmas.List.Quantifiers.{position-Some}
use Rattle.sfv_text.specs.Classes.{is_unencoded}
use Rattle.sfv_text.specs.Strict.{character_text, display_byte_text}
use Rattle.sfv_text.specs.tools.Escapes.{is_escaped, is_encoded}
use Rattle.sfv_text.proofs.PutLaws.{or_false, none_found}

-- each byte that fails the test is its own text
abbrev IsOwnText : (ℕ → Bool) → (ℕ → List ℕ) → Type 0
IsOwnText test text_of = (c : ℕ) → test c ≡ false → text_of c ≡ c ∷ []

own_all : (test : ℕ → Bool) (text_of : ℕ → List ℕ) → IsOwnText test text_of → (cs : List ℕ) → list_any test cs ≡ false → flat_map text_of cs ≡ cs
own_all test text_of own [] none = refl
own_all test text_of own (c ∷ cs) none =
    let h = or_false (test c) (list_any test cs) none in
    rw (own c h.0) (ap (λ (t : List ℕ). c ∷ t) (own_all test text_of own cs h.1))

own_first : (test : ℕ → Bool) (text_of : ℕ → List ℕ) → IsOwnText test text_of → (cs : List ℕ) (i d : ℕ) → i < length cs → ((k : ℕ) → k < i → test (get_or cs k d) ≡ false) → flat_map text_of (take i cs) ≡ take i cs
own_first test text_of own [] i d lt none = absurd (omega arith)
own_first test text_of own (c ∷ cs) zero d lt none = refl
own_first test text_of own (c ∷ cs) (suc i) d lt none =
    rw (own c (none 0 (omega arith))) (ap (λ (t : List ℕ). c ∷ t) (own_first test text_of own cs i d (omega arith) (λ k less. none (suc k) (omega arith))))

-- bytes of which none passes the test
own_before_end : (test : ℕ → Bool) (text_of : ℕ → List ℕ) → IsOwnText test text_of → (cs : List ℕ) → position test cs ≡ None → flat_map text_of cs ≡ cs
own_before_end test text_of own cs is = own_all test text_of own cs (none_found test cs is)

-- the bytes before the first that passes the test
own_before : (test : ℕ → Bool) (text_of : ℕ → List ℕ) → IsOwnText test text_of → (cs : List ℕ) (i : ℕ) → position test cs ≡ Some i → flat_map text_of (take i cs) ≡ take i cs
own_before test text_of own cs i is =
    let at = position-Some test cs i 0 is in
    own_first test text_of own cs i 0 at.0 at.2

plain : IsOwnText is_escaped character_text
plain c h = rw h refl

not_false : (b : Bool) → not b ≡ false → b ≡ true
not_false true h = refl
not_false false h = absurd cc

unencoded : IsOwnText is_encoded display_byte_text
unencoded c h = rw (not_false (is_unencoded c) h) refl

-- characters of which none is escaped
pub plain_all : (cs : List ℕ) → position is_escaped cs ≡ None → flat_map character_text cs ≡ cs
plain_all cs is = own_before_end is_escaped character_text plain cs is

-- the characters before the first that is escaped
pub plain_before : (cs : List ℕ) (i : ℕ) → position is_escaped cs ≡ Some i → flat_map character_text (take i cs) ≡ take i cs
plain_before cs i is = own_before is_escaped character_text plain cs i is

-- bytes of which none is encoded
pub unencoded_all : (bs : List ℕ) → position is_encoded bs ≡ None → flat_map display_byte_text bs ≡ bs
unencoded_all bs is = own_before_end is_encoded display_byte_text unencoded bs is

-- the bytes before the first that is encoded
pub unencoded_before : (bs : List ℕ) (i : ℕ) → position is_encoded bs ≡ Some i → flat_map display_byte_text (take i bs) ≡ take i bs
unencoded_before bs i is = own_before is_encoded display_byte_text unencoded bs i is
