-- Laws of strict texts, of equality, and of pairs with distinct keys.
use Rattle.std.specs.Prelude.{◌≡◌, ◌↔◌, ℕ, Bool, false, Some, List, [], ◌∷◌, ◌++◌, IsTrue, if◌then◌else◌}
use Rattle.std.specs.List.{list_all, list_any}
use Rattle.std.specs.Str.{bytes_eq}
use Rattle.sfv_text.specs.declared.pair.Pair.{Pair}
use Rattle.sfv_text.specs.Keys.{has_key, have_distinct_keys, put, value_of}
use Rattle.sfv_text.specs.Range.{is_string_byte}

-- the text of a value in range has printable bytes of ASCII alone
abbrev pub HasPrintableTexts : {V : Type 0} → (V → Bool) → (V → List ℕ) → Type 0
HasPrintableTexts {V} is_in_range text_of =
    (value : V) → IsTrue (is_in_range value) → IsTrue (list_all is_string_byte (text_of value))

-- the test passes exactly on equal values
abbrev pub IsEquality : {V : Type 0} → (V → V → Bool) → Type 0
IsEquality {V} test = (a b : V) → IsTrue (test a b) ↔ (a ≡ b)

-- the test answers the same whichever value comes first
abbrev pub IsSymmetric : {V : Type 0} → (V → V → Bool) → Type 0
IsSymmetric {V} test = (a b : V) → test a b ≡ test b a

-- where keys are distinct, no other pair has the key of the first, and those of the others are
-- distinct
abbrev pub HasOwnKeyFirst : Type 0 → Type 0
HasOwnKeyFirst V =
    (pair : Pair V) (pairs : List (Pair V)) → IsTrue (have_distinct_keys (pair ∷ pairs))
    → (list_any (has_key pair.key) pairs ≡ false) × IsTrue (have_distinct_keys pairs)

-- a key that is put leaves the keys distinct
abbrev pub PutsDistinctly : Type 0 → Type 0
PutsDistinctly V =
    (pairs : List (Pair V)) (key : List ℕ) (value : V) → IsTrue (have_distinct_keys pairs)
    → IsTrue (have_distinct_keys (put pairs key value))

-- what passes on each pair and on the new one passes on each after the key is put
abbrev pub PutsWithTest : Type 0 → Type 0
PutsWithTest V =
    (test : Pair V → Bool) (pairs : List (Pair V)) (key : List ℕ) (value : V)
    → IsTrue (list_all test pairs) → IsTrue (test (record { key = key; value = value }))
    → IsTrue (list_all test (put pairs key value))

-- a key that no pair has comes at the end
abbrev pub PutsNewLast : Type 0 → Type 0
PutsNewLast V =
    (pairs : List (Pair V)) (key : List ℕ) (value : V) → list_any (has_key key) pairs ≡ false
    → pairs ++ record { key = key; value = value } ∷ [] ≡ put pairs key value

-- the key that is put has the value, and each other key has its own as before
abbrev pub PutsValue : Type 0 → Type 0
PutsValue V =
    (key : List ℕ) (value : V) (other : List ℕ) (pairs : List (Pair V))
    → value_of (put pairs key value) other
    ≡ (if bytes_eq key other then Some value else value_of pairs other)
