-- What holds of pairs when a key is put.
use Rattle.std.proofs.Common.{◌≡◌, get_or, set, ℕ, zero, suc, ◌<◌, Bool, true, false, not, ◌||◌, map, List, [], ◌∷◌, ◌++◌, length, refl, sym, ap, ◌∙◌, arith, inl, inr, Some, None, if◌then◌else◌}
use Rattle.std.specs.List.{list_all, list_any, position, position_or_len}
use Rattle.std.specs.Prelude.{nat_lt}
use Rattle.std.proofs.lemmas.List.Quantifiers.{position-Some}
use Rattle.std.specs.Str.{bytes_eq}
use Rattle.std.proofs.lemmas.Bool.{cases_Bool, and_parts, false≢true, lt-ltb}
use Rattle.std.proofs.lemmas.Bool.Decides.{same_from_decides}
use Rattle.std.proofs.lemmas.List.Folds.{list_all-append, list_any-append}
use Rattle.std.proofs.lemmas.Slice.Eq.{bytes_eq-Decides}
use Rattle.sfv_text.specs.declared.pair.Pair.{Pair}
use Rattle.sfv_text.specs.Keys.{has_key, have_distinct_keys, value_of, with_value, put}

pub bytes_eq-sym : (a b : List ℕ) → bytes_eq a b ≡ bytes_eq b a
bytes_eq-sym a b =
    let d = bytes_eq-Decides b a in
    same_from_decides (bytes_eq a b) (bytes_eq b a) (bytes_eq-Decides a b) ((λ h. sym (d.0 h)), (λ e. d.1 (sym e)))

not_false : (b : Bool) → not b ≡ true → b ≡ false
not_false true h = absurd (false≢true h)
not_false false h = refl

-- no pair has the key of the first, and so on
pub distinct_parts : {V : Type 0} (p : Pair V) (ps : List (Pair V)) → have_distinct_keys (p ∷ ps) ≡ true → (list_any (has_key p.key) ps ≡ false) × (have_distinct_keys ps ≡ true)
distinct_parts p ps d =
    let h = and_parts (not (list_any (has_key p.key) ps)) (have_distinct_keys ps) d in
    (not_false (list_any (has_key p.key) ps) h.0, h.1)

pub or_false : (a b : Bool) → (a || b) ≡ false → (a ≡ false) × (b ≡ false)
or_false true b h = absurd (false≢true (sym h))
or_false false b h = (refl, h)

-- where no pair has the key, nothing changes
with_value_none : {V : Type 0} (key : List ℕ) (v : V) (ps : List (Pair V)) → list_any (has_key key) ps ≡ false → map (with_value key v) ps ≡ ps
with_value_none key v [] n = refl
with_value_none {V} key v (p ∷ ps) n =
    let h = or_false (has_key key p) (list_any (has_key key) ps) n in
    rw h.0 (ap (λ (qs : List (Pair V)). p ∷ qs) (with_value_none key v ps h.1))

pub found_any : {V : Type 0} (ps : List (Pair V)) (key : List ℕ) (index : ℕ) → index < length ps → ((d : Pair V) → has_key key (get_or ps index d) ≡ true) → list_any (has_key key) ps ≡ true
found_any [] key index lt at = absurd (omega arith)
found_any (p ∷ ps) key zero lt at = rw (at p) refl
found_any (p ∷ ps) key (suc index) lt at = elim (cases_Bool (has_key key p)) [
  | inl h ↦ rw h refl
  | inr n ↦ rw n (found_any ps key index (omega arith) at)
]

set_found : {V : Type 0} (ps : List (Pair V)) (key : List ℕ) (v : V) (index : ℕ) → have_distinct_keys ps ≡ true → index < length ps → ((d : Pair V) → has_key key (get_or ps index d) ≡ true)
    → set ps index (record { key = key; value = v }) ≡ map (with_value key v) ps
set_found [] key v index d lt at = absurd (omega arith)
set_found {V} (p ∷ ps) key v zero d lt at =
    let same : p.key ≡ key = (bytes_eq-Decides p.key key).0 (at p) in
    let none : list_any (has_key key) ps ≡ false = rw same at (distinct_parts p ps d).0 in
    rw (at p, with_value_none key v ps none) (ap (λ (k : List ℕ). record { key = k; value = v } ∷ ps) (sym same))
set_found {V} (p ∷ ps) key v (suc index) d lt at = elim (cases_Bool (has_key key p)) [
  | inl h ↦ absurd (false≢true (sym (rw ((bytes_eq-Decides p.key key).0 h) at (distinct_parts p ps d).0) ∙ found_any ps key index (omega arith) at))
  | inr n ↦ rw n (ap (λ (qs : List (Pair V)). p ∷ qs) (set_found ps key v index (distinct_parts p ps d).1 (omega arith) at))
]

-- a pair where the key's pair stands
pub put_found : {V : Type 0} (ps : List (Pair V)) (key : List ℕ) (v : V) (index : ℕ) → have_distinct_keys ps ≡ true → position (has_key key) ps ≡ Some index
    → set ps index (record { key = key; value = v }) ≡ put ps key v
put_found {V} ps key v index d f =
    let at = λ (d : Pair V). position-Some (has_key key) ps index d f in
    let lt = (at (record { key = key; value = v })).0 in
    rw (found_any ps key index lt (λ d. (at d).1)) (set_found ps key v index d lt (λ d. (at d).1))

within : {X : Type 0} (p : X → Bool) (xs : List X) → list_any p xs ≡ true → position_or_len p xs < length xs
within p [] h = absurd cc
within p (x ∷ xs) h = elim (cases_Bool (p x)) [
  | inl passes ↦ rw passes (omega arith)
  | inr fails ↦ let more : list_any p xs ≡ true = rw fails at h in let lt = within p xs more in rw fails (omega arith)
]

-- no pair has the key where none is found
pub none_found : {X : Type 0} (p : X → Bool) (xs : List X) → position p xs ≡ None → list_any p xs ≡ false
none_found p xs none = elim (cases_Bool (list_any p xs)) [
  | inl h ↦ let lt : nat_lt (position_or_len p xs) (length xs) ≡ true = lt-ltb (position_or_len p xs) (length xs) (within p xs h) in let found = rw lt at none in absurd cc
  | inr n ↦ n
]

-- a pair at the end
pub put_new : {V : Type 0} (ps : List (Pair V)) (key : List ℕ) (v : V) → list_any (has_key key) ps ≡ false → ps ++ record { key = key; value = v } ∷ [] ≡ put ps key v
put_new ps key v none = rw none refl

pub none_has : {V : Type 0} (ps : List (Pair V)) (key : List ℕ) → position (has_key key) ps ≡ None → list_any (has_key key) ps ≡ false
none_has ps key none = none_found (has_key key) ps none

with_value_key : {V : Type 0} (key k : List ℕ) (v : V) (p : Pair V) → has_key k (with_value key v p) ≡ has_key k p
with_value_key key k v p = elim (cases_Bool (has_key key p)) [
  | inl h ↦ rw h refl
  | inr n ↦ rw n refl
]

with_value_any : {V : Type 0} (key k : List ℕ) (v : V) (ps : List (Pair V)) → list_any (has_key k) (map (with_value key v) ps) ≡ list_any (has_key k) ps
with_value_any key k v [] = refl
with_value_any key k v (p ∷ ps) = rw (with_value_key key k v p, with_value_any key k v ps) refl

with_value_distinct : {V : Type 0} (key : List ℕ) (v : V) (ps : List (Pair V)) → have_distinct_keys (map (with_value key v) ps) ≡ have_distinct_keys ps
with_value_distinct key v [] = refl
with_value_distinct {V} key v (p ∷ ps) = elim (cases_Bool (has_key key p)) [
  | inl h ↦ rw (h, with_value_any key p.key v ps, with_value_distinct key v ps) refl
  | inr n ↦ rw (n, with_value_any key p.key v ps, with_value_distinct key v ps) refl
]

distinct_more : {V : Type 0} (ps : List (Pair V)) (q : Pair V) → list_any (has_key q.key) ps ≡ false → have_distinct_keys ps ≡ true → have_distinct_keys (ps ++ q ∷ []) ≡ true
distinct_more [] q none d = refl
distinct_more (p ∷ ps) q none d =
    let n = or_false (has_key q.key p) (list_any (has_key q.key) ps) none in
    let h = distinct_parts p ps d in
    let apart : bytes_eq q.key p.key ≡ false = bytes_eq-sym q.key p.key ∙ n.0 in
    rw (list_any-append (has_key p.key) ps (q ∷ []), h.0, apart, distinct_more ps q n.1 h.1) refl

-- a put leaves the keys distinct
pub put_distinct : {V : Type 0} (ps : List (Pair V)) (key : List ℕ) (v : V) → have_distinct_keys ps ≡ true → have_distinct_keys (put ps key v) ≡ true
put_distinct ps key v d = elim (cases_Bool (list_any (has_key key) ps)) [
  | inl h ↦ rw (h, with_value_distinct key v ps) d
  | inr n ↦ rw n (distinct_more ps (record { key = key; value = v }) n d)
]

pub put_found_distinct : {V : Type 0} (ps : List (Pair V)) (key : List ℕ) (v : V) (index : ℕ) → have_distinct_keys ps ≡ true → position (has_key key) ps ≡ Some index
    → have_distinct_keys (set ps index (record { key = key; value = v })) ≡ true
put_found_distinct ps key v index d f = rw (put_found ps key v index d f) (put_distinct ps key v d)

pub put_new_distinct : {V : Type 0} (ps : List (Pair V)) (key : List ℕ) (v : V) → have_distinct_keys ps ≡ true → list_any (has_key key) ps ≡ false
    → have_distinct_keys (ps ++ record { key = key; value = v } ∷ []) ≡ true
put_new_distinct ps key v d none = rw (put_new ps key v none) (put_distinct ps key v d)

with_value_kept : {V : Type 0} (test : Pair V → Bool) (key : List ℕ) (v : V) (p : Pair V) → test p ≡ true → test (record { key = key; value = v }) ≡ true → test (with_value key v p) ≡ true
with_value_kept {V} test key v p old new = elim (cases_Bool (has_key key p)) [
  | inl h ↦ rw h (rw (← (bytes_eq-Decides p.key key).0 h) at new)
  | inr n ↦ rw n old
]

with_values_kept : {V : Type 0} (test : Pair V → Bool) (key : List ℕ) (v : V) (ps : List (Pair V)) → list_all test ps ≡ true → test (record { key = key; value = v }) ≡ true → list_all test (map (with_value key v) ps) ≡ true
with_values_kept test key v [] old new = refl
with_values_kept test key v (p ∷ ps) old new =
    let h = and_parts (test p) (list_all test ps) old in
    rw (with_value_kept test key v p h.0 new) (with_values_kept test key v ps h.1 new)

-- a put keeps what holds of each pair and of the new one
pub put_kept : {V : Type 0} (test : Pair V → Bool) (ps : List (Pair V)) (key : List ℕ) (v : V) → list_all test ps ≡ true → test (record { key = key; value = v }) ≡ true → list_all test (put ps key v) ≡ true
put_kept test ps key v old new = elim (cases_Bool (list_any (has_key key) ps)) [
  | inl h ↦ rw h (with_values_kept test key v ps old new)
  | inr n ↦ rw (n, list_all-append test ps (record { key = key; value = v } ∷ []), old, new) refl
]

-- ---- the value of a key after a put

module _ {V : Type 0} (k : List ℕ) (v : V) (key : List ℕ) where
  -- another key keeps its value
  other_value : (ps : List (Pair V)) → bytes_eq k key ≡ false → value_of (map (with_value k v) ps) key ≡ value_of ps key
  other_value [] other = refl
  other_value (p ∷ ps) other = elim (cases_Bool (has_key k p)) [
    | inl h ↦
        let apart : has_key key p ≡ false = rw (← (bytes_eq-Decides p.key k).0 h) at other in
        rw (h, apart) (other_value ps other)
    | inr n ↦ elim (cases_Bool (has_key key p)) [
      | inl h ↦ rw (n, h) refl
      | inr m ↦ rw (n, m) (other_value ps other)
    ]
  ]

  -- the key has the value
  this_value : (ps : List (Pair V)) → bytes_eq k key ≡ true → list_any (has_key k) ps ≡ true → value_of (map (with_value k v) ps) key ≡ Some v
  this_value [] same some = absurd (false≢true some)
  this_value (p ∷ ps) same some = elim (cases_Bool (has_key k p)) [
    | inl h ↦
        let has : has_key key p ≡ true = rw (← (bytes_eq-Decides p.key k).0 h) at same in
        rw (h, has) refl
    | inr n ↦
        let has : has_key key p ≡ false = rw ((bytes_eq-Decides k key).0 same) at n in
        let more : list_any (has_key k) ps ≡ true = rw n at some in
        rw (n, has) (this_value ps same more)
  ]

  -- a pair at the end
  new_value : (ps : List (Pair V)) → list_any (has_key k) ps ≡ false
      → value_of (ps ++ record { key = k; value = v } ∷ []) key ≡ (if bytes_eq k key then Some v else value_of ps key)
  new_value [] none = elim (cases_Bool (bytes_eq k key)) [
    | inl h ↦ rw h refl
    | inr n ↦ rw n refl
  ]
  new_value (p ∷ ps) none =
      let apart = or_false (has_key k p) (list_any (has_key k) ps) none in
      elim (cases_Bool (has_key key p)) [
        | inl h ↦
            let other : bytes_eq k key ≡ false = elim (cases_Bool (bytes_eq k key)) [
              | inl same ↦ absurd (false≢true (sym (rw ((bytes_eq-Decides k key).0 same) at apart.0) ∙ h))
              | inr n ↦ n
            ] in
            rw (h, other) refl
        | inr n ↦ rw n (new_value ps apart.1)
      ]

  -- a put gives its key the value, and another key keeps its own
  pub put_value : (ps : List (Pair V)) → value_of (put ps k v) key ≡ (if bytes_eq k key then Some v else value_of ps key)
  put_value ps = elim (cases_Bool (list_any (has_key k) ps)) [
    | inl some ↦ elim (cases_Bool (bytes_eq k key)) [
      | inl same ↦ rw (some, same) (this_value ps same some)
      | inr other ↦ rw (some, other) (other_value ps other)
    ]
    | inr none ↦ rw none (new_value ps none)
  ]
