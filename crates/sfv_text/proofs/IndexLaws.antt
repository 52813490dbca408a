-- The places of pairs by their keys, as pairs come and are replaced.
use Rattle.std.proofs.Common.{◌≡◌, get_or, set, take, ℕ, zero, suc, ◌+◌, ◌<◌, Bool, true, false, cond, IsTrue, List, [], ◌∷◌, ◌++◌, length, refl, sym, subst, ap, ◌∙◌, arith, inl, inr, Some, None, Option}
use Rattle.std.proofs.lemmas.Bool.{cases_Bool, lt-ltb}
use Rattle.std.proofs.lemmas.Bool.Decides.{same_from_decides, Decides-ltb}
use Rattle.std.proofs.lemmas.List.{length-set, length-take-le, take_more}
use Rattle.std.proofs.lemmas.List.Folds.{find_at, position_or_len-set}
use Rattle.std.proofs.lemmas.List.Quantifiers.{position-Some}
use Rattle.std.proofs.lemmas.Map.Text.{is_eq-slice_cmp}
use Rattle.std.proofs.lemmas.Option.{slice_get-get_or}
use Rattle.std.proofs.lemmas.Slice.Eq.{bytes_eq-Decides}
use Rattle.std.specs.Cmp.Lexicographic.{nat_list_cmp_total}
use Rattle.std.specs.FinMap as map
use Rattle.std.specs.List.{find, list_any, position, position_or_len}
use Rattle.std.specs.Prelude.{nat_lt, option_map, slice_get}
use Rattle.std.specs.Str.{bytes_eq}
use Rattle.sfv_text.specs.declared.pair.Pair.{Pair}
use Rattle.sfv_text.specs.Keys.{has_key, have_distinct_keys, put}
use Rattle.sfv_text.specs.tools.Index.{Places, ArePlacesOf, Indexes}
use Rattle.sfv_text.proofs.PutLaws.{bytes_eq-sym, distinct_parts, or_false, none_found, none_has, put_found, put_found_distinct, put_new, put_new_distinct}

-- a place in a list of that length, or none
abbrev place_in : ℕ → ℕ → Option ℕ
place_in i n = cond (nat_lt i n) (Some i) None

lt_suc : (a b : ℕ) → nat_lt (suc a) (suc b) ≡ nat_lt a b
lt_suc a b =
    let d = Decides-ltb a b in
    same_from_decides (nat_lt (suc a) (suc b)) (nat_lt a b) (Decides-ltb (suc a) (suc b)) ((λ h. let lt : a < b = d.0 h in omega arith), (λ lt. d.1 (omega arith)))

one_on : (test : Bool) (a : ℕ) → cond test (Some (suc a)) None ≡ option_map (λ n. suc n) (cond test (Some a) None)
one_on true a = refl
one_on false a = refl

place_in-suc : (a b : ℕ) → place_in (1 + a) (suc b) ≡ option_map (λ n. suc n) (place_in a b)
place_in-suc a b =
    let one : 1 + a ≡ suc a = omega arith in
    ap (λ n. place_in n (suc b)) one ∙ ap (λ test. cond test (Some (suc a)) None) (lt_suc a b) ∙ one_on (nat_lt a b) a

-- the first element passes, or the place is one after that in the others
position_step : {X : Type 0} (p : X → Bool) (x : X) (xs : List X) → position p (x ∷ xs) ≡ cond (p x) (Some 0) (option_map (λ n. suc n) (position p xs))
position_step p x xs = elim (cases_Bool (p x)) [
  | inl passes ↦ rw passes (ap (λ test. cond test (Some 0) None) (lt-ltb 0 (suc (length xs)) (omega arith)))
  | inr fails ↦ rw fails (place_in-suc (position_or_len p xs) (length xs))
]

-- one more element that fails changes no place
position_other : {X : Type 0} (p : X → Bool) (xs : List X) (x : X) → p x ≡ false → position p (xs ++ x ∷ []) ≡ position p xs
position_other p [] x fails = rw fails refl
position_other p (y ∷ ys) x fails =
    position_step p y (ys ++ x ∷ []) ∙ ap (λ place. cond (p y) (Some 0) (option_map (λ n. suc n) place)) (position_other p ys x fails) ∙ sym (position_step p y ys)

-- the first element that passes is the last
position_last : {X : Type 0} (p : X → Bool) (xs : List X) (x : X) → list_any p xs ≡ false → p x ≡ true → position p (xs ++ x ∷ []) ≡ Some (length xs)
position_last p [] x none passes = rw passes refl
position_last p (y ∷ ys) x none passes =
    let h = or_false (p y) (list_any p ys) none in
    position_step p y (ys ++ x ∷ [])
    ∙ ap (λ test. cond test (Some 0) (option_map (λ n. suc n) (position p (ys ++ x ∷ [])))) h.0
    ∙ ap (option_map (λ n. suc n)) (position_last p ys x h.1 passes)

-- an element in place of one that passes alike changes no place
position_set : {X : Type 0} (p : X → Bool) (xs : List X) (i : ℕ) (x d : X) → p x ≡ p (get_or xs i d) → position p (set xs i x) ≡ position p xs
position_set p xs i x d alike =
    ap (λ place. place_in place (length (set xs i x))) (position_or_len-set p xs i x d alike)
    ∙ ap (place_in (position_or_len p xs)) (length-set xs i x)

-- what is found is at its place
pub found_at : {X : Type 0} (p : X → Bool) (xs : List X) (i : ℕ) (d : X) → position p xs ≡ Some i → find p xs ≡ Some (get_or xs i d)
found_at p xs i d is =
    let at = position-Some p xs i d is in
    find_at p xs ∙ ap (slice_get xs) (the_place (nat_lt (position_or_len p xs) (length xs)) is) ∙ slice_get-get_or xs i d at.0
  where
    the_place : (test : Bool) {n i : ℕ} → cond test (Some n) None ≡ Some i → n ≡ i
    the_place true e = cc
    the_place false e = absurd cc

find_none : {X : Type 0} (p : X → Bool) (xs : List X) → list_any p xs ≡ false → find p xs ≡ None
find_none p [] none = refl
find_none p (x ∷ xs) none =
    let h = or_false (p x) (list_any p xs) none in
    rw h.0 (find_none p xs h.1)

-- nothing is found where nothing has a place
pub none_at : {X : Type 0} (p : X → Bool) (xs : List X) → position p xs ≡ None → find p xs ≡ None
none_at p xs is = find_none p xs (none_found p xs is)

-- the places with one more pair of a new key
pub one_more_place : {V : Type 0} (places : Places) (ps : List (Pair V)) (q : Pair V) → ArePlacesOf places ps → list_any (has_key q.key) ps ≡ false
    → ArePlacesOf (map.insert places q.key (length ps)) (ps ++ q ∷ [])
one_more_place {V} places ps q are new key =
    map.get-insert nat_list_cmp_total places q.key (length ps) key
    ∙ ap (λ test. cond test (Some (length ps)) (map.get places key)) (is_eq-slice_cmp key q.key)
    ∙ elim (cases_Bool (bytes_eq key q.key)) as (λ _. cond (bytes_eq key q.key) (Some (length ps)) (map.get places key) ≡ position (has_key key) (ps ++ q ∷ [])) [
      | inl same ↦
          let e : key ≡ q.key = (bytes_eq-Decides key q.key).0 same in
          let none : list_any (has_key key) ps ≡ false = ap (λ k. list_any (has_key {V = V} k) ps) e ∙ new in
          rw same (sym (position_last (has_key key) ps q none ((bytes_eq-Decides q.key key).1 (sym e))))
      | inr apart ↦ rw apart (are key ∙ sym (position_other (has_key key) ps q (bytes_eq-sym q.key key ∙ apart)))
    ]

-- a value in place of the key's changes no place
pub same_places : {V : Type 0} (places : Places) (ps : List (Pair V)) (key : List ℕ) (v : V) (i : ℕ) → ArePlacesOf places ps → position (has_key key) ps ≡ Some i
    → ArePlacesOf places (set ps i (record { key = key; value = v }))
same_places {V} places ps key v i are found other =
    let pair : Pair V = record { key = key; value = v } in
    let same : (get_or ps i pair).key ≡ key = (bytes_eq-Decides (get_or ps i pair).key key).0 (position-Some (has_key key) ps i pair found).1 in
    are other ∙ sym (position_set (has_key other) ps i pair pair (ap (λ k. bytes_eq k other) (sym same)))

fails_at : {X : Type 0} (p : X → Bool) (xs : List X) (i : ℕ) (d : X) → list_any p xs ≡ false → i < length xs → p (get_or xs i d) ≡ false
fails_at p [] i d none lt = absurd (omega arith)
fails_at p (x ∷ xs) zero d none lt = (or_false (p x) (list_any p xs) none).0
fails_at p (x ∷ xs) (suc i) d none lt = fails_at p xs i d (or_false (p x) (list_any p xs) none).1 (omega arith)

-- no pair before it has the key of a pair
new_at : {V : Type 0} (ps : List (Pair V)) (i : ℕ) (d : Pair V) → have_distinct_keys ps ≡ true → i < length ps → list_any (has_key (get_or ps i d).key) (take i ps) ≡ false
new_at [] i d distinct lt = absurd (omega arith)
new_at (p ∷ ps) zero d distinct lt = refl
new_at (p ∷ ps) (suc i) d distinct lt =
    let parts = distinct_parts p ps distinct in
    let apart : bytes_eq p.key (get_or ps i d).key ≡ false = bytes_eq-sym p.key (get_or ps i d).key ∙ fails_at (has_key p.key) ps i d parts.0 (omega arith) in
    rw apart (new_at ps i d parts.1 (omega arith))

-- the places of the first pairs, with that of the next
pub next_place : {V : Type 0} (places : Places) (ps : List (Pair V)) (i : ℕ) (d : Pair V) → have_distinct_keys ps ≡ true → i < length ps → ArePlacesOf places (take i ps)
    → ArePlacesOf (map.insert places (get_or ps i d).key i) (take (i + 1) ps)
next_place {V} places ps i d distinct lt are =
    let len : length (take i ps) ≡ i = length-take-le i ps (omega arith) in
    let more : ArePlacesOf (map.insert places (get_or ps i d).key (length (take i ps))) (take i ps ++ get_or ps i d ∷ []) = one_more_place places (take i ps) (get_or ps i d) are (new_at ps i d distinct lt) in
    rw (take_more ps i d lt) (rw len at more)

-- ---- a put, in the terms of its steps

-- where the key is found at no place, no pair has it
pub none_in : {V : Type 0} (pairs given : List (Pair V)) (key bytes : List ℕ) → None ≡ position (has_key bytes) given → bytes ≡ key → given ≡ pairs → list_any (has_key key) pairs ≡ false
none_in {V} pairs given key bytes none same are = none_has pairs key (sym (none ∙ (λ i. position (has_key {V = V} (same i)) (are i))))

-- the pair at the end keeps the keys distinct, and has its place
pub new_pair : {V : Type 0} (index : Option Places) (pairs made after : List (Pair V)) (key bytes : List ℕ) (value : V) → after ≡ made ++ record { key = key; value = value } ∷ [] → made ≡ pairs
    → bytes ≡ key → have_distinct_keys pairs ≡ true → list_any (has_key key) pairs ≡ false → ((v : V) → Indexes index (pairs ++ record { key = bytes; value = v } ∷ []))
    → IsTrue (have_distinct_keys after) × Indexes index after
new_pair {V} index pairs made after key bytes value is kept same distinct none places =
    let e : after ≡ pairs ++ record { key = key; value = value } ∷ [] = is ∙ ap (λ (ps : List (Pair V)). ps ++ record { key = key; value = value } ∷ []) kept in
    let at : Indexes index (pairs ++ record { key = key; value = value } ∷ []) = subst (λ k. Indexes index (pairs ++ record { key = k; value = value } ∷ [])) same (places value) in
    subst (λ ps. IsTrue (have_distinct_keys ps) × Indexes index ps) (sym e) (put_new_distinct pairs key value distinct none, at)

pub new_put : {V : Type 0} (old pairs made after : List (Pair V)) (key : List ℕ) (value : V) → after ≡ made ++ record { key = key; value = value } ∷ [] → made ≡ pairs → pairs ≡ old
    → list_any (has_key key) pairs ≡ false → after ≡ put old key value
new_put {V} old pairs made after key value is kept same none =
    is ∙ ap (λ (ps : List (Pair V)). ps ++ record { key = key; value = value } ∷ []) kept ∙ put_new pairs key value none ∙ ap (λ (ps : List (Pair V)). put ps key value) same

place_of_key : {V : Type 0} (pairs given : List (Pair V)) (key bytes : List ℕ) (place : ℕ) → Some place ≡ position (has_key bytes) given → bytes ≡ key → given ≡ pairs
    → position (has_key key) pairs ≡ Some place
place_of_key {V} pairs given key bytes place found same are = sym (found ∙ (λ i. position (has_key {V = V} (same i)) (are i)))

-- a pair in place of that of the key keeps the keys distinct, and has its place
pub found_pair : {V : Type 0} (index : Option Places) (pairs given : List (Pair V)) (key bytes : List ℕ) (value : V) (place : ℕ) → Some place ≡ position (has_key bytes) given → bytes ≡ key
    → given ≡ pairs → have_distinct_keys pairs ≡ true → Indexes index pairs
    → IsTrue (have_distinct_keys (set pairs place (record { key = key; value = value }))) × Indexes index (set pairs place (record { key = key; value = value }))
found_pair {V} None pairs given key bytes value place found same are distinct is = (put_found_distinct pairs key value place distinct (place_of_key pairs given key bytes place found same are), is)
found_pair {V} (Some places) pairs given key bytes value place found same are distinct is =
    let at = place_of_key pairs given key bytes place found same are in
    (put_found_distinct pairs key value place distinct at, same_places places pairs key value place is at)

pub found_put : {V : Type 0} (old pairs given : List (Pair V)) (key bytes : List ℕ) (value : V) (place : ℕ) → Some place ≡ position (has_key bytes) given → bytes ≡ key → given ≡ pairs → pairs ≡ old
    → have_distinct_keys pairs ≡ true → set pairs place (record { key = key; value = value }) ≡ put old key value
found_put {V} old pairs given key bytes value place found same are is distinct =
    put_found pairs key value place distinct (place_of_key pairs given key bytes place found same are) ∙ ap (λ (ps : List (Pair V)). put ps key value) is
