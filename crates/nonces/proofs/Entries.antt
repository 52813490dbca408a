-- What is held at indices, and what that is as a list of entries.
use Rattle.std.proofs.Common.{◌≡◌, ◌<◌, ◌≤◌, ℕ, zero, suc, ◌+◌, Bool, true, false, cond, ◌||◌, nat_eq, ◌⊎◌, inl, inr, ◌↔◌, Option, Some, None, List, [], ◌∷◌, ◌++◌, length, map, set, get_or, refl, sym, ◌∙◌, ap, subst, arith, length-append}
use Rattle.std.specs.List.{count_by, list_any}
use Rattle.std.specs.List.Sorted.{IsPermutation}
use Rattle.std.proofs.lemmas.Bool.{cases_Bool, eqb-false, eqb-true, false≢true, le-leb, leb-false, leb-true, lt-leb}
use Rattle.std.proofs.lemmas.List.{get_or-set_other, get_or-set_same, length-set}
use Rattle.std.proofs.lemmas.List.Sorted.{IsPermutation-middle}
use Rattle.std.proofs.lemmas.List.Sums.{sum_by-append, sum_by-cons}
use Rattle.std.proofs.Math.Seq.{map-set_same}
use Rattle.nonces.specs.Books.{Entry, is_live, live_entries}
use Rattle.nonces.specs.tools.Links.{AreDistinct, IsIn}
use Rattle.nonces.specs.tools.Nodes.{Holds, IsSpare, entries_in, let_go}
use Rattle.nonces.specs.tools.Wheels.{AreWithin, is_dead}

pub same_or_not : (i j : ℕ) → (i ≡ j) ⊎ (i ≡ j → ⊥)
same_or_not i j = elim (cases_Bool (nat_eq i j)) [
  | inl same ↦ inl (eqb-true i j same)
  | inr other ↦ inr (eqb-false i j other)
]

-- ---- one taken out, and one put in

pub one_out : (os : List (Option Entry)) (i : ℕ) (e : Entry) → get_or os i None ≡ Some e
    → (front : List Entry) × (back : List Entry) × (entries_in os ≡ front ++ e ∷ back) × (entries_in (set os i None) ≡ front ++ back)
one_out [] i e is = absurd cc
one_out (o ∷ os) zero e is = ([], entries_in os, ap (λ k. entries_in (k ∷ os)) is, refl)
one_out (None ∷ os) (suc i) e is = one_out os i e is
one_out (Some x ∷ os) (suc i) e is =
    let parts = one_out os i e is in (x ∷ parts.0, parts.1, ap (λ k. x ∷ k) parts.2, ap (λ k. x ∷ k) parts.3)

one_in : (os : List (Option Entry)) (i : ℕ) (e : Entry) → i < length os → get_or os i None ≡ None
    → (front : List Entry) × (back : List Entry) × (entries_in os ≡ front ++ back) × (entries_in (set os i (Some e)) ≡ front ++ e ∷ back)
one_in [] i e lt is = absurd (omega (arith, lt))
one_in (o ∷ os) zero e lt is = ([], entries_in os, ap (λ k. entries_in (k ∷ os)) is, refl)
one_in (None ∷ os) (suc i) e lt is = one_in os i e (omega (arith, lt)) is
one_in (Some x ∷ os) (suc i) e lt is =
    let parts = one_in os i e (omega (arith, lt)) is in
    (x ∷ parts.0, parts.1, ap (λ k. x ∷ k) parts.2, ap (λ k. x ∷ k) parts.3)

pub permuted_in : (os : List (Option Entry)) (i : ℕ) (e : Entry) → i < length os → get_or os i None ≡ None
    → IsPermutation (entries_in (set os i (Some e))) (e ∷ entries_in os)
permuted_in os i e lt is =
    let parts = one_in os i e lt is in
    subst (λ k. IsPermutation k (e ∷ entries_in os)) (sym parts.3)
    (subst (λ k. IsPermutation (parts.0 ++ e ∷ parts.1) (e ∷ k)) (sym parts.2) (IsPermutation-middle parts.0 e parts.1))

pub length_in : (os : List (Option Entry)) (i : ℕ) (e : Entry) → i < length os → get_or os i None ≡ None
    → length (entries_in (set os i (Some e))) ≡ length (entries_in os) + 1
length_in os i e lt is =
    let parts = one_in os i e lt is in
    omega (arith, ap length parts.2, ap length parts.3, length-append parts.0 (e ∷ parts.1), length-append parts.0 parts.1)

pub length_out : (os : List (Option Entry)) (i : ℕ) (e : Entry) → get_or os i None ≡ Some e
    → length (entries_in os) ≡ length (entries_in (set os i None)) + 1
length_out os i e is =
    let parts = one_out os i e is in
    omega (arith, ap length parts.2, ap length parts.3, length-append parts.0 (e ∷ parts.1), length-append parts.0 parts.1)

pub counted_out : (test : Entry → Bool) (os : List (Option Entry)) (i : ℕ) (e : Entry) → get_or os i None ≡ Some e → test e ≡ true
    → count_by test (entries_in os) ≡ count_by test (entries_in (set os i None)) + 1
counted_out test os i e is passes =
    let parts = one_out os i e is in
    let with_it : count_by test (parts.0 ++ e ∷ parts.1) ≡ count_by test parts.0 + count_by test (e ∷ parts.1) = sum_by-append (λ y. cond (test y) 1 0) parts.0 (e ∷ parts.1) in
    let first : count_by test (e ∷ parts.1) ≡ cond (test e) 1 0 + count_by test parts.1 = sum_by-cons (λ y. cond (test y) 1 0) e parts.1 in
    let one : ◌≡◌ {A = ℕ} (cond (test e) 1 0) 1 = rw passes refl in
    let rest : count_by test (parts.0 ++ parts.1) ≡ count_by test parts.0 + count_by test parts.1 = sum_by-append (λ y. cond (test y) 1 0) parts.0 parts.1 in
    let before : count_by test (entries_in os) ≡ count_by test (parts.0 ++ e ∷ parts.1) = ap (count_by test) parts.2 in
    let after : count_by test (entries_in (set os i None)) ≡ count_by test (parts.0 ++ parts.1) = ap (count_by test) parts.3 in
    omega (arith, with_it, first, one, rest, before, after)

-- ---- what stays where one is taken out

pub holds_out : (test : Entry → Bool) (os : List (Option Entry)) (i j : ℕ) → (j ≡ i → ⊥) → Holds test os j → Holds test (set os i None) j
holds_out test os i j other held = (held.0, get_or-set_other os i j None None other ∙ held.1, held.2)

pub held_out : (test : Entry → Bool) (os : List (Option Entry)) (i j : ℕ) → i < length os → Holds test (set os i None) j → Holds test os j × (j ≡ i → ⊥)
held_out test os i j lt held =
    let other : j ≡ i → ⊥ = λ same.
    let none = get_or-set_same os i None None lt in
    let at = subst (λ k. get_or (set os i None) k None ≡ Some held.0) same held.1 in
    cc in
    ((held.0, sym (get_or-set_other os i j None None other) ∙ held.1, held.2), other)

pub below_length : (os : List (Option Entry)) (i : ℕ) (e : Entry) → get_or os i None ≡ Some e → i < length os
below_length [] i e is = absurd cc
below_length (o ∷ os) zero e is = omega arith
below_length (o ∷ os) (suc i) e is = omega (arith, below_length os i e is)

-- distinct indices at which an entry passes are no more than the entries that pass
pub fits_count : (test : Entry → Bool) (is : List ℕ) (os : List (Option Entry)) → AreDistinct is → ((i : ℕ) → IsIn i is → Holds test os i)
    → length is ≤ count_by test (entries_in os)
fits_count test [] os distinct each = omega arith
fits_count test (i ∷ is) os distinct each =
    let here = each i (inl refl) in
    let rest = fits_count test is (set os i None) distinct.1 (
    λ j there. holds_out test os i j (λ same. distinct.0 (subst (λ k. IsIn k is) same there)) (each j (inr there))
    ) in
    omega (arith, rest, counted_out test os i here.0 here.1 here.2)

-- ---- what is found

or_true : (b : Bool) → (b || true) ≡ true
or_true true = refl
or_true false = refl

pub seen_at : (test : Entry → Bool) (os : List (Option Entry)) → list_any test (entries_in os) ≡ true → (i : ℕ) × Holds test os i
seen_at test [] some = absurd (false≢true some)
seen_at test (None ∷ os) some = let one = seen_at test os some in (suc one.0, one.1)
seen_at test (Some e ∷ os) some = elim (cases_Bool (test e)) [
  | inl passes ↦ (0, (e, refl, passes))
  | inr fails ↦ let one = seen_at test os (rw fails at some) in (suc one.0, one.1)
]

pub at_seen : (test : Entry → Bool) (os : List (Option Entry)) (i : ℕ) → Holds test os i → list_any test (entries_in os) ≡ true
at_seen test [] i held = absurd (let one = held.1 in cc)
at_seen test (o ∷ os) zero held =
    subst (λ k. list_any test (entries_in (k ∷ os)) ≡ true) (sym held.1) (rw held.2 refl)
at_seen test (None ∷ os) (suc i) held = at_seen test os i held
at_seen test (Some e ∷ os) (suc i) held = rw (at_seen test os i held) (or_true (test e))

pub all_held : (os : List (Option Entry)) → ((i : ℕ) → IsSpare os i → ⊥) → length os ≤ length (entries_in os)
all_held [] none = omega arith
all_held (None ∷ os) none = absurd (none 0 (omega arith, refl))
all_held (Some e ∷ os) none =
    omega (arith, all_held os (λ i spare. none (suc i) (omega (arith, spare.0), spare.1)))

-- ---- what passes a test is let go of

pub let_go_none : (test : Entry → Bool) (os : List (Option Entry)) → ((i : ℕ) → Holds test os i → ⊥) → map (let_go test) os ≡ os
let_go_none test [] none = refl
let_go_none test (None ∷ os) none = ap (λ k. None ∷ k) (let_go_none test os (λ i. none (suc i)))
let_go_none test (Some e ∷ os) none = elim (cases_Bool (test e)) [
  | inl goes ↦ absurd (none 0 (e, refl, goes))
  | inr stays ↦ rw stays (ap (λ k. Some e ∷ k) (let_go_none test os (λ i. none (suc i))))
]

let_go_one : (test : Entry → Bool) (o : Option Entry) (e : Entry) → o ≡ Some e → test e ≡ true → let_go test o ≡ None
let_go_one test o e is goes = rw (is, goes) refl

pub let_go_out : (test : Entry → Bool) (os : List (Option Entry)) (i : ℕ) → Holds test os i → map (let_go test) (set os i None) ≡ map (let_go test) os
let_go_out test os i held =
    map-set_same (let_go test) os i None None (sym (let_go_one test (get_or os i None) held.0 held.1 held.2))

-- what is left: an entry that doesn't pass
pub let_go_at : (test : Entry → Bool) (os : List (Option Entry)) (i : ℕ) (e : Entry) → get_or (map (let_go test) os) i None ≡ Some e → (get_or os i None ≡ Some e) × (test e ≡ false)
let_go_at test [] i e is = absurd cc
let_go_at test (None ∷ os) zero e is = absurd cc
let_go_at test (Some x ∷ os) zero e is = elim (cases_Bool (test x)) [
  | inl goes ↦ absurd (let none = rw goes at is in cc)
  | inr stays ↦ let same = rw stays at is in (same, let one : x ≡ e = cc in subst (λ k. test k ≡ false) one stays)
]
let_go_at test (o ∷ os) (suc i) e is = let_go_at test os i e is

-- what is kept
pub let_go_stays : (test : Entry → Bool) (os : List (Option Entry)) (i : ℕ) (e : Entry) → get_or os i None ≡ Some e → test e ≡ false → get_or (map (let_go test) os) i None ≡ Some e
let_go_stays test [] i e is stays = absurd cc
let_go_stays test (o ∷ os) zero e is stays = rw (is, stays) refl
let_go_stays test (o ∷ os) (suc i) e is stays = let_go_stays test os i e is stays

-- where two tests are alike on what there is
pub let_go_alike : (one two : Entry → Bool) (os : List (Option Entry)) → ((i : ℕ) (e : Entry) → get_or os i None ≡ Some e → one e ≡ two e)
    → map (let_go one) os ≡ map (let_go two) os
let_go_alike one two [] alike = refl
let_go_alike one two (None ∷ os) alike = ap (λ k. None ∷ k) (let_go_alike one two os (λ i. alike (suc i)))
let_go_alike one two (Some e ∷ os) alike =
    rw (alike 0 e refl) (ap (λ k. let_go two (Some e) ∷ k) (let_go_alike one two os (λ i. alike (suc i))))

-- ---- what dies

pub dead_below : (now : ℕ) (e : Entry) → e.until < now → is_dead now e ≡ true
dead_below now e lt = rw (lt-leb now e.until lt) refl

pub live_from : (now : ℕ) (e : Entry) → now ≤ e.until → is_dead now e ≡ false
live_from now e le = rw (le-leb now e.until le) refl

pub below_dead : (now : ℕ) (e : Entry) → is_dead now e ≡ true → e.until < now
below_dead now e dead = elim (cases_Bool (is_live now e)) [
  | inl lives ↦ absurd (false≢true (rw lives at dead))
  | inr dies ↦ leb-false now e.until dies
]

pub from_live : (now : ℕ) (e : Entry) → is_dead now e ≡ false → now ≤ e.until
from_live now e not_dead = elim (cases_Bool (is_live now e)) [
  | inl lives ↦ leb-true now e.until lives
  | inr dies ↦ absurd (false≢true (sym (rw dies at not_dead)))
]

pub let_go_dead : (now : ℕ) (os : List (Option Entry)) → entries_in (map (let_go (is_dead now)) os) ≡ live_entries now (entries_in os)
let_go_dead now [] = refl
let_go_dead now (None ∷ os) = let_go_dead now os
let_go_dead now (Some e ∷ os) = elim (cases_Bool (is_live now e)) [
  | inl lives ↦ rw lives (ap (λ k. e ∷ k) (let_go_dead now os))
  | inr dies ↦ rw dies (let_go_dead now os)
]

pub let_go_twice : (m n : ℕ) → m ≤ n → (os : List (Option Entry)) → map (let_go (is_dead n)) (map (let_go (is_dead m)) os) ≡ map (let_go (is_dead n)) os
let_go_twice m n later [] = refl
let_go_twice m n later (None ∷ os) = ap (λ k. None ∷ k) (let_go_twice m n later os)
let_go_twice m n later (Some e ∷ os) = elim (cases_Bool (is_live m e)) [
  | inl lives ↦ rw lives (ap (λ k. let_go (is_dead n) (Some e) ∷ k) (let_go_twice m n later os))
  | inr dies ↦
      let dead : is_live n e ≡ false = lt-leb n e.until (omega (arith, leb-false m e.until dies, later)) in
      rw (dies, dead) (ap (λ k. None ∷ k) (let_go_twice m n later os))
]

-- where all live, none is let go of
pub let_go_live : (now last : ℕ) (os : List (Option Entry)) → AreWithin now last os → map (let_go (is_dead now)) os ≡ os
let_go_live now last os within =
    let_go_none (is_dead now) os (λ i held. false≢true (sym (live_from now held.0 (within i held.0 held.1).0) ∙ held.2))

-- what is left lives
pub within_left : (first now last : ℕ) (os : List (Option Entry)) → AreWithin first last os → AreWithin now last (map (let_go (is_dead now)) os)
within_left first now last os within i e is =
    let old = let_go_at (is_dead now) os i e is in (from_live now e old.1, (within i e old.0).1)

-- ---- what stays where one is put in

put_same : (os : List (Option Entry)) (i j : ℕ) (o : Option Entry) → j ≡ i → i < length os → get_or (set os i o) j None ≡ o
put_same os i j o same lt = subst (λ k. get_or (set os i o) k None ≡ o) (sym same) (get_or-set_same os i o None lt)

-- the nodes that hold an entry which passes, where an entry is put in that passes
pub holds_more : (test : Entry → Bool) (os : List (Option Entry)) (i j : ℕ) (e : Entry) → IsSpare os i → test e ≡ true
    → ((i ≡ j) ⊎ Holds test os j) ↔ Holds test (set os i (Some e)) j
holds_more test os i j e spare passes = (
  λ there. elim there [
    | inl same ↦ (e, put_same os i j (Some e) (sym same) spare.0, passes)
    | inr held ↦ (held.0, get_or-set_other os i j (Some e) None (apart held) ∙ held.1, held.2)
  ],
  λ held. elim (same_or_not j i) [
    | inl same ↦ inl (sym same)
    | inr other ↦ inr (held.0, sym (get_or-set_other os i j (Some e) None other) ∙ held.1, held.2)
  ],
)
  where
    apart : Holds test os j → j ≡ i → ⊥
    apart held same = let none = spare.1 in let some = subst (λ k. get_or os k None ≡ Some held.0) same held.1 in cc

-- and where an entry is put in that doesn't pass
pub holds_alike : (test : Entry → Bool) (os : List (Option Entry)) (i j : ℕ) (e : Entry) → IsSpare os i → test e ≡ false
    → Holds test os j ↔ Holds test (set os i (Some e)) j
holds_alike test os i j e spare fails = (
  λ held. (held.0, get_or-set_other os i j (Some e) None (apart held) ∙ held.1, held.2),
  λ held. (held.0, sym (get_or-set_other os i j (Some e) None (away held)) ∙ held.1, held.2),
)
  where
    apart : Holds test os j → j ≡ i → ⊥
    apart held same = let none = spare.1 in let some = subst (λ k. get_or os k None ≡ Some held.0) same held.1 in cc

    away : Holds test (set os i (Some e)) j → j ≡ i → ⊥
    away held same =
        let at = put_same os i j (Some e) same spare.0 in
        let is : held.0 ≡ e = (let one = held.1 in cc) in
        false≢true (sym fails ∙ ap test (sym is) ∙ held.2)

-- the nodes that hold an entry which passes, but for one that is taken out
pub holds_less : (test : Entry → Bool) (os : List (Option Entry)) (i j : ℕ) → i < length os
    → (Holds test os j × (j ≡ i → ⊥)) ↔ Holds test (set os i None) j
holds_less test os i j lt = (λ old. holds_out test os i j old.1 old.0, held_out test os i j lt)

-- and where the one that is taken out doesn't pass
pub holds_same : (test : Entry → Bool) (os : List (Option Entry)) (i j : ℕ) → i < length os → (Holds test os i → ⊥)
    → Holds test os j ↔ Holds test (set os i None) j
holds_same test os i j lt fails = (
  λ held. holds_out test os i j (λ same. fails (subst (Holds test os) same held)) held,
  λ held. (held_out test os i j lt held).0,
)

-- the free nodes, where one is taken and where one becomes free
pub spare_less : (os : List (Option Entry)) (i j : ℕ) (e : Entry) → i < length os → (IsSpare os j × (j ≡ i → ⊥)) ↔ IsSpare (set os i (Some e)) j
spare_less os i j e lt = (
  λ old. (subst (λ n. j < n) (sym (length-set os i (Some e))) old.0.0, get_or-set_other os i j (Some e) None old.1 ∙ old.0.1),
  λ spare.
      let other : j ≡ i → ⊥ = λ same. (let at = put_same os i j (Some e) same lt in let none = spare.1 in cc) in (
        (subst (λ n. j < n) (length-set os i (Some e)) spare.0, sym (get_or-set_other os i j (Some e) None other) ∙ spare.1),
        other,
      ),
)

pub spare_more : (os : List (Option Entry)) (i j : ℕ) → i < length os → ((i ≡ j) ⊎ IsSpare os j) ↔ IsSpare (set os i None) j
spare_more os i j lt = (
  λ there. elim there [
    | inl same ↦ (
      subst (λ n. j < n) (sym (length-set os i None)) (subst (λ k. k < length os) same lt),
      put_same os i j None (sym same) lt,
    )
    | inr spare ↦ elim (same_or_not j i) [
      | inl same ↦ (subst (λ n. j < n) (sym (length-set os i None)) spare.0, put_same os i j None same lt)
      | inr other ↦ (
        subst (λ n. j < n) (sym (length-set os i None)) spare.0,
        get_or-set_other os i j None None other ∙ spare.1,
      )
    ]
  ],
  λ spare. elim (same_or_not j i) [
    | inl same ↦ inl (sym same)
    | inr other ↦ inr (
      subst (λ n. j < n) (length-set os i None) spare.0,
      sym (get_or-set_other os i j None None other) ∙ spare.1,
    )
  ],
)
