-- Lists that have the same entries are alike.
use Rattle.std.proofs.Common.{◌≡◌, ◌≤◌, ℕ, zero, suc, ◌+◌, Bool, true, false, cond, ◌||◌, ◌⊎◌, inl, inr, List, [], ◌∷◌, length, refl, sym, ◌∙◌, ap, arith}
use Rattle.std.proofs.lemmas.Bool.{cases_Bool, false≢true}
use Rattle.std.specs.Cmp.{both_ways}
use Rattle.std.specs.List.{Contains, count_by, list_any, remove}
use Rattle.std.proofs.lemmas.List.Elements.{All-contains, All-contains_itself, All-filter, filter_passes}
use Rattle.std.proofs.lemmas.List.Sorted.{Contains-permutation, IsPermutation-remove, length_permutation}
use Rattle.std.proofs.lemmas.List.Sums.{sum_by-cons}
use Rattle.std.proofs.lemmas.Slice.Eq.{bytes_eq-Decides}
use Rattle.nonces.specs.Books.{Entry, HasDistinctNonces, HaveSameEntries, is_live, is_of, is_seen, live_entries}
use Rattle.nonces.proofs.Held.{distinct_live}

-- ---- members

contains_first : (x : Entry) (xs : List Entry) → Contains (x ∷ xs) x
contains_first x xs = (0, omega arith, refl)

contains_more : (x y : Entry) (xs : List Entry) → Contains xs y → Contains (x ∷ xs) y
contains_more x y xs (k, lt, is) = (suc k, omega (arith, lt), is)

contains_cases : (x y : Entry) (xs : List Entry) → Contains (x ∷ xs) y → (x ≡ y) ⊎ Contains xs y
contains_cases x y xs (zero, lt, is) = inl is
contains_cases x y xs (suc k, lt, is) = inr (k, omega (arith, lt), is)

or_true : (b : Bool) → (b || true) ≡ true
or_true true = refl
or_true false = refl

-- an element that passes is there where the test finds one
passing : (test : Entry → Bool) (xs : List Entry) → list_any test xs ≡ true
    → (e : Entry) × Contains xs e × (test e ≡ true)
passing test [] some = absurd (false≢true some)
passing test (x ∷ xs) some = elim (cases_Bool (test x)) [
  | inl passes ↦ (x, contains_first x xs, passes)
  | inr fails ↦ let one = passing test xs (rw fails at some) in (one.0, contains_more x one.0 xs one.1, one.2)
]

found : (test : Entry → Bool) (xs : List Entry) (e : Entry) → Contains xs e → test e ≡ true → list_any test xs ≡ true
found test [] e (k, lt, is) passes = absurd (omega (arith, lt))
found test (x ∷ xs) e there passes = elim (contains_cases x e xs there) [
  | inl is ↦ rw (is, passes) refl
  | inr later ↦ rw (found test xs e later passes) (or_true (test x))
]

-- ---- the laws

pub same_itself : (xs : List Entry) → HaveSameEntries xs xs
same_itself xs = record { members = λ e. (λ t. t, λ t. t); length = refl }

pub same_both_ways : (xs ys : List Entry) → HaveSameEntries xs ys → HaveSameEntries ys xs
same_both_ways xs ys same = record {
  members = λ e. ((same.members e).1, (same.members e).0);
  length = sym same.length;
}

pub same_through : (xs ys zs : List Entry) → HaveSameEntries xs ys → HaveSameEntries ys zs → HaveSameEntries xs zs
same_through xs ys zs one two = record {
  members = λ e. (λ t. (two.members e).0 ((one.members e).0 t), λ t. (one.members e).1 ((two.members e).1 t));
  length = one.length ∙ two.length;
}

seen_within : (xs ys : List Entry) (test : Entry → Bool) → ((e : Entry) → Contains xs e → Contains ys e)
    → list_any test xs ≡ true → list_any test ys ≡ true
seen_within xs ys test within some =
    let one = passing test xs some in
    found test ys one.0 (within one.0 one.1) one.2

pub seen_alike : (xs ys : List Entry) (keyid nonce : List ℕ) → HaveSameEntries xs ys → is_seen keyid nonce xs ≡ is_seen keyid nonce ys
seen_alike xs ys keyid nonce same =
    both_ways (is_seen keyid nonce xs) (is_seen keyid nonce ys)
    (seen_within xs ys (is_of keyid nonce) (λ e. (same.members e).0))
    (seen_within ys xs (is_of keyid nonce) (λ e. (same.members e).1))

more_within : (xs ys : List Entry) (x e : Entry) → ((z : Entry) → Contains xs z → Contains ys z) → Contains (x ∷ xs) e → Contains (x ∷ ys) e
more_within xs ys x e within there = elim (contains_cases x e xs there) [
  | inl is ↦ (0, omega arith, is)
  | inr later ↦ contains_more x e ys (within e later)
]

pub same_more : (xs ys : List Entry) (entry : Entry) → HaveSameEntries xs ys → HaveSameEntries (entry ∷ xs) (entry ∷ ys)
same_more xs ys entry same = record {
  members = λ e.
      (more_within xs ys entry e (λ z. (same.members z).0), more_within ys xs entry e (λ z. (same.members z).1));
  length = ap suc same.length;
}

-- ---- those that live

counted : (test : Entry → Bool) (x : Entry) (xs : List Entry) → count_by test (x ∷ xs) ≡ cond (test x) 1 0 + count_by test xs
counted test x xs = sum_by-cons (λ y. cond (test y) 1 0) x xs

counted_one : (test : Entry → Bool) (xs : List Entry) (e : Entry) → Contains xs e → test e ≡ true → 1 ≤ count_by test xs
counted_one test [] e (k, lt, is) passes = absurd (omega (arith, lt))
counted_one test (x ∷ xs) e there passes = elim (contains_cases x e xs there) [
  | inl is ↦ rw (counted test x xs, is, passes) (omega arith)
  | inr later ↦ rw (counted test x xs) (omega (arith, counted_one test xs e later passes))
]

distinct_rest : (x : Entry) (xs : List Entry) → HasDistinctNonces (x ∷ xs) → HasDistinctNonces xs
distinct_rest x xs distinct keyid nonce =
    omega (arith, counted (is_of keyid nonce) x xs, distinct keyid nonce)

of_own : (e : Entry) → is_of e.keyid e.nonce e ≡ true
of_own e = rw ((bytes_eq-Decides e.keyid e.keyid).1 refl, (bytes_eq-Decides e.nonce e.nonce).1 refl) refl

first_once : (x : Entry) (xs : List Entry) → HasDistinctNonces (x ∷ xs) → ¬ Contains xs x
first_once x xs distinct again =
    let test = is_of x.keyid x.nonce in
    let once : count_by test (x ∷ xs) ≡ 1 + count_by test xs = rw (counted test x xs, of_own x) refl in
    omega (arith, once, distinct x.keyid x.nonce, counted_one test xs x again (of_own x))

-- distinct entries of a list are no more than its entries
fits : (xs ys : List Entry) → HasDistinctNonces xs → ((e : Entry) → Contains xs e → Contains ys e) → length xs ≤ length ys
fits [] ys distinct within = omega arith
fits (x ∷ xs) ys distinct within =
    let first = within x (contains_first x xs) in
    let moved = IsPermutation-remove ys first.0 x first.1 (sym first.2) in
    let rest = remove ys first.0 in
    let others : (e : Entry) → Contains xs e → Contains rest e = λ e there.
    elim (contains_cases x e rest (Contains-permutation ys (x ∷ rest) e moved (within e (contains_more x e xs there)))) [
      | inl is ↦ absurd (first_once x xs distinct (rw is there))
      | inr later ↦ later
    ] in
    omega (arith, length_permutation ys (x ∷ rest) moved, fits xs rest (distinct_rest x xs distinct) others)

live_there : (now : ℕ) (xs : List Entry) (e : Entry) → Contains xs e → is_live now e ≡ true → Contains (live_entries now xs) e
live_there now [] e there lives = there
live_there now (x ∷ xs) e there lives = elim (contains_cases x e xs there) [
  | inl is ↦ rw (is, lives) (contains_first e (live_entries now xs))
  | inr later ↦ elim (cases_Bool (is_live now x)) [
    | inl passes ↦ rw passes (contains_more x e (live_entries now xs) (live_there now xs e later lives))
    | inr fails ↦ rw fails (live_there now xs e later lives)
  ]
]

live_within : (now : ℕ) (xs ys : List Entry) → ((e : Entry) → Contains xs e → Contains ys e) → (e : Entry) → Contains (live_entries now xs) e → Contains (live_entries now ys) e
live_within now xs ys within e there =
    let live = live_entries now xs in
    let lives = All-contains (λ y. is_live now y ≡ true) live e (filter_passes (is_live now) xs) there in
    let old = All-contains (Contains xs) live e (All-filter (is_live now) (Contains xs) xs (All-contains_itself xs)) there in
    live_there now ys e (within e old) lives

pub live_alike : (now : ℕ) (xs ys : List Entry) → HasDistinctNonces xs → HasDistinctNonces ys → HaveSameEntries xs ys → HaveSameEntries (live_entries now xs) (live_entries now ys)
live_alike now xs ys one two same =
    let into = live_within now xs ys (λ e. (same.members e).0) in
    let back = live_within now ys xs (λ e. (same.members e).1) in
    record {
      members = λ e. (into e, back e);
      length = omega (
        arith,
        fits (live_entries now xs) (live_entries now ys) (distinct_live now xs one) into,
        fits (live_entries now ys) (live_entries now xs) (distinct_live now ys two) back,
      );
    }
