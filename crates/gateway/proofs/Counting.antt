-- Lists of entries that have the same entries, each as often.
use Rattle.std.proofs.Common.{◌≡◌, ◌⊎◌, ◌≤◌, ◌+◌, ℕ, zero, suc, Bool, true, false, cond, not, ◌&&◌, nat_lt, List, [], ◌∷◌, length, refl, sym, ap, subst, ◌∙◌, inl, inr, arith, lt-ltb}
use Rattle.std.specs.Prelude.{filter}
use Rattle.std.specs.List.{Contains, list_any}
use Rattle.std.proofs.lemmas.Bool.{and_parts, cases_Bool, false≢true}
use Rattle.std.proofs.lemmas.Slice.Eq.{bytes_eq-Decides}
use Rattle.std.specs.Str.{bytes_eq}
use Rattle.nonces.specs.Books.{Entry, HaveSameEntries, is_of}

-- how many entries pass
abbrev pub many : (Entry → Bool) → List Entry → ℕ
many p [] = 0
many p (x ∷ xs) = cond (p x) (1 + many p xs) (many p xs)

-- as many entries pass in both, by each test
abbrev pub SameMany : List Entry → List Entry → Type 0
SameMany xs ys = (p : Entry → Bool) → many p xs ≡ many p ys

-- no keyid is there twice with the same nonce
abbrev pub Distinct : List Entry → Type 0
Distinct xs = (keyid nonce : List ℕ) → many (is_of keyid nonce) xs ≤ 1

-- ---- counts

pub more_same : (p : Entry → Bool) (x : Entry) (xs ys : List Entry) → many p xs ≡ many p ys → many p (x ∷ xs) ≡ many p (x ∷ ys)
more_same p x xs ys same = ap (λ n. cond (p x) (1 + n) n) same

more_le : (p : Entry → Bool) (x : Entry) (xs ys : List Entry) → many p xs ≤ many p ys → many p (x ∷ xs) ≤ many p (x ∷ ys)
more_le p x xs ys le = elim (cases_Bool (p x)) [
  | inl is ↦ rw is (omega (arith, le))
  | inr not ↦ rw not le
]

one_le : (p : Entry → Bool) (x : Entry) (xs : List Entry) → many p xs ≤ many p (x ∷ xs)
one_le p x xs = elim (cases_Bool (p x)) [
  | inl is ↦ rw is (omega arith)
  | inr not ↦ rw not (omega arith)
]

swapped : (p : Entry → Bool) (x y : Entry) (rest : List Entry) → many p (x ∷ y ∷ rest) ≡ many p (y ∷ x ∷ rest)
swapped p x y rest = elim (cases_Bool (p x)) [
  | inl a ↦ elim (cases_Bool (p y)) [
    | inl b ↦ rw (a, b) refl
    | inr b ↦ rw (a, b) refl
  ]
  | inr a ↦ elim (cases_Bool (p y)) [
    | inl b ↦ rw (a, b) refl
    | inr b ↦ rw (a, b) refl
  ]
]

both_many : (p : Entry → Bool) (xs : List Entry) → many p xs + many (λ e. not (p e)) xs ≡ length xs
both_many p [] = refl
both_many p (x ∷ xs) =
    let rest = both_many p xs in
    elim (cases_Bool (p x)) [
      | inl is ↦ rw is (omega (arith, rest))
      | inr not ↦ rw not (omega (arith, rest))
    ]

pub length_many : (xs : List Entry) → length xs ≡ many (λ e. true) xs
length_many [] = refl
length_many (x ∷ xs) = let rest = length_many xs in omega (arith, rest)

-- ---- the entries that pass another test

filter_many : (p q : Entry → Bool) (xs : List Entry) → many p (filter q xs) ≡ many (λ e. q e && p e) xs
filter_many p q [] = refl
filter_many p q (x ∷ xs) = elim (cases_Bool (q x)) [
  | inl is ↦ rw is (ap (λ n. cond (p x) (1 + n) n) (filter_many p q xs))
  | inr not ↦ rw not (filter_many p q xs)
]

pub filter_same : (q : Entry → Bool) (xs ys : List Entry) → SameMany xs ys → SameMany (filter q xs) (filter q ys)
filter_same q xs ys same p = filter_many p q xs ∙ (same (λ e. q e && p e) ∙ sym (filter_many p q ys))

filter_le : (p q : Entry → Bool) (xs : List Entry) → many p (filter q xs) ≤ many p xs
filter_le p q [] = omega arith
filter_le p q (x ∷ xs) =
    let rest = filter_le p q xs in
    elim (cases_Bool (q x)) [
      | inl is ↦ rw is (more_le p x (filter q xs) xs rest)
      | inr not ↦ rw not (let more = one_le p x xs in omega (arith, rest, more))
    ]

-- those that pass pass again
pub filter_twice : (p q : Entry → Bool) (xs : List Entry) → many p (filter q (filter q xs)) ≡ many p (filter q xs)
filter_twice p q [] = refl
filter_twice p q (x ∷ xs) = elim (cases_Bool (q x)) [
  | inl is ↦ rw (is, is) (ap (λ n. cond (p x) (1 + n) n) (filter_twice p q xs))
  | inr not ↦ rw not (filter_twice p q xs)
]

-- ---- some entry passes

pub any_many : (p : Entry → Bool) (xs : List Entry) → list_any p xs ≡ nat_lt 0 (many p xs)
any_many p [] = refl
any_many p (x ∷ xs) = elim (cases_Bool (p x)) [
  | inl is ↦ rw is (sym (lt-ltb 0 (1 + many p xs) (omega arith)))
  | inr not ↦ rw not (any_many p xs)
]

pub any_same : (p : Entry → Bool) (xs ys : List Entry) → SameMany xs ys → list_any p xs ≡ list_any p ys
any_same p xs ys same = any_many p xs ∙ (ap (λ n. nat_lt 0 n) (same p) ∙ sym (any_many p ys))

pub none_many : (p : Entry → Bool) (xs : List Entry) → list_any p xs ≡ false → many p xs ≡ 0
none_many p [] none = refl
none_many p (x ∷ xs) none = elim (cases_Bool (p x)) [
  | inl is ↦ absurd (false≢true (sym none ∙ rw is refl))
  | inr not ↦ rw not (none_many p xs (rw not at none))
]

-- ---- distinct entries

pub distinct_same : (xs ys : List Entry) → SameMany xs ys → Distinct xs → Distinct ys
distinct_same xs ys same distinct keyid nonce = subst (λ n. n ≤ 1) (same (is_of keyid nonce)) (distinct keyid nonce)

pub distinct_filter : (q : Entry → Bool) (xs : List Entry) → Distinct xs → Distinct (filter q xs)
distinct_filter q xs distinct keyid nonce =
    let few = distinct keyid nonce in
    let fewer = filter_le (is_of keyid nonce) q xs in
    omega (arith, few, fewer)

own_entry : (e : Entry) → is_of e.keyid e.nonce e ≡ true
own_entry e = rw ((bytes_eq-Decides e.keyid e.keyid).1 refl, (bytes_eq-Decides e.nonce e.nonce).1 refl) refl

-- a further entry whose nonce isn't there
pub distinct_more : (e : Entry) (xs : List Entry) → Distinct xs → many (is_of e.keyid e.nonce) xs ≡ 0 → Distinct (e ∷ xs)
distinct_more e xs distinct none keyid nonce = elim (cases_Bool (is_of keyid nonce e)) [
  | inr not ↦ rw not (distinct keyid nonce)
  | inl is ↦
      let parts = and_parts (bytes_eq e.keyid keyid) (bytes_eq e.nonce nonce) is in
      let key = (bytes_eq-Decides e.keyid keyid).0 parts.0 in
      let text = (bytes_eq-Decides e.nonce nonce).0 parts.1 in
      let zero : many (is_of keyid nonce) xs ≡ 0 = subst (λ (n : List ℕ). many (is_of keyid n) xs ≡ 0) text (subst (λ (k : List ℕ). many (is_of k e.nonce) xs ≡ 0) key none) in
      rw is (omega (arith, zero))
]

-- ---- what is in a list

abbrev In : List Entry → Entry → Type 0
In [] e = ⊥
In (x ∷ xs) e = (x ≡ e) ⊎ In xs e

in_of : (xs : List Entry) (e : Entry) → Contains xs e → In xs e
in_of [] e (k, lt, is) = absurd (omega (arith, lt))
in_of (x ∷ xs) e (zero, lt, is) = inl is
in_of (x ∷ xs) e (suc k, lt, is) = inr (in_of xs e (k, omega (arith, lt), is))

of_in : (xs : List Entry) (e : Entry) → In xs e → Contains xs e
of_in [] e there = absurd there
of_in (x ∷ xs) e (inl same) = (0, omega arith, same)
of_in (x ∷ xs) e (inr later) = let at = of_in xs e later in (suc at.0, (let lt = at.1 in omega (arith, lt)), at.2)

many_in : (p : Entry → Bool) (xs : List Entry) (e : Entry) → In xs e → p e ≡ true → 1 ≤ many p xs
many_in p [] e there is = absurd there
many_in p (x ∷ xs) e (inl same) is = rw (ap p same ∙ is) (omega arith)
many_in p (x ∷ xs) e (inr later) is =
    let rest = many_in p xs e later is in
    let more = one_le p x xs in
    omega (arith, rest, more)

-- the list without one of its entries
record Split (ys : List Entry) (x : Entry) : Type 0 where
  rest : List Entry
  counts : (p : Entry → Bool) → many p ys ≡ many p (x ∷ rest)
  members : (e : Entry) → In ys e → (x ≡ e) ⊎ In rest e

split : (ys : List Entry) (x : Entry) → In ys x → Split ys x
split [] x there = absurd there
split (y ∷ ys) x (inl same) = record {
  rest = ys;
  counts = λ p. ap (λ (e : Entry). many p (e ∷ ys)) same;
  members = λ e there. first e there;
}
  where
    first : (e : Entry) → In (y ∷ ys) e → (x ≡ e) ⊎ In ys e
    first e (inl is) = inl (sym same ∙ is)
    first e (inr later) = inr later
split (y ∷ ys) x (inr later) =
    let s = split ys x later in
    record {
      rest = y ∷ s.rest;
      counts = λ p. more_same p y ys (x ∷ s.rest) (s.counts p) ∙ swapped p y x s.rest;
      members = λ e there. first s e there;
    }
  where
    first : (s : Split ys x) (e : Entry) → In (y ∷ ys) e → (x ≡ e) ⊎ In (y ∷ s.rest) e
    first s e (inl is) = inr (inl is)
    first s e (inr there) = elim (s.members e there) [
      | inl same ↦ inl same
      | inr other ↦ inr (inr other)
    ]

not_twice : (x : Entry) (xs : List Entry) → Distinct (x ∷ xs) → ¬ In xs x
not_twice x xs distinct there =
    let some = many_in (is_of x.keyid x.nonce) xs x there (own_entry x) in
    let few : 1 + many (is_of x.keyid x.nonce) xs ≤ 1 = rw (own_entry x) at (distinct x.keyid x.nonce) in
    absurd (omega (arith, some, few))

tail_distinct : (x : Entry) (xs : List Entry) → Distinct (x ∷ xs) → Distinct xs
tail_distinct x xs distinct keyid nonce =
    let few = distinct keyid nonce in
    let more = one_le (is_of keyid nonce) x xs in
    omega (arith, few, more)

-- distinct entries that are in another list are no more there
no_more : (xs ys : List Entry) → Distinct xs → ((e : Entry) → In xs e → In ys e) → (p : Entry → Bool) → many p xs ≤ many p ys
no_more [] ys distinct within p = omega arith
no_more (x ∷ xs) ys distinct within p =
    let s = split ys x (within x (inl refl)) in
    let rest = no_more xs s.rest (tail_distinct x xs distinct) (λ e there. elim (s.members e (within e (inr there))) [
      | inl same ↦ absurd (not_twice x xs distinct (subst (λ (z : Entry). In xs z) (sym same) there))
      | inr other ↦ other
    ]) p
    in
    subst (λ n. many p (x ∷ xs) ≤ n) (sym (s.counts p)) (more_le p x xs s.rest rest)

-- a list with the same entries as a distinct one has each as often
pub as_many : (xs ys : List Entry) → Distinct xs → HaveSameEntries ys xs → SameMany ys xs
as_many xs ys distinct same p =
    let within = λ (e : Entry) (there : In xs e). in_of ys e ((same.members e).1 (of_in xs e there)) in
    let passing = no_more xs ys distinct within p in
    let others = no_more xs ys distinct within (λ e. not (p e)) in
    let own = both_many p xs in
    let its = both_many p ys in
    let long = same.length in
    omega (arith, passing, others, own, its, long)
