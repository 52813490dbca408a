-- The first place that passes a test, by the list of such places, and by the first bytes alone.
use Rattle.std.proofs.Common.{◌≡◌, ℕ, zero, suc, ◌+◌, ◌-◌, Bool, true, false, Option, Some, None, List, [], ◌∷◌, ◌++◌, length, take, drop, get_or, sym, subst, ◌∙◌, ap, arith, refl, inl, inr, append_assoc, length-append}
use Rattle.std.specs.Prelude.{slice_index, IfSome, MatchOption}
use Rattle.std.specs.List.{list_all}
use Rattle.std.proofs.Math.Seq.{take-append_seam, drop-append_seam}
use Rattle.std.proofs.lemmas.List.{length-drop, take-append-drop}
use Rattle.std.proofs.lemmas.List.Folds.{list_all-append}
use Rattle.std.proofs.lemmas.Bool.{and_parts, and_from, cases_Bool, cases_eq, false≢true}
use Rattle.byte_grammar.specs.Language.{starts_in}
use Rattle.memchr.specs.Find.{IsFirst, Passes, places_from}
use Rattle.msg_head.specs.tools.Prefixes.{EndsAt}

-- the list is the place, if there is one, and others
abbrev Leads : List ℕ → List ℕ → Option ℕ → Type 0
Leads places rest r = MatchOption r ((places ≡ []) × (rest ≡ [])) (λ k. places ≡ k ∷ rest)

here : (test : ℕ → Bool) (hay : List ℕ) (n i : ℕ) (later rest : List ℕ) (r : Option ℕ) → test (slice_index hay i) ≡ true → Leads (i ∷ later) rest r → IsFirst (Passes test hay) i (i + suc n) r
here test hay n i later rest None is h = absurd (omega (arith, ap (length {A = ℕ}) h.0))
here test hay n i later rest (Some k) is h =
    let same : i ≡ k = ap (λ (xs : List ℕ). get_or xs 0 0) h in (
      record { low = omega (arith, same); high = omega (arith, same); before = λ m low high. absurd (omega (arith, same, low, high)) },
      subst (λ (m : ℕ). test (slice_index hay m) ≡ true) same is,
    )

passed : (test : ℕ → Bool) (hay : List ℕ) (n i : ℕ) (r : Option ℕ) → test (slice_index hay i) ≡ false → IsFirst (Passes test hay) (i + 1) (i + 1 + n) r → IsFirst (Passes test hay) i (i + suc n) r
passed test hay n i None not h = λ k low high p. elim (cases_eq k i) [
  | inl e ↦ false≢true (sym not ∙ subst (λ (m : ℕ). test (slice_index hay m) ≡ true) e p)
  | inr other ↦ h k (omega (arith, low, other)) (omega (arith, high)) p
]
passed test hay n i (Some k) not h = (
  record {
    low = omega (arith, h.0.low);
    high = omega (arith, h.0.high);
    before = λ m low high p. elim (cases_eq m i) [
      | inl e ↦ false≢true (sym not ∙ subst (λ (x : ℕ). test (slice_index hay x) ≡ true) e p)
      | inr other ↦ h.0.before m (omega (arith, low, other)) high p
    ];
  },
  h.1,
)

pub leads_first : (test : ℕ → Bool) (hay : List ℕ) (n i : ℕ) (rest : List ℕ) (r : Option ℕ) → Leads (places_from test hay i n) rest r → IsFirst (Passes test hay) i (i + n) r
unfolding places_from
leads_first test hay zero i rest None h = λ k low high. absurd (omega (arith, low, high))
leads_first test hay zero i rest (Some k) h = absurd (omega (arith, ap (length {A = ℕ}) h))
leads_first test hay (suc n) i rest r h = elim (cases_Bool (test (slice_index hay i))) [
  | inl is ↦ here test hay n i (places_from test hay (i + 1) n) rest r is (rw is at h)
  | inr not ↦ passed test hay n i r not (leads_first test hay n (i + 1) rest r (rw not at h))
]

-- what ends among the first k bytes ends there in all
pub ends_nearby : (test : ℕ → Bool) (k n : ℕ) (bytes : List ℕ) → EndsAt test n (take k bytes) → EndsAt test n bytes
ends_nearby test zero n bytes e = absurd (omega (arith, e.within))
ends_nearby test (suc k) n [] e = e
ends_nearby test (suc k) zero (c ∷ bytes) e = record { within = omega arith; each = refl; ends = e.ends }
ends_nearby test (suc k) (suc n) (c ∷ bytes) e =
    let both = and_parts (test c) (list_all test (take n (take k bytes))) e.each in
    let rest = ends_nearby test k n bytes (record { within = omega (arith, e.within); each = both.1; ends = e.ends }) in
    record {
      within = omega (arith, rest.within);
      each = and_from (test c) (list_all test (take n bytes)) both.0 rest.each;
      ends = rest.ends;
    }

pub found_nearby : (test : ℕ → Bool) (chunk bytes : List ℕ) (r : Option ℕ) → chunk ≡ take 16 bytes → IfSome r (λ n. EndsAt test n chunk) → IfSome r (λ n. EndsAt test n bytes)
found_nearby test chunk bytes None same none = none
found_nearby test chunk bytes (Some n) same ends = ends_nearby test 16 n bytes (subst (λ (s : List ℕ). EndsAt test n s) same ends)

-- bytes of the class, and those that are left
pub record ReadUpTo (test : ℕ → Bool) (bytes left : List ℕ) : Type 0 where
  pub front : List ℕ
  pub joined : bytes ≡ front ++ left
  pub each : list_all test front ≡ true

-- the bytes in two at an index, where those of the class that are first end
pub record IsSplitAt (test : ℕ → Bool) (n : ℕ) (bytes : List ℕ) : Type 0 where
  pub each : list_all test (take n bytes) ≡ true
  pub ends : starts_in test (drop n bytes) ≡ false

-- more of them are read
pub read_more : (test : ℕ → Bool) (bytes left more rest : List ℕ) → ReadUpTo test bytes left → left ≡ more ++ rest → list_all test more ≡ true → ReadUpTo test bytes rest
read_more test bytes left more rest r e all = record {
  front = r.front ++ more;
  joined = r.joined ∙ ap (λ (s : List ℕ). r.front ++ s) e ∙ sym (append_assoc r.front more rest);
  each = list_all-append test r.front more ∙ and_from _ _ r.each all;
}

-- and none of the class is next
pub split_there : (test : ℕ → Bool) (bytes left : List ℕ) (n : ℕ) → ReadUpTo test bytes left → starts_in test left ≡ false → n ≡ length bytes - length left → IsSplitAt test n bytes
split_there test bytes left n r none at =
    let size : n ≡ length r.front = omega (arith, at, ap (length {A = ℕ}) r.joined, length-append r.front left) in
    let before : take n bytes ≡ r.front = ap (λ k. take k bytes) size ∙ ap (λ (s : List ℕ). take (length r.front) s) r.joined ∙ take-append_seam r.front left in
    let after : drop n bytes ≡ left = ap (λ k. drop k bytes) size ∙ ap (λ (s : List ℕ). drop (length r.front) s) r.joined ∙ drop-append_seam r.front left in
    record { each = ap (list_all test) before ∙ r.each; ends = ap (starts_in test) after ∙ none }

-- those of sixteen bytes of which one isn't of the class
pub split_nearby : (test : ℕ → Bool) (bytes left chunk : List ℕ) (n at : ℕ) → ReadUpTo test bytes left → chunk ≡ take 16 left → EndsAt test n chunk → at ≡ length bytes - length left + n → IsSplitAt test at bytes
split_nearby test bytes left chunk n at r same ends is =
    let there = ends_nearby test 16 n left (subst (λ (s : List ℕ). EndsAt test n s) same ends) in
    split_there test bytes (drop n left) at
    (read_more test bytes left (take n left) (drop n left) r (sym (take-append-drop n left)) there.each)
    there.ends
    (omega (arith, is, ap (length {A = ℕ}) r.joined, length-append r.front left, length-drop n left, there.within))
