-- A byte outside a class separates a text after a prefix of the class in one way, and the first offset that a search for such bytes finds is the prefix's length.
use Rattle.std.proofs.Common.{◌≡◌, ℕ, ◌<◌, Bool, true, false, List, [], ◌∷◌, ◌++◌, length, get_or, Option, Some, None, IfSome, IfNone, refl, sym, ap, ◌∙◌, inl, inr, arith, length-append}
use Rattle.std.specs.List.{list_all}
use Rattle.std.proofs.Math.ListN.{get_or-append}
use Rattle.std.proofs.Math.Seq.{get_or-append_seam}
use Rattle.std.proofs.lemmas.Bool.{and_parts, cases_Bool, cases_order, false≢true}
use Rattle.std.proofs.lemmas.List.{append_cancel_left}
use Rattle.std.proofs.lemmas.List.Folds.{list_all_at}
use Rattle.byte_grammar.specs.Language.{starts_in}
use Rattle.memchr.specs.Find.{IsFirstByte}
use Rattle.msg_head.specs.tools.Prefixes.{StandsBefore}

-- a byte of the class is no byte outside it
pub outside : (test : ℕ → Bool) (x y : ℕ) → test x ≡ true → test y ≡ false → x ≡ y → ⊥
outside test x y in_class out same = false≢true (sym out ∙ sym (ap test same) ∙ in_class)

-- two prefixes of the class before the same byte outside it are one
pub one_prefix : (test : ℕ → Bool) (end : ℕ) (one other more rest : List ℕ) → test end ≡ false → list_all test one ≡ true → list_all test other ≡ true → one ++ end ∷ more ≡ other ++ end ∷ rest → (one ≡ other) × (more ≡ rest)
one_prefix test end [] [] more rest out f o e = (refl, cc)
one_prefix test end [] (y ∷ ys) more rest out f o e =
    let first : y ≡ end = cc in absurd (outside test y end (and_parts _ _ o).0 out first)
one_prefix test end (x ∷ xs) [] more rest out f o e =
    let first : x ≡ end = cc in absurd (outside test x end (and_parts _ _ f).0 out first)
one_prefix test end (x ∷ xs) (y ∷ ys) more rest out f o e =
    let first : x ≡ y = cc in
    let left : xs ++ end ∷ more ≡ ys ++ end ∷ rest = cc in
    let others = one_prefix test end xs ys more rest out (and_parts _ _ f).1 (and_parts _ _ o).1 left in
    (λ i. first i ∷ others.0 i, others.1)

-- and two before the same end are one, where its first byte is outside the class
pub one_before : (test : ℕ → Bool) (c : ℕ) (cs one other more rest bytes : List ℕ) → test c ≡ false → StandsBefore test (c ∷ cs) one more bytes → StandsBefore test (c ∷ cs) other rest bytes → (one ≡ other) × (more ≡ rest)
one_before test c cs one other more rest bytes out a b =
    let same = one_prefix test c one other (cs ++ more) (cs ++ rest) out a.each b.each (sym a.joined ∙ b.joined) in
    (same.0, append_cancel_left cs more rest same.1)

at_seam : (prefix : List ℕ) (end : ℕ) (more bytes : List ℕ) → bytes ≡ prefix ++ end ∷ more → get_or bytes (length prefix) 0 ≡ end
at_seam prefix end more bytes joined = ap (λ (s : List ℕ). get_or s (length prefix) 0) joined ∙ get_or-append_seam prefix end more 0

below_seam : (prefix : List ℕ) (end : ℕ) (more bytes : List ℕ) → bytes ≡ prefix ++ end ∷ more → length prefix < length bytes
below_seam prefix end more bytes joined = omega (arith, ap (length {A = ℕ}) joined, length-append prefix (end ∷ more))

-- a byte that the search finds isn't in the prefix
not_before : (test search : ℕ → Bool) (end : ℕ) (prefix more bytes : List ℕ) (k : ℕ) → ((c : ℕ) → test c ≡ true → search c ≡ true → ⊥) → StandsBefore test (end ∷ []) prefix more bytes → search (get_or bytes k 0) ≡ true → k < length prefix → ⊥
not_before test search end prefix more bytes k apart s here low =
    let inside : search (get_or prefix k 0) ≡ true = ap search (sym (get_or-append prefix (end ∷ more) 0 k low) ∙ sym (ap (λ (t : List ℕ). get_or t k 0) s.joined)) ∙ here in
    elim (cases_Bool (test (get_or prefix k 0))) [
      | inl is ↦ apart (get_or prefix k 0) is inside
      | inr not ↦ false≢true (sym (list_all_at test prefix k 0 low not) ∙ s.each)
    ]

-- the first offset that the search finds is the prefix's length
pub first_end : (test search : ℕ → Bool) (end : ℕ) (prefix more bytes : List ℕ) (found : Option ℕ) → search end ≡ true → ((c : ℕ) → test c ≡ true → search c ≡ true → ⊥) → StandsBefore test (end ∷ []) prefix more bytes → IsFirstByte search bytes found → found ≡ Some (length prefix)
first_end test search end prefix more bytes None is apart s h =
    absurd (h (length prefix) (omega arith) (below_seam prefix end more bytes s.joined) (ap search (at_seam prefix end more bytes s.joined) ∙ is))
first_end test search end prefix more bytes (Some k) is apart s h =
    elim (cases_order k (length prefix)) [
      | inl same ↦ ap Some same
      | inr apart_from ↦ elim apart_from [
        | inl low ↦ absurd (not_before test search end prefix more bytes k apart s h.1 low)
        | inr high ↦ absurd (h.0.before (length prefix) (omega arith) high (ap search (at_seam prefix end more bytes s.joined) ∙ is))
      ]
    ]

-- where a byte of the class isn't first in the rest, the rest begins at the end
pub at_end_of_prefix : (test : ℕ → Bool) (end : ℕ) (one other rest more : List ℕ) → test end ≡ false → list_all test one ≡ true → list_all test other ≡ true → starts_in test rest ≡ false → one ++ rest ≡ other ++ end ∷ more → rest ≡ end ∷ more
at_end_of_prefix test end [] [] rest more out f o none e = e
at_end_of_prefix test end [] (y ∷ ys) [] more out f o none e = absurd cc
at_end_of_prefix test end [] (y ∷ ys) (c ∷ cs) more out f o none e =
    let first : c ≡ y = cc in absurd (outside test y c (and_parts _ _ o).0 none (sym first))
at_end_of_prefix test end (x ∷ xs) [] rest more out f o none e =
    let first : x ≡ end = cc in absurd (outside test x end (and_parts _ _ f).0 out first)
at_end_of_prefix test end (x ∷ xs) (y ∷ ys) rest more out f o none e =
    let left : xs ++ rest ≡ ys ++ end ∷ more = cc in
    at_end_of_prefix test end xs ys rest more out (and_parts _ _ f).1 (and_parts _ _ o).1 none left

-- what holds of no answer, and of an answer, by cases
pub given_none : {X : Type 0} {P : Type 0} (found : Option X) → P → IfNone found P
given_none None p = p
given_none (Some x) p = tt

pub some_more : {X : Type 0} (P Q : X → Type 0) (found : Option X) → ((x : X) → P x → Q x) → IfSome found P → IfSome found Q
some_more P Q None more p = tt
some_more P Q (Some x) more p = more x p

pub none_more : {X P Q : Type 0} (found : Option X) → (P → Q) → IfNone found P → IfNone found Q
none_more None more p = more p
none_more (Some x) more p = tt
