-- Texts that bytes of a class, or a mark, separate in one way.
use Rattle.std.proofs.Common.{◌≡◌, ℕ, Bool, true, false, ◌&&◌, List, [], ◌∷◌, ◌++◌, length, nat_lt, Option, Some, None, refl, sym, ap, ◌∙◌, arith}
use Rattle.std.specs.List.{list_all}
use Rattle.std.proofs.lemmas.Bool.{and_parts, ltb-true, false≢true}
use Rattle.byte_grammar.specs.Language.{starts_in}
use Rattle.derived_values.specs.Marks.{marked_text}

-- two texts of bytes of the class are one, where what comes after them doesn't begin with the class
pub one_run : (test : ℕ → Bool) (one other rest more : List ℕ) → list_all test one ≡ true → list_all test other ≡ true → starts_in test rest ≡ false → starts_in test more ≡ false → one ++ rest ≡ other ++ more
    → (one ≡ other) × (rest ≡ more)
one_run test [] [] rest more a b r m e = (refl, e)
one_run test [] (y ∷ ys) rest more a b r m e = absurd (false≢true (sym r ∙ ap (starts_in test) e ∙ (and_parts _ _ b).0))
one_run test (x ∷ xs) [] rest more a b r m e = absurd (false≢true (sym m ∙ ap (starts_in test) (sym e) ∙ (and_parts _ _ a).0))
one_run test (x ∷ xs) (y ∷ ys) rest more a b r m e =
    let first : x ≡ y = cc in
    let left : xs ++ rest ≡ ys ++ more = cc in
    let others = one_run test xs ys rest more (and_parts _ _ a).1 (and_parts _ _ b).1 r m left in
    (λ i. first i ∷ others.0 i, others.1)

-- a text that the class doesn't have the mark of doesn't begin with the class
pub marked_ends : (test : ℕ → Bool) (mark : ℕ) → test mark ≡ false → (part : Option (List ℕ)) → starts_in test (marked_text mark part) ≡ false
marked_ends test mark out None = refl
marked_ends test mark out (Some part) = out

pub one_marked : (mark : ℕ) (one other : Option (List ℕ)) → marked_text mark one ≡ marked_text mark other → one ≡ other
one_marked mark None None e = refl
one_marked mark None (Some other) e = absurd cc
one_marked mark (Some one) None e = absurd cc
one_marked mark (Some one) (Some other) e = let same : one ≡ other = cc in ap Some same

pub not_empty : (test : ℕ → Bool) (text : List ℕ) → (nat_lt 0 (length text) && list_all test text) ≡ true → length text ≡ 0 → ⊥
not_empty test text is empty = omega (arith, ltb-true 0 (length text) (and_parts _ _ is).0, empty)
