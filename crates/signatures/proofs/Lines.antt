-- The lines of components, one after the other.
use Rattle.std.proofs.Common.{◌≡◌, ◌↔◌, ◌<◌, ◌≤◌, ℕ, zero, suc, ◌+◌, ◌==◌, Bool, true, false, IsTrue, Some, List, [], ◌∷◌, ◌++◌, codes, length, take, refl, sym, ap, ◌∙◌, append_assoc, append-nil, arith}
use Rattle.std.specs.List.{flat_map, zip, slice_get, slice_index_or}
use Rattle.std.proofs.lemmas.Grind.{flat_map-append}
use Rattle.std.proofs.lemmas.Bool.{ne_eqb}
use Rattle.std.proofs.lemmas.List.{take_all}
use Rattle.component_ids.specs.declared.id.ComponentId.{ComponentId}
use Rattle.signatures.specs.SignatureBase.{component_line}

-- one line more, whose end isn't fed
pub line_closes : (fed end id value before : List ℕ) → fed ++ end ≡ before
    → (fed ++ ((end ++ (id ++ codes ": ")) ++ value)) ++ codes "\n" ≡ before ++ (id ++ (codes ": " ++ (value ++ codes "\n")))
line_closes fed end id value before same =
    regroup fed end id (codes ": ") value (codes "\n") ∙ ap (λ (t : List ℕ). t ++ (id ++ (codes ": " ++ (value ++ codes "\n")))) same
  where
    regroup : (a b c d e f : List ℕ) → (a ++ ((b ++ (c ++ d)) ++ e)) ++ f ≡ (a ++ b) ++ (c ++ (d ++ (e ++ f)))
    regroup a b c d e f = simp append_assoc

-- the line of the signature parameters, after the end of those before
pub base_closes : (fed end name printed lines : List ℕ) → fed ++ end ≡ lines
    → (fed ++ (end ++ (name ++ codes ": "))) ++ printed ≡ lines ++ ((name ++ codes ": ") ++ printed)
base_closes fed end name printed lines same =
    regroup fed end (name ++ codes ": ") printed ∙ ap (λ (t : List ℕ). t ++ ((name ++ codes ": ") ++ printed)) same
  where
    regroup : (a b c d : List ℕ) → (a ++ (b ++ c)) ++ d ≡ (a ++ b) ++ (c ++ d)
    regroup a b c d = simp append_assoc

-- whether there is a line
pub some_lines : (i : ℕ) → ((i + 1) == 0) ≡ false
some_lines i = ne_eqb (i + 1) 0 (λ same. omega (arith, same))

pub none_is_empty : (is_none : Bool) (values : List (List ℕ)) → IsTrue is_none ↔ (values ≡ []) → is_none ≡ (length values == 0)
none_is_empty true [] is = refl
none_is_empty true (v ∷ values) is = let none : v ∷ values ≡ [] = is.0 refl in absurd cc
none_is_empty false [] is = is.1 refl
none_is_empty false (v ∷ values) is = sym (ne_eqb (length (v ∷ values)) 0 (λ same. omega (arith, same)))

-- one more component
pub zip_more : (ids : List ComponentId) (values : List (List ℕ)) (i : ℕ) (id : ComponentId) → slice_get ids i ≡ Some id → i < length values
    → take (suc i) (zip ids values) ≡ take i (zip ids values) ++ (id, slice_index_or values i []) ∷ []
zip_more [] values i id there lt = absurd cc
zip_more (first ∷ ids) [] i id there lt = absurd (omega arith)
zip_more (first ∷ ids) (v ∷ values) zero id there lt = let same : first ≡ id = cc in rw same refl
zip_more (first ∷ ids) (v ∷ values) (suc i) id there lt = ap (λ ps. (first, v) ∷ ps) (zip_more ids values i id there (omega arith))

pub lines_more : (ids : List ComponentId) (values : List (List ℕ)) (i : ℕ) (id : ComponentId) → slice_get ids i ≡ Some id → i < length values
    → flat_map component_line (take (i + 1) (zip ids values)) ≡ flat_map component_line (take i (zip ids values)) ++ component_line (id, slice_index_or values i [])
lines_more ids values i id there lt =
    let next : i + 1 ≡ suc i = omega arith in
    ap (λ n. flat_map component_line (take n (zip ids values))) next
    ∙ ap (flat_map component_line) (zip_more ids values i id there lt)
    ∙ flat_map-append component_line (take i (zip ids values)) ((id, slice_index_or values i []) ∷ [])
    ∙ ap (λ t. flat_map component_line (take i (zip ids values)) ++ t) (append-nil (component_line (id, slice_index_or values i [])))

-- all components
short : (ids : List ComponentId) (values : List (List ℕ)) (n : ℕ) → length values ≤ n → length (zip ids values) ≤ n
short [] values n le = omega arith
short (id ∷ ids) [] n le = omega arith
short (id ∷ ids) (v ∷ values) zero le = absurd (omega arith)
short (id ∷ ids) (v ∷ values) (suc n) le = let h = short ids values n (omega arith) in omega (arith, h)

pub zip_all : (ids : List ComponentId) (values : List (List ℕ)) (n : ℕ) → length values ≤ n → take n (zip ids values) ≡ zip ids values
zip_all ids values n le = take_all n (zip ids values) (short ids values n le)
