-- Byte Sequences one after the other.
use Rattle.std.proofs.Common.{◌≡◌, ℕ, ◌==◌, true, false, List, [], ◌∷◌, ◌++◌, length, codes, inl, inr, sym, ap, ◌∙◌, append_assoc, append-nil, arith, length-append}
use Rattle.std.specs.List.{flat_map}
use Rattle.std.proofs.lemmas.Bool.{cases_Bool, eqb-true}
use Rattle.std.proofs.lemmas.Grind.{flat_map-append}
use Rattle.std.proofs.lemmas.List.{map-append}
use Rattle.sfv_text.specs.Strict.{bytes_text}
use Rattle.msg_head.specs.Lines.{FieldLine}
use Rattle.msg_head.specs.Values.{value, line_values}
use Rattle.component_values.specs.Values.{byte_sequences}

-- the first one
pub first_sequence : (text : List ℕ) (values : List (List ℕ)) (bytes : List ℕ) → true ≡ (length values == 0)
    → (text ++ byte_sequences values) ++ bytes_text bytes ≡ text ++ byte_sequences (values ++ bytes ∷ [])
first_sequence text [] bytes none = append_assoc text [] (bytes_text bytes) ∙ ap (λ (t : List ℕ). text ++ t) (sym (append-nil (bytes_text bytes)))
first_sequence text (first ∷ others) bytes none = absurd (omega (arith, eqb-true (length (first ∷ others)) 0 (sym none)))

-- a further one
pub next_sequence : (text : List ℕ) (values : List (List ℕ)) (bytes : List ℕ) → false ≡ (length values == 0)
    → ((text ++ byte_sequences values) ++ codes ", ") ++ bytes_text bytes ≡ text ++ byte_sequences (values ++ bytes ∷ [])
next_sequence text [] bytes some = absurd cc
next_sequence text (first ∷ others) bytes some =
    let f = λ (t : List ℕ). codes ", " ++ bytes_text t in
    regroup_four text (bytes_text first ++ flat_map f others) (codes ", ") (bytes_text bytes)
    ∙ ap (λ (t : List ℕ). text ++ t) (append_assoc (bytes_text first) (flat_map f others) (codes ", " ++ bytes_text bytes)
    ∙ ap (λ (t : List ℕ). bytes_text first ++ t) (ap (λ (t : List ℕ). flat_map f others ++ t) (sym (append-nil (f bytes))) ∙ sym (flat_map-append f others (bytes ∷ []))))
  where
    regroup_four : (a b c d : List ℕ) → ((a ++ b) ++ c) ++ d ≡ a ++ (b ++ (c ++ d))
    regroup_four a b c d = simp append_assoc

-- then it isn't the first any more
pub not_first : (values : List (List ℕ)) (bytes : List ℕ) → false ≡ (length (values ++ bytes ∷ []) == 0)
not_first values bytes = elim (cases_Bool (length (values ++ bytes ∷ []) == 0)) [
  | inl none ↦ absurd (omega (arith, eqb-true (length (values ++ bytes ∷ [])) 0 none, length-append {A = List ℕ}))
  | inr some ↦ sym some
]

-- one more line
pub values_more : (done : List FieldLine) (line : FieldLine) → line_values (done ++ line ∷ []) ≡ line_values done ++ value line.raw ∷ []
values_more done line = map-append (λ (l : FieldLine). value l.raw) done (line ∷ [])
