-- Of one language and text two fault offsets are one.
use Rattle.std.proofs.Common.{◌≡◌, ◌<◌, ◌+◌, ℕ, List, ◌++◌, length, take, drop, sym, ap, subst, ◌∙◌, append_assoc, arith, inl, inr}
use Rattle.std.proofs.lemmas.Bool.{cases_order}
use Rattle.std.proofs.lemmas.List.{take-append-drop, take-take}
use Rattle.byte_grammar.specs.Language.{Begins}
use Rattle.byte_grammar.specs.FaultOffset.{IsFaultOffset}

-- a prefix of what begins a text begins it too
pub begins_shorter : {V : Type 0} (L : List ℕ → V → Type 0) (prefix more : List ℕ) → Begins L (prefix ++ more) → Begins L prefix
begins_shorter L prefix more b = (more ++ b.0, b.1, subst (λ (y : List ℕ). L y b.1) (append_assoc prefix more b.0) b.2)

no_longer : {V : Type 0} (L : List ℕ → V → Type 0) (text : List ℕ) (i j : ℕ) → i < j → IsFaultOffset L text i → IsFaultOffset L text j → ⊥
no_longer L text i j less a b =
    let within : i < length text = omega (arith, b.within) in
    let cut : take (i + 1) text ++ drop (i + 1) (take j text) ≡ take j text =
    ap (λ (x : List ℕ). x ++ drop (i + 1) (take j text)) (sym (take-take (i + 1) j text (omega arith))) ∙ take-append-drop (i + 1) (take j text) in
    a.last within (begins_shorter L (take (i + 1) text) (drop (i + 1) (take j text)) (subst (λ (x : List ℕ). Begins L x) (sym cut) b.begins))

pub one_offset : {V : Type 0} (L : List ℕ → V → Type 0) (text : List ℕ) (i j : ℕ) → IsFaultOffset L text i → IsFaultOffset L text j → i ≡ j
one_offset L text i j a b = elim (cases_order i j) [
  | inl same ↦ same
  | inr apart ↦ elim apart [
    | inl less ↦ absurd (no_longer L text i j less a b)
    | inr more ↦ absurd (no_longer L text j i more b a)
  ]
]
