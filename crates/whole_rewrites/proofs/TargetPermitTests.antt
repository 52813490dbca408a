-- What holds or not.
use Rattle.std.proofs.Common.{◌≡◌, ◌⊎◌, ◌↔◌, ℕ, Bool, true, false, IsTrue, IsFalse, Option, Some, None, IfNone, List, [], ◌∷◌, refl, sym, inl, inr}
use Rattle.std.specs.List.{All}
use Rattle.std.specs.Str.{bytes_eq}
use Rattle.std.proofs.lemmas.Bool.{cases_Bool, false≢true}
use Rattle.std.proofs.lemmas.Bool.Decides.{not_from_Decides}
use Rattle.std.proofs.lemmas.List.Elements.{All-nil, All-cons, All-head, All-tail}
use Rattle.std.proofs.lemmas.Slice.Eq.{bytes_eq-Decides}

abbrev pub HoldsOrNot : Type 0 → Type 0
HoldsOrNot P = P ⊎ (¬ P)

pub both_or_not : (P Q : Type 0) → HoldsOrNot P → HoldsOrNot Q → HoldsOrNot (P × Q)
both_or_not P Q (inl p) (inl q) = inl (p, q)
both_or_not P Q (inl p) (inr never) = inr (λ both. never both.1)
both_or_not P Q (inr never) q = inr (λ both. never both.0)

pub true_or_not : (b : Bool) → HoldsOrNot (IsTrue b)
true_or_not true = inl refl
true_or_not false = inr (λ e. false≢true e)

pub false_or_not : (b : Bool) → HoldsOrNot (IsFalse b)
false_or_not true = inr (λ e. false≢true (sym e))
false_or_not false = inl refl

pub implied_or_not : (P Q : Type 0) → HoldsOrNot P → HoldsOrNot Q → HoldsOrNot (P → Q)
implied_or_not P Q p (inl q) = inl (λ holds. q)
implied_or_not P Q (inl p) (inr never) = inr (λ gives. never (gives p))
implied_or_not P Q (inr not) (inr never) = inl (λ holds. absurd (not holds))

pub texts_or_not : (text other : List ℕ) → HoldsOrNot (text ≡ other)
texts_or_not text other = elim (cases_Bool (bytes_eq text other)) [
  | inl same ↦ inl ((bytes_eq-Decides text other).0 same)
  | inr apart ↦ inr (not_from_Decides _ (bytes_eq-Decides text other) apart)
]

pub all_or_not : {X : Type 0} (P : X → Type 0) → ((x : X) → HoldsOrNot (P x)) → (xs : List X) → HoldsOrNot (All P xs)
all_or_not P each [] = inl (All-nil P)
all_or_not P each (x ∷ xs) = elim (each x) [
  | inr never ↦ inr (λ all. never (All-head P x xs all))
  | inl first ↦ elim (all_or_not P each xs) [
    | inr never ↦ inr (λ all. never (All-tail P x xs all))
    | inl rest ↦ inl (All-cons P x xs first rest)
  ]
]

pub same_tests : (P Q R : Type 0) → P ↔ Q → Q ↔ R → P ↔ R
same_tests P Q R a b = (λ p. b.0 (a.0 p), λ r. a.1 (b.1 r))

pub never_true : (P : Type 0) → ¬ P → IsTrue false ↔ P
never_true P never = (λ e. absurd (false≢true e), λ p. absurd (never p))

pub if_none : {A P : Type 0} (o : Option A) → P → IfNone o P
if_none None holds = holds
if_none (Some a) holds = tt
