-- Signature parameters, and what components come to, are equal or not.
use Rattle.std.proofs.Common.{◌≡◌, ◌⊎◌, ℕ, zero, suc, List, [], ◌∷◌, Result, Ok, Err, refl, sym, ap, ◌∙◌, inl, inr, arith}
use Rattle.std.proofs.lemmas.Bool.{cases_Bool, cases_order, false≢true}
use Rattle.sfv_text.specs.Equality.{is_equal_param}
use Rattle.sfv_text.specs.declared.pair.Pair.{Pair}
use Rattle.sfv_text.specs.declared.value.BareItem.{BareItem}
use Rattle.component_ids.specs.declared.id.ComponentId.{ComponentId}
use Rattle.component_ids.specs.declared.params.SigParams.{SigParams}
use Rattle.derived_values.specs.declared.lack.Lack.{Lack}
use Rattle.derived_values.specs.declared.lack.Lack.TheVariants.{Absent, Ambiguous, Underivable, Unreadable, NotAscii}
use Rattle.sfv_text.proofs.EqualityLaws.{param_equal}

abbrev pub AreDecided : Type 0 → Type 0
AreDecided X = (x y : X) → (x ≡ y) ⊎ (¬ (x ≡ y))

pub decided_list : {X : Type 0} → AreDecided X → AreDecided (List X)
decided_list decide [] [] = inl refl
decided_list decide [] (y ∷ ys) = inr (λ e. absurd cc)
decided_list decide (x ∷ xs) [] = inr (λ e. absurd cc)
decided_list {X} decide (x ∷ xs) (y ∷ ys) = by_parts (decide x y) (decided_list decide xs ys)
  where
    by_parts : (x ≡ y) ⊎ (¬ (x ≡ y)) → (xs ≡ ys) ⊎ (¬ (xs ≡ ys)) → (x ∷ xs ≡ y ∷ ys) ⊎ (¬ (x ∷ xs ≡ y ∷ ys))
    by_parts (inl first) (inl rest) = inl (λ i. first i ∷ rest i)
    by_parts (inr apart) rest = inr (λ e. apart cc)
    by_parts (inl first) (inr apart) = inr (λ e. apart cc)

pub decided_nat : AreDecided ℕ
decided_nat a b = elim (cases_order a b) [
  | inl same ↦ inl same
  | inr apart ↦ elim apart [
    | inl less ↦ inr (λ e. absurd omega (arith, less, e))
    | inr more ↦ inr (λ e. absurd omega (arith, more, e))
  ]
]

pub decided_bytes : AreDecided (List ℕ)
decided_bytes = decided_list decided_nat

decided_param : AreDecided (Pair BareItem)
decided_param a b = elim (cases_Bool (is_equal_param a b)) [
  | inl passes ↦ inl ((param_equal a b).0 passes)
  | inr fails ↦ inr (λ e. false≢true (sym fails ∙ (param_equal a b).1 e))
]

decided_id : AreDecided ComponentId
decided_id a b = by_parts (decided_bytes a.name b.name) (decided_list decided_param a.params b.params)
  where
    by_parts : (a.name ≡ b.name) ⊎ (¬ (a.name ≡ b.name)) → (a.params ≡ b.params) ⊎ (¬ (a.params ≡ b.params)) → (a ≡ b) ⊎ (¬ (a ≡ b))
    by_parts (inl names) (inl params) = inl (λ i. record { name = names i; params = params i })
    by_parts (inr apart) params = inr (λ e. apart (ap (λ (id : ComponentId). id.name) e))
    by_parts (inl names) (inr apart) = inr (λ e. apart (ap (λ (id : ComponentId). id.params) e))

pub decided_params : AreDecided SigParams
decided_params a b = by_parts (decided_list decided_id a.ids b.ids) (decided_list decided_param a.params b.params)
  where
    by_parts : (a.ids ≡ b.ids) ⊎ (¬ (a.ids ≡ b.ids)) → (a.params ≡ b.params) ⊎ (¬ (a.params ≡ b.params)) → (a ≡ b) ⊎ (¬ (a ≡ b))
    by_parts (inl ids) (inl params) = inl (λ i. record { ids = ids i; params = params i })
    by_parts (inr apart) params = inr (λ e. apart (ap (λ (p : SigParams). p.ids) e))
    by_parts (inl ids) (inr apart) = inr (λ e. apart (ap (λ (p : SigParams). p.params) e))

-- ---- what a component comes to

abbrev number_of : Lack → ℕ
number_of Absent = 0
number_of Ambiguous = 1
number_of Underivable = 2
number_of Unreadable = 3
number_of NotAscii = 4

abbrev lack_of : ℕ → Lack
lack_of zero = Absent
lack_of (suc zero) = Ambiguous
lack_of (suc (suc zero)) = Underivable
lack_of (suc (suc (suc zero))) = Unreadable
lack_of (suc (suc (suc (suc n)))) = NotAscii

there_and_back : (lack : Lack) → lack_of (number_of lack) ≡ lack
there_and_back Absent = refl
there_and_back Ambiguous = refl
there_and_back Underivable = refl
there_and_back Unreadable = refl
there_and_back NotAscii = refl

decided_lack : AreDecided Lack
decided_lack a b = elim (decided_nat (number_of a) (number_of b)) [
  | inl same ↦ inl (sym (there_and_back a) ∙ ap lack_of same ∙ there_and_back b)
  | inr apart ↦ inr (λ e. apart (ap number_of e))
]

pub decided_answer : AreDecided (Result (List ℕ) Lack)
decided_answer (Ok a) (Ok b) = elim (decided_bytes a b) [
  | inl same ↦ inl (ap (λ (t : List ℕ). Ok t) same)
  | inr apart ↦ inr (λ e. apart cc)
]
decided_answer (Ok a) (Err b) = inr (λ e. absurd cc)
decided_answer (Err a) (Ok b) = inr (λ e. absurd cc)
decided_answer (Err a) (Err b) = elim (decided_lack a b) [
  | inl same ↦ inl (ap (λ (l : Lack). Err l) same)
  | inr apart ↦ inr (λ e. apart cc)
]
