-- Of what is judged in layers, one outcome comes.
use Rattle.std.proofs.Common.{◌≡◌, inl, inr, sym, ap, subst, ◌∙◌, Result, Ok, Err}
use Rattle.intake.specs.Layers.{IsDecisive}
use Rattle.commands.specs.Layers.{ReadsThen}
use Rattle.commands.specs.declared.outcome.Outcome.{Outcome}
use Rattle.commands.specs.declared.outcome.Outcome.TheVariants.{Refused}
use Rattle.refusals.specs.declared.refusal.Refusal.{Refusal}
use Rattle.intake.specs.declared.stop.Stop.{Stop}
use Rattle.intake.specs.declared.stop.Stop.TheVariants.{Memory, ReadFault, Refused as IsRefused}
use Rattle.commands.specs.Outcome.{IfOutcome}

-- at most one outcome
abbrev pub HasOne : (Outcome → Type 0) → Type 0
HasOne P = (one other : Outcome) → P one → P other → one ≡ other

pub one_of_layers : {V C : Type 0} (Reads : V → Type 0) (Causes : C → Type 0) (refusal_of : C → Refusal) (Then : V → Outcome → Type 0)
    → IsDecisive Reads Causes → ((v : V) → Reads v → HasOne (Then v)) → HasOne (ReadsThen Reads Causes refusal_of Then)
one_of_layers {V} Reads Causes refusal_of Then d then one other (inl a) (inl b) =
    then b.0 b.1 one other (subst (λ (v : V). Then v one) (d.value a.0 b.0 a.1 b.1) a.2) b.2
one_of_layers Reads Causes refusal_of Then d then one other (inl a) (inr b) = absurd (d.either a.0 b.0 a.1 b.1)
one_of_layers Reads Causes refusal_of Then d then one other (inr a) (inl b) = absurd (d.either b.0 a.0 b.1 a.1)
one_of_layers {V} {C} Reads Causes refusal_of Then d then one other (inr a) (inr b) =
    a.2 ∙ (ap (λ (c : C). Refused (refusal_of c)) (d.cause a.0 b.0 a.1 b.1) ∙ sym b.2)

-- a run comes to what follows from its outcome
pub went_on : {P Q : Outcome → Type 0} → ((outcome : Outcome) → P outcome → Q outcome) → (result : Result Outcome Stop) → IfOutcome result P → IfOutcome result Q
went_on f (Ok outcome) p = f outcome p
went_on f (Err Memory) p = tt
went_on f (Err ReadFault) p = tt
went_on f (Err (IsRefused refusal)) p = f (Refused refusal) p

-- a run comes to what both say of its outcome
pub both : (P Q : Outcome → Type 0) (result : Result Outcome Stop) → IfOutcome result P → IfOutcome result Q → IfOutcome result (λ outcome. P outcome × Q outcome)
both P Q (Ok outcome) p q = (p, q)
both P Q (Err Memory) p q = tt
both P Q (Err ReadFault) p q = tt
both P Q (Err (IsRefused refusal)) p q = (p, q)
