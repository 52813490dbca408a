-- Why a message isn't signed, and that nothing is against it.
use Rattle.std.proofs.Common.{◌≡◌, ◌≢◌, ℕ, zero, suc, Bool, true, false, ◌||◌, List, [], ◌∷◌, Result, Ok, Err, refl, subst, inl, inr}
use Rattle.std.specs.Prelude.{IsTrue, IsSomeAnd, slice_get}
use Rattle.std.specs.List.{list_any}
use Rattle.byte_grammar.specs.Causes.{AnswersWhere}
use Rattle.component_ids.specs.declared.params.SigParams.{SigParams}
use Rattle.component_values.specs.Context.{MessageContext}
use Rattle.signing.specs.SignCauses.{IsFirstSelfCover, IsSignFault, covers_itself}
use Rattle.signing.specs.declared.fault.SignFault.{SignFault}
use Rattle.signing.specs.declared.fault.SignFault.TheVariants as sign
use Rattle.signing.specs.declared.spec.SignSpec.{SignSpec}
use Rattle.gateway.specs.Forwarded.{CoversNew, IsSignable}

-- where a test passes at an index, one passes
pub any_at : {X : Type 0} (p : X → Bool) (xs : List X) (i : ℕ) → IsSomeAnd (slice_get xs i) (λ x. IsTrue (p x)) → list_any p xs ≡ true
any_at p [] i there = absurd there
any_at p (x ∷ xs) zero there = rw there refl
any_at p (x ∷ xs) (suc i) there = let later = any_at p xs i there in by_first (p x) (list_any p xs) later
  where
    by_first : (a b : Bool) → b ≡ true → (a || b) ≡ true
    by_first true b is = refl
    by_first false b is = is

-- what the accepted signature covers first is what signing changes
pub covered_at : (params : SigParams) (spec : SignSpec) (index : ℕ) → IsFirstSelfCover spec.label params.ids index → CoversNew params spec
covered_at params spec index first = any_at (covers_itself spec.label) params.ids index first.there

module _ (context : MessageContext) (spec : SignSpec) where
  -- out of memory is no cause
  pub never_memory : (fault : SignFault) → IsSignFault context spec fault → fault ≢ sign.Memory
  never_memory fault is same = (subst (λ (f : SignFault). IsSignFault context spec f) same is).holds

  -- what was signed can be signed
  pub signable : (text : List ℕ) → ((fault : SignFault) → fault ≢ sign.Memory → AnswersWhere {T = List ℕ} sign.Memory (Ok text) fault (IsSignFault context spec fault)) → IsSignable context spec
  signable text answers fault is = elim ((answers fault (never_memory fault is)).there is) [
    | inl e ↦ absurd (not_ok fault e)
    | inr e ↦ absurd (not_ok sign.Memory e)
  ]
    where
      not_ok : (own : SignFault) → ◌≡◌ {A = Result (List ℕ) SignFault} (Ok text) (Err own) → ⊥
      not_ok own e = cc
