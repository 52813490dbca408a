-- What is read at each layer is a value, or has a cause to be refused.
use Rattle.std.proofs.Common.{◌≡◌, inl, inr, ℕ, List, [], ◌∷◌, Option, Some, None, refl, sym, subst}
use Rattle.sfv_text.specs.declared.value.InnerList.{InnerList}
use Rattle.sfv_read.specs.Fault.{IsSfError}
use Rattle.sfv_read.specs.Reads.{ReadsInner}
use Rattle.sfv_read.specs.declared.error.SfError.{SfError}
use Rattle.sfv_read.specs.declared.error.SfError.TheVariants as error
use Rattle.component_ids.specs.declared.id.ComponentId.{ComponentId}
use Rattle.component_values.specs.Context.{MessageContext}
use Rattle.component_values.specs.Values.{Lacks as LacksSo}
use Rattle.msg_body.specs.Messages.{Message}
use Rattle.conf.specs.Configuration.{Configuration}
use Rattle.verdicts.specs.declared.outcome.Verdict.{Verdict}
use Rattle.commands.specs.Base.{AreParamsRefused}
use Rattle.commands.specs.Covered.{ReadsParams}
use Rattle.commands.specs.Laws.{HaveParams, HaveValuesOrLack, HaveSomeOutcome}
use Rattle.intake.specs.Layers.{HasAnswer}
use Rattle.commands.specs.Verify.{AreAsked, AreVerdicts, verdicts_outcome}
use Rattle.verdicts.specs.Verification.{or_no_label, verification_for}
use Rattle.refusals.specs.declared.refusal.CommandRefusal.TheVariants.{Syntax, Ids, Lacks}
use Rattle.commands.proofs.Lacking.{id_there}
use Rattle.commands.proofs.LowerAnswers.{inner_or_not, inner_fault, ids_answer, values_or_lack, some_labels, some_verdict}

-- ---- PARAMS

params_fault : (params : List ℕ) (e : SfError) → IsSfError ReadsInner params e → ¬ (e ≡ error.Memory) → HasAnswer (ReadsParams params) (AreParamsRefused params)
params_fault params error.Memory is other = absurd (other refl)
params_fault params (error.Syntax offset) is other = inr (Syntax offset, is)

params_of : (params : List ℕ) (list : InnerList) → ReadsInner params list → HasAnswer (ReadsParams params) (AreParamsRefused params)
params_of params list reads = elim (ids_answer list) [
  | inl sig ↦ inl (sig.0, record { reads = subst (λ (l : InnerList). ReadsInner params l) (sym sig.1.1) reads; is = sig.1.0 })
  | inr fault ↦ inr (Ids fault.0, record { list = list; reads = reads; is = fault.1 })
]

pub have_params : HaveParams
have_params params = elim (inner_or_not params) [
  | inl read ↦ params_of params read.0 read.1
  | inr none ↦ let fault = inner_fault.fault params none in params_fault params fault.0 fault.1 fault.2
]

-- ---- the values of components

pub have_values_or_lack : HaveValuesOrLack
have_values_or_lack context ids = elim (values_or_lack context ids) [
  | inl values ↦ inl values
  | inr lack ↦
      let first = lack.2 in
      let id = id_there (λ (i : ComponentId). LacksSo context i lack.1) ids lack.0 first.there in
      inr (Lacks lack.1 id.0, (lack.0, first, id.1))
]

-- ---- verdicts

some_asked : (label : Option (List ℕ)) (message : Message) → (labels : List (List ℕ)) × AreAsked label message labels
some_asked None message = let found = some_labels message in (or_no_label found.0, (found.0, found.1, refl))
some_asked (Some label) message = (label ∷ [], refl)

some_verdicts : (conf : Configuration) (moment : ℕ) (context : MessageContext) (labels : List (List ℕ)) → (verdicts : List Verdict) × AreVerdicts conf moment context labels verdicts
some_verdicts conf moment context [] = ([], tt)
some_verdicts conf moment context (label ∷ labels) =
    let one = some_verdict (verification_for conf moment context label) in
    let rest = some_verdicts conf moment context labels in
    (one.0 ∷ rest.0, (one.1, rest.1))

pub have_some_outcome : HaveSomeOutcome
have_some_outcome label moment conf context =
    let asked = some_asked label context.message in
    let verdicts = some_verdicts conf moment context asked.0 in
    (verdicts_outcome asked.0 verdicts.0, record { labels = asked.0; asked = asked.1; verdicts = verdicts.0; are = verdicts.1; outcome_is = refl })
