-- The steps that texts say.
use Rattle.std.proofs.Common.{◌≡◌, ◌⊎◌, ◌≤◌, ◌<◌, ℕ, zero, suc, true, List, [], ◌∷◌, ◌++◌, length, get_or, drop, Option, Some, None, IsTrue, refl, sym, subst, ◌∙◌, append-nil, inl, inr, arith}
use Rattle.std.specs.Prelude.{option_and_then, is_some}
use Rattle.std.specs.List.{AllZip, Any, list_all}
use Rattle.std.proofs.lemmas.Bool.{and_parts, cases_Bool, false≢true}
use Rattle.std.proofs.lemmas.List.{drop_all}
use Rattle.rewrite_script.specs.Lines.{HasValues, IsNoLine, SpellsLine, is_writable}
use Rattle.rewrite_script.specs.Scripts.{HaveValues}
use Rattle.rewrite_script.specs.declared.rewrite.Rewrite.{Rewrite}
use Rattle.rewrite_script.specs.tools.LineWalk.{line_read}
use Rattle.rewrite_script.proofs.KindLaws.{has_one_rewriting}
use Rattle.rewrite_script.proofs.StepLaws.{step_is, step_isnt}
use Rattle.rewrite_script.proofs.ValueLaws.{none_where, not_valued, values_decided}
use Rattle.toml.specs.Data.{Data, Items, string, array, as_array, as_str}
use Rattle.toml.specs.View.{items_view, view}
use Rattle.toml.specs.declared.value.Value.{Value}
use Rattle.conf.specs.declared.fault.ConfFault.{ConfFault}
use Rattle.conf.specs.declared.fault.ConfFault.TheVariants as fault
use Rattle.conf_values.specs.declared.table.ValueRule.TheVariants as rule
use Rattle.conf.specs.Rows.{fails}
use Rattle.conf.specs.Sections.{AreSteps}
use Rattle.conf.specs.Refusals.{HasBadStep}
use Rattle.conf_values.specs.Parts.{values_of}
use Rattle.conf_values.specs.Values.{IsBadStep, IsStepText, are_texts, has_type}
use Rattle.conf.proofs.Among.{any_first, any_later}
use Rattle.conf.specs.tools.GatewayReads.{AreStepsIn, AreStepsOf, IsStepFault, IsStepsFault}

-- ---- one text

-- a line says a step or none
step_or_none : (line : List ℕ) → ((step : Rewrite) × SpellsLine line step) ⊎ IsNoLine line
step_or_none line = by (line_read line) refl
  where
    by : (read : Option Rewrite) → line_read line ≡ read → ((step : Rewrite) × SpellsLine line step) ⊎ IsNoLine line
    by None e = inr (step_isnt line (none_where (line_read line) e))
    by (Some step) e = elim (values_decided step) [
      | inl values ↦ inl (step, step_is line step e values)
      | inr none ↦ inr (step_isnt line (λ other is. not_valued step none other (sym e ∙ is)))
    ]

text_or_bad : (value : Data) → is_some (as_str value) ≡ true → ((step : Rewrite) × IsStepText value step) ⊎ IsBadStep value
text_or_bad (string line) text = step_or_none line
text_or_bad value text = absurd (false≢true text)

text_not_bad : (value : Data) (step : Rewrite) → IsStepText value step → IsBadStep value → ⊥
text_not_bad (string line) step is bad = bad step is
text_not_bad value step is bad = bad

one_step : (value : Data) (step other : Rewrite) → IsStepText value step → IsStepText value other → step ≡ other
one_step (string line) step other is also = has_one_rewriting line step other is also
one_step value step other is also = absurd is

written : (value : Data) (step : Rewrite) → IsStepText value step → (is_writable step ≡ true) × HasValues step
written (string line) step is = (is.writable, is.values)
written value step is = absurd is

-- ---- the texts of an array

steps_or_bad : (values : List Data) → list_all (λ value. is_some (as_str value)) values ≡ true
    → ((steps : List Rewrite) × AllZip IsStepText values steps) ⊎ Any IsBadStep values
steps_or_bad [] texts = inl ([], tt)
steps_or_bad (value ∷ values) texts =
    let both = and_parts (is_some (as_str value)) (list_all (λ value. is_some (as_str value)) values) texts in
    elim (text_or_bad value both.0) [
      | inr bad ↦ inr (any_first IsBadStep value values bad)
      | inl step ↦ elim (steps_or_bad values both.1) [
        | inr bad ↦ inr (any_later IsBadStep value values bad)
        | inl steps ↦ inl (step.0 ∷ steps.0, (step.1, steps.1))
      ]
    ]

none_bad : (values : List Data) (steps : List Rewrite) → AllZip IsStepText values steps → (k : ℕ) (value : Data) → k < length values → get_or values k value ≡ value → IsBadStep value → ⊥
none_bad [] steps are k value lt at bad = absurd (omega (arith, lt))
none_bad (first ∷ values) [] are k value lt at bad = absurd are
none_bad (first ∷ values) (step ∷ steps) are zero value lt at bad = text_not_bad value step (subst (λ (v : Data). IsStepText v step) at are.0) bad
none_bad (first ∷ values) (step ∷ steps) are (suc k) value lt at bad = none_bad values steps are.1 k value (omega (arith, lt)) at bad

one_list : (values : List Data) (steps others : List Rewrite) → AllZip IsStepText values steps → AllZip IsStepText values others → steps ≡ others
one_list [] [] [] are also = refl
one_list [] [] (other ∷ others) are also = absurd also
one_list [] (step ∷ steps) others are also = absurd are
one_list (value ∷ values) [] others are also = absurd are
one_list (value ∷ values) (step ∷ steps) [] are also = absurd also
one_list (value ∷ values) (step ∷ steps) (other ∷ others) are also =
    let first = one_step value step other are.0 also.0 in
    let later = one_list values steps others are.1 also.1 in
    λ i. first i ∷ later i

pub all_written : (values : List Data) (steps : List Rewrite) → AllZip IsStepText values steps → (list_all is_writable steps ≡ true) × HaveValues steps
all_written [] [] are = (refl, tt)
all_written [] (step ∷ steps) are = absurd are
all_written (value ∷ values) [] are = absurd are
all_written (value ∷ values) (step ∷ steps) are =
    let first = written value step are.0 in
    let later = all_written values steps are.1 in
    (rw (first.0, later.0) refl, (first.1, later.1))

-- ---- the value of `gateway.steps`

pub steps_or_bad_of : (value : Option Data) → (IsTrue (fails (has_type rule.Steps) value) → ⊥) → ((steps : List Rewrite) × AreSteps value steps) ⊎ HasBadStep rule.Steps value
steps_or_bad_of None typed = inl ([], refl)
steps_or_bad_of (Some (array items)) typed = elim (cases_Bool (are_texts items)) [
  | inl texts ↦ steps_or_bad (values_of items) texts
  | inr fail ↦ absurd (typed (rw fail refl))
]
steps_or_bad_of (Some value) typed = absurd (typed refl)

-- such a value isn't bad
pub steps_not_bad : (value : Option Data) (steps : List Rewrite) → AreSteps value steps → HasBadStep rule.Steps value → ⊥
steps_not_bad (Some (array items)) steps are bad = none_bad (values_of items) steps are bad.0 bad.1 bad.2 bad.3 bad.4
steps_not_bad value steps are bad = bad

pub steps_are : (value : Option Data) (steps others : List Rewrite) → AreSteps value steps → AreSteps value others → steps ≡ others
steps_are None steps others are also = are ∙ sym also
steps_are (Some (array items)) steps others are also = one_list (values_of items) steps others are also
steps_are (Some value) steps others are also = absurd are

-- ---- steps that are read one by one

pub read_are : (value : Option Data) (steps : List Rewrite) → (IsTrue (fails (has_type rule.Steps) value) → ⊥) → AreStepsIn (option_and_then as_array value) steps → AreSteps value steps
read_are None steps typed read = read
read_are (Some (array items)) steps typed read = elim (cases_Bool (are_texts items)) [
  | inl texts ↦ read texts
  | inr fail ↦ absurd (typed (rw fail refl))
]
read_are (Some value) steps typed read = absurd (typed refl)

-- what the steps so far are of all values, with those of the values that are left
abbrev pub AreStepsSoFar : List Value → ℕ → Items → List Rewrite → Type 0
AreStepsSoFar values i all steps =
    (more : List Rewrite) → AreStepsOf (items_view (drop i values)) more → AreStepsOf all (steps ++ more)

pub so_far_all : (values : List Value) (i : ℕ) (all : Items) (steps : List Rewrite) → length values ≤ i → AreStepsSoFar values i all steps → AreStepsOf all steps
so_far_all values i all steps le so_far =
    subst (λ (steps : List Rewrite). AreStepsOf all steps) (append-nil steps)
    (so_far [] (subst (λ (left : List Value). AreStepsOf (items_view left) []) (sym (drop_all i values le)) (λ texts. tt)))

-- a value that is bad is one of them
any_at : (P : Data → Type 0) (values : List Value) (i : ℕ) (value : Value) → i < length values → get_or values i value ≡ value → P (view value) → Any P (values_of (items_view values))
any_at P [] i value lt at here = absurd (omega (arith, lt))
any_at P (first ∷ values) zero value lt at here =
    any_first P (view first) (values_of (items_view values)) (subst (λ (v : Value). P (view v)) (sym at) here)
any_at P (first ∷ values) (suc i) value lt at here =
    any_later P (view first) (values_of (items_view values)) (any_at P values i value (omega (arith, lt)) at here)

pub step_fault : (values : List Value) (i : ℕ) (value : Value) (f : ConfFault) → i < length values → get_or values i value ≡ value → IsStepFault (view value) f
    → IsStepsFault (items_view values) f
step_fault values i value fault.Memory lt at h = tt
step_fault values i value (fault.BadScript path) lt at h = (h.0, any_at IsBadStep values i value lt at h.1)
step_fault values i value f lt at h = absurd h
