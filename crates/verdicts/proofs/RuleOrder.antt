-- Rules in the order of their numbers, and the first that fails.
use Rattle.std.proofs.Common.{◌≡◌, ◌<◌, ◌+◌, subst, arith, inl, inr}
use Rattle.std.proofs.lemmas.Bool.{cases_order}
use Rattle.signatures.specs.declared.rule.Rule.{Rule}
use Rattle.signatures.specs.declared.label.LabelFault.{LabelFault}
use Rattle.signatures.specs.declared.label.LabelFault.TheVariants.{Memory, Rule as IsRule}
use Rattle.signatures.specs.declared.place.Place.{Place}
use Rattle.signatures.specs.Words.{rule_number}
use Rattle.signatures.specs.Rules.{IsFirstFailure}
use Rattle.signatures.specs.tools.Answered.{SaysRule}
use Rattle.verdicts.specs.tools.Judged.{NoneBelow}
use Rattle.signatures.proofs.Numbers.{has_its_own_number, has_number}

pub most : (rule : Rule) → rule_number rule < 35
most rule = let within = has_number rule in omega (arith, within.1)

module _ (Table : Rule → Place → Type 0) where
  -- nor does this one
  pub nor : (rule : Rule) → NoneBelow Table (rule_number rule) → ((place : Place) → ¬ Table rule place) → NoneBelow Table (rule_number rule + 1)
  nor rule below passes other place lt fails = elim (cases_order (rule_number other) (rule_number rule)) [
    | inl same ↦ passes place (subst (λ (r : Rule). Table r place) (has_its_own_number other rule same) fails)
    | inr apart ↦ elim apart [
      | inl less ↦ below other place less fails
      | inr more ↦ absurd (omega (arith, lt, more))
    ]
  ]

  pub first_failure : (rule : Rule) (place : Place) → NoneBelow Table (rule_number rule) → Table rule place → IsFirstFailure Table rule place
  first_failure rule place below fails = record { holds = fails; none_before = λ other lt h. below other.rule other.place lt h }

  -- where a rule that is the first has one place, one rule is the first
  pub one_first_failure : ((rule : Rule) (p q : Place) → IsFirstFailure Table rule p → IsFirstFailure Table rule q → p ≡ q)
      → (rule other : Rule) (place another : Place)
      → IsFirstFailure Table rule place → IsFirstFailure Table other another → (rule ≡ other) × (place ≡ another)
  one_first_failure one_place rule other place another a b = elim (cases_order (rule_number rule) (rule_number other)) [
    | inl same ↦
        let rules : rule ≡ other = has_its_own_number rule other same in
        (rules, one_place other place another (subst (λ (r : Rule). IsFirstFailure Table r place) rules a) b)
    | inr apart ↦ elim apart [
      | inl less ↦ absurd (b.none_before (record { rule = rule; place = place }) less a.holds)
      | inr more ↦ absurd (a.none_before (record { rule = other; place = another }) more b.holds)
    ]
  ]

  -- a fault is the first rule that fails, where each rule that fails so is
  pub says_failure : (FailsSo : Rule → Place → Type 0) (fault : LabelFault) → ((rule : Rule) (place : Place) → FailsSo rule place → IsFirstFailure Table rule place)
      → SaysRule FailsSo fault → SaysRule (IsFirstFailure Table) fault
  says_failure FailsSo Memory firsts says = tt
  says_failure FailsSo (IsRule rule place) firsts says = firsts rule place says
