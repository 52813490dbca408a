-- Which of several policies is chosen.
use Rattle.std.proofs.Common.{◌≡◌, ◌⊎◌, ℕ, Bool, true, Option, Some, None, is_none, List, [], ◌∷◌, IfSome, Bor, refl, sym, ap, ◌∙◌, inl, inr, arith}
use Rattle.std.specs.List.{All, Contains, find}
use Rattle.std.specs.Prelude.{option_copied, slice_get}
use Rattle.std.proofs.str.Laws.{order}
use Rattle.std.proofs.lemmas.Bool.{cases_Bool}
use Rattle.std.proofs.lemmas.List.Elements.{All-cons, All-contains, All-nil, Contains-append_left, Contains-append_right, Contains-push}
use Rattle.std.proofs.lemmas.Option.{none-some, same_Some, slice_get-get_or}
use Rattle.std.proofs.lemmas.Slice.Eq.{bytes_eq-Decides}
use Rattle.settings.specs.Chosen.{default_policy, is_tag, or_else, policy_for, selects}
use Rattle.settings.specs.Laws.{IsChosenByTag, IsChosenByNoOther, IsDefaultWithoutTag, IsForItsTagAlone, IsNoneWithoutDefault, IsUnselected}
use Rattle.settings.specs.ValidPolicies.{SelectDistinct}
use Rattle.settings.specs.declared.policy.Policy.{Policy}

-- ---- what is found in a list

-- what is found is one of the list, and passes
pub found_is : {X : Type 0} (p : X → Bool) (xs : List X) (x : X) → find p xs ≡ Some x → Contains xs x × (p x ≡ true)
found_is p [] x e = absurd cc
found_is p (y ∷ ys) x e = elim (cases_Bool (p y)) [
  | inl passes ↦
      let same : y ≡ x = cc (rw passes at e) in
      rw (← same) (Contains-append_left (y ∷ []) ys y (Contains-push [] y), passes)
  | inr fails ↦
      let rest = found_is p ys x (rw fails at e) in
      (Contains-append_right (y ∷ []) ys x rest.0, rest.1)
]

-- where none is found each fails
each_fails : {X : Type 0} (p : X → Bool) (xs : List X) → find p xs ≡ None → All (λ x. ¬ (p x ≡ true)) xs
each_fails p [] e = All-nil (λ x. ¬ (p x ≡ true))
each_fails p (y ∷ ys) e = elim (cases_Bool (p y)) [
  | inl passes ↦ absurd (none-some y (sym (rw passes at e)))
  | inr fails ↦ All-cons (λ x. ¬ (p x ≡ true)) y ys (λ passes. cc (passes, fails)) (each_fails p ys (rw fails at e))
]

pub not_found : {X : Type 0} (p : X → Bool) (xs : List X) (x : X) → find p xs ≡ None → Contains xs x → ¬ (p x ≡ true)
not_found p xs x e there = All-contains (λ y. ¬ (p y ≡ true)) xs x (each_fails p xs e) there

-- ---- what a policy selects

-- the tag that a policy selects, by the test
pub selects_is : (tag : List ℕ) (own : Option (List ℕ)) → is_tag tag own ≡ true → own ≡ Some tag
selects_is tag None e = absurd cc
selects_is tag (Some own) e = ap Some ((bytes_eq-Decides own tag).0 e)

selects_by : (tag : List ℕ) (own : Option (List ℕ)) → own ≡ Some tag → is_tag tag own ≡ true
selects_by tag own e = ap (is_tag tag) e ∙ (bytes_eq-Decides tag tag).1 refl

none_is : (own : Option (List ℕ)) → is_none own ≡ true → own ≡ None
none_is None e = refl
none_is (Some own) e = absurd cc

abbrev selects_none : Policy → Bool
selects_none policy = is_none policy.selects

-- a policy that is one of them has a place
at_place : (policies : List Policy) (policy : Policy) (there : Contains policies policy) → slice_get policies there.0 ≡ Some policy
at_place policies policy there = slice_get-get_or policies there.0 policy there.1 ∙ ap Some there.2

-- two that select the same are one
pub one_selects : (policies : List Policy) (policy other : Policy) → SelectDistinct policies → Contains policies policy → Contains policies other
    → policy.selects ≡ other.selects → policy ≡ other
one_selects policies policy other distinct a b same = elim (order a.0 b.0) [
  | inl before ↦ absurd (distinct a.0 b.0 policy other before (at_place policies policy a) (at_place policies other b) same)
  | inr not_before ↦ elim (order b.0 a.0) [
    | inl after ↦ absurd (distinct b.0 a.0 other policy after (at_place policies other b) (at_place policies policy a) (sym same))
    | inr not_after ↦
        let place : a.0 ≡ b.0 = omega arith in
        same_Some policy other (sym (at_place policies policy a) ∙ ap (slice_get policies) place ∙ at_place policies other b)
  ]
]

-- ---- which policy is chosen

pub chosen_by_tag : IsChosenByTag
chosen_by_tag policies policy tag valid there is = by (find (selects tag) policies) refl
  where
    by : (o : Option Policy) → find (selects tag) policies ≡ o → or_else o (default_policy policies) ≡ Some policy
    by (Some other) found =
        let one = found_is (selects tag) policies other found in
        ap Some (one_selects policies other policy valid.distinct one.0 there (selects_is tag other.selects one.1 ∙ sym is))
    by None found = absurd (not_found (selects tag) policies policy found there (selects_by tag policy.selects is))

default_is : (policies : List Policy) (policy : Policy) → SelectDistinct policies → Contains policies policy → policy.selects ≡ None → default_policy policies ≡ Some policy
default_is policies policy distinct there is = by (default_policy policies) refl
  where
    by : (o : Option Policy) → default_policy policies ≡ o → o ≡ Some policy
    by (Some other) found =
        let one = found_is selects_none policies other found in
        ap Some (one_selects policies other policy distinct one.0 there (none_is other.selects one.1 ∙ sym is))
    by None found = absurd (not_found selects_none policies policy found there (ap is_none is))

pub default_without_tag : IsDefaultWithoutTag
default_without_tag policies policy None valid there is unselected = default_is policies policy valid.distinct there is
default_without_tag policies policy (Some tag) valid there is unselected = by (find (selects tag) policies) refl
  where
    by : (o : Option Policy) → find (selects tag) policies ≡ o → or_else o (default_policy policies) ≡ Some policy
    by (Some other) found =
        let one = found_is (selects tag) policies other found in
        absurd (unselected other one.0 (selects_is tag other.selects one.1))
    by None found = default_is policies policy valid.distinct there is

pub chosen_by_no_other : IsChosenByNoOther
chosen_by_no_other policies policy None e =
    let one = found_is selects_none policies policy e in
    (one.0, inr (none_is policy.selects one.1))
chosen_by_no_other policies policy (Some tag) e = by (find (selects tag) policies) refl e
  where
    by : (o : Option Policy) → find (selects tag) policies ≡ o → or_else o (default_policy policies) ≡ Some policy
        → Contains policies policy × ((policy.selects ≡ Some tag) ⊎ (policy.selects ≡ None))
    by (Some other) found same =
        let one = found_is (selects tag) policies policy (found ∙ same) in
        (one.0, inl (selects_is tag policy.selects one.1))
    by None found same =
        let one = found_is selects_none policies policy same in
        (one.0, inr (none_is policy.selects one.1))

pub for_its_tag_alone : IsForItsTagAlone
for_its_tag_alone policies policy own tag is chosen = elim (chosen_by_no_other policies policy tag chosen).1 [
  | inl by_tag ↦ sym by_tag ∙ is
  | inr by_default ↦ absurd (none-some own (sym by_default ∙ is))
]

no_default : (policies : List Policy) → default_policy policies ≡ None → (policy : Policy) → Contains policies policy → ¬ (policy.selects ≡ None)
no_default policies none policy there is = not_found selects_none policies policy none there (ap is_none is)

default_is_none : (policies : List Policy) → ((policy : Policy) → Contains policies policy → ¬ (policy.selects ≡ None)) → default_policy policies ≡ None
default_is_none policies without = by (default_policy policies) refl
  where
    by : (o : Option Policy) → default_policy policies ≡ o → o ≡ None
    by (Some other) found =
        let one = found_is selects_none policies other found in
        absurd (without other one.0 (none_is other.selects one.1))
    by None found = refl

pub none_without_default : IsNoneWithoutDefault
none_without_default policies None = (λ none. (tt, no_default policies none), λ both. default_is_none policies both.1)
none_without_default policies (Some tag) = (λ none. first (find (selects tag) policies) refl none, λ both. back (find (selects tag) policies) refl both.0 both.1)
  where
    first : (o : Option Policy) → find (selects tag) policies ≡ o → or_else o (default_policy policies) ≡ None
        → IsUnselected policies (Some tag) × ((policy : Policy) → Contains policies policy → ¬ (policy.selects ≡ None))
    first (Some other) found none = absurd (none-some other (sym none))
    first None found none =
        (λ policy there is. not_found (selects tag) policies policy found there (selects_by tag policy.selects is), no_default policies none)

    back : (o : Option Policy) → find (selects tag) policies ≡ o → IsUnselected policies (Some tag)
        → ((policy : Policy) → Contains policies policy → ¬ (policy.selects ≡ None)) → or_else o (default_policy policies) ≡ None
    back (Some other) found unselected without =
        let one = found_is (selects tag) policies other found in
        absurd (unselected other one.0 (selects_is tag other.selects one.1))
    back None found unselected without = default_is_none policies without

-- ---- what is lent of the policies

-- what is chosen is one of the policies
pub chosen_is_one : (policies : List Policy) (tag : Option (List ℕ)) (policy : Policy) → policy_for policies tag ≡ Some policy → Contains policies policy
chosen_is_one policies tag policy e = (chosen_by_no_other policies policy tag e).0

-- what holds of each policy holds of the one that is lent
pub lent_has : (P : Policy → Type 0) (policies slice : List Policy) (tag : Option (List ℕ)) (lent : Option (Bor Policy))
    → option_copied lent ≡ policy_for slice tag → slice ≡ policies → All P policies → IfSome lent (λ policy. P policy.now)
lent_has P policies slice tag None e same each = tt
lent_has P policies slice tag (Some policy) e same each =
    All-contains P policies policy.now each (chosen_is_one policies tag policy.now (sym (e ∙ ap (λ l. policy_for l tag) same)))
