-- Laws of the choice of a policy.
use Rattle.std.specs.Prelude.{◌≡◌, ◌⊎◌, ◌↔◌, ℕ, Option, Some, None, List}
use Rattle.std.specs.List.{Contains}
use Rattle.settings.specs.Chosen.{policy_for}
use Rattle.settings.specs.ValidPolicies.{AreValidPolicies}
use Rattle.settings.specs.declared.policy.Policy.{Policy}

-- a policy that selects the tag is chosen for it
abbrev pub IsChosenByTag : Type 0
IsChosenByTag =
    (policies : List Policy) (policy : Policy) (tag : List ℕ)
    → AreValidPolicies policies → Contains policies policy → policy.selects ≡ Some tag
    → policy_for policies (Some tag) ≡ Some policy

-- no policy selects the tag, where there is one
abbrev pub IsUnselected : List Policy → Option (List ℕ) → Type 0
IsUnselected policies None = Unit {0}
IsUnselected policies (Some tag) =
    (policy : Policy) → Contains policies policy → ¬ (policy.selects ≡ Some tag)

-- a policy that selects no tag is chosen where no other is
abbrev pub IsDefaultWithoutTag : Type 0
IsDefaultWithoutTag =
    (policies : List Policy) (policy : Policy) (tag : Option (List ℕ))
    → AreValidPolicies policies → Contains policies policy → policy.selects ≡ None
    → IsUnselected policies tag → policy_for policies tag ≡ Some policy

-- a policy that is chosen is one of them, and selects the tag or none
abbrev pub IsChosenByNoOther : Type 0
IsChosenByNoOther =
    (policies : List Policy) (policy : Policy) (tag : Option (List ℕ))
    → policy_for policies tag ≡ Some policy
    → Contains policies policy × ((policy.selects ≡ tag) ⊎ (policy.selects ≡ None))

-- a policy that selects a tag is chosen for that tag alone
abbrev pub IsForItsTagAlone : Type 0
IsForItsTagAlone =
    (policies : List Policy) (policy : Policy) (own : List ℕ) (tag : Option (List ℕ))
    → policy.selects ≡ Some own → policy_for policies tag ≡ Some policy → tag ≡ Some own

-- none is chosen exactly where none selects the tag, and none selects no tag
abbrev pub IsNoneWithoutDefault : Type 0
IsNoneWithoutDefault =
    (policies : List Policy) (tag : Option (List ℕ))
    → (policy_for policies tag ≡ None)
    ↔ (IsUnselected policies tag
    × ((policy : Policy) → Contains policies policy → ¬ (policy.selects ≡ None)))
