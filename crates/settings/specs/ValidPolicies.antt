-- What holds of the policies of every configuration.
use Rattle.std.specs.Prelude.{◌≡◌, ◌≤◌, ◌<◌, ℕ, Some, List, length, slice_get}
use Rattle.std.specs.List.{All}
use Rattle.settings.specs.ValidSections.{IsValidPolicy}
use Rattle.settings.specs.declared.limits.TheConstants.{MAX_POLICIES}
use Rattle.settings.specs.declared.policy.Policy.{Policy}

-- no two of them select one tag, or none
abbrev pub SelectDistinct : List Policy → Type 0
SelectDistinct policies =
    (i j : ℕ) (policy other : Policy) → i < j
    → slice_get policies i ≡ Some policy → slice_get policies j ≡ Some other
    → ¬ (policy.selects ≡ other.selects)

-- there is one at least, each is valid, and no two are for the same signatures
pub record AreValidPolicies (policies : List Policy) : Type 0 where
  pub some : 1 ≤ length policies
  pub few : length policies ≤ MAX_POLICIES
  pub each : All IsValidPolicy policies
  pub distinct : SelectDistinct policies
