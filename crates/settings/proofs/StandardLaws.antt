-- The configuration where nothing is said is valid.
use Rattle.std.proofs.Common.{◌≡◌, ◌++◌, ℕ, List, [], ◌∷◌, None, Some, refl, ap, ◌∙◌, arith}
use Rattle.std.specs.FinMap as map
use Rattle.std.specs.Ordering.{nat_cmp}
use Rattle.std.specs.Cmp.Lexicographic.{slice_cmp}
use Rattle.std.proofs.lemmas.List.Elements.{All-cons, All-nil}
use Rattle.std.proofs.lemmas.Option.{slice_get_within}
use Rattle.component_ids.specs.Types.{KindMap}
use Rattle.component_ids.specs.declared.scheme.Scheme.TheVariants.{Https}
use Rattle.nonces.specs.declared.limits.TheConstants.{MAX_ENTRIES}
use Rattle.settings.specs.declared.policy.Policy.{Policy}
use Rattle.settings.specs.Keys.{KeyMap}
use Rattle.settings.specs.Standard.{standard_policy}
use Rattle.settings.specs.Valid.{IsValid}
use Rattle.settings.specs.ValidPolicies.{AreValidPolicies}
use Rattle.settings.specs.ValidSections.{AreValidComponents, IsValidPolicy}

pub none_valid : AreValidComponents []
none_valid = record {
  components = record { few = omega arith; each = refl; distinct = λ i j d lt more. absurd (omega arith); typed = refl };
  in_range = refl;
}

policy_valid : IsValidPolicy standard_policy
policy_valid = record {
  least_age = omega arith;
  most_age = omega arith;
  most_skew = omega arith;
  window = omega arith;
  require_request = none_valid;
  require_response = none_valid;
  selects = λ tag there. absurd cc;
  tag = λ tag there. absurd cc;
}

-- a valid policy alone
pub one_valid : (policy : Policy) → IsValidPolicy policy → AreValidPolicies (policy ∷ [])
one_valid policy valid = record {
  some = omega arith;
  few = omega arith;
  each = All-cons IsValidPolicy policy [] valid (All-nil IsValidPolicy);
  distinct = λ i j first other before here there.
      let inside = slice_get_within (policy ∷ []) j other there in
      absurd (omega arith);
}

-- a policy that is added to none
pub added_alone : (old new : List Policy) (policy standard : Policy) → old ≡ [] → policy ≡ standard → new ≡ old ++ policy ∷ [] → new ≡ standard ∷ []
added_alone old new policy standard none is added = added ∙ ap (λ l. l ++ policy ∷ []) none ∙ ap (λ p. p ∷ []) is

pub no_key : (keys : KeyMap) → keys ≡ map.empty → (keyid key : List ℕ) → ¬ (map.get keys keyid ≡ Some key)
no_key keys is keyid key there =
    let gone : map.get keys keyid ≡ None = ap (λ (m : KeyMap). map.get m keyid) is ∙ map.get-empty (slice_cmp nat_cmp) keyid in
    absurd (cc (gone, there))

pub standard_valid : (keys : KeyMap) (types : KindMap) (policies : List Policy) → keys ≡ map.empty → policies ≡ standard_policy ∷ []
    → IsValid (record { scheme = Https; keys = keys; types = types; policies = policies; nonces = MAX_ENTRIES; sign = None; gateway = None })
standard_valid keys types policies keys_are policies_are = record {
  keyids = λ keyid key there. absurd (no_key keys keys_are keyid key there);
  keys = λ keyid key there. absurd (no_key keys keys_are keyid key there);
  policies = rw policies_are (one_valid standard_policy policy_valid);
  least_nonces = omega arith;
  most_nonces = omega arith;
  sign = λ sign there. absurd cc;
  gateway = λ gateway there. absurd cc;
}
