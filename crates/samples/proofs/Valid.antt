-- By what a sample is judged, and how it is signed, is valid.
use Rattle.std.specs.Prelude.{⊤}
use Rattle.std.proofs.Common.{◌≡◌, ℕ, List, [], ◌∷◌, ◌++◌, length, map as mapped, None, codes, refl, ap, ◌∙◌, arith}
use Rattle.std.specs.FinMap as map
use Rattle.std.specs.List.{All}
use Rattle.std.specs.Ordering.{nat_cmp}
use Rattle.std.specs.Cmp.Lexicographic.{slice_cmp}
use Rattle.std.proofs.lemmas.List.Elements.{All-cons, All-nil}
use Rattle.std.proofs.lemmas.List.Kept.{AllPairs-cons}
use Rattle.std.proofs.lemmas.Option.{slice_get_within}
use Rattle.component_ids.specs.Types.{KindMap, standard_types}
use Rattle.component_ids.specs.Identifiers.{IsSameId, AreDistinct}
use Rattle.component_ids.specs.declared.id.ComponentId.{ComponentId}
use Rattle.component_ids.specs.declared.scheme.Scheme.TheVariants.{Https}
use Rattle.nonces.specs.declared.limits.TheConstants.{MAX_ENTRIES}
use Rattle.settings.specs.Configuration.{Configuration}
use Rattle.settings.specs.Keys.{KeyMap}
use Rattle.settings.specs.Standard.{standard_policy}
use Rattle.settings.specs.Valid.{IsValid}
use Rattle.settings.specs.ValidPolicies.{AreValidPolicies}
use Rattle.settings.specs.ValidSections.{AreValidComponents, IsValidPolicy}
use Rattle.settings.specs.declared.policy.Policy.{Policy}
use Rattle.settings.specs.declared.policy.DigestUse.TheVariants.{Always}
use Rattle.signing.specs.Specs.{IsValidSpec}
use Rattle.samples.specs.Requests.{always_digested, plain, sample_configuration, sample_key, sample_keyid, sample_params, sample_spec}

-- ---- the configuration

none_valid : AreValidComponents []
none_valid = record {
  components = record { few = omega arith; each = refl; distinct = λ i j d lt more. absurd (omega arith); typed = refl };
  in_range = refl;
}

policy_valid : IsValidPolicy always_digested
policy_valid = record {
  least_age = omega arith;
  most_age = omega arith;
  most_skew = omega arith;
  window = omega arith;
  require_request = none_valid;
  require_response = none_valid;
  selects = λ tag there. absurd cc;
  tag = λ tag there. absurd cc;
}

policies_valid : AreValidPolicies (always_digested ∷ [])
policies_valid = record {
  some = omega arith;
  few = omega arith;
  each = All-cons IsValidPolicy always_digested [] policy_valid (All-nil IsValidPolicy);
  distinct = λ i j first other before here there.
      let inside = slice_get_within (always_digested ∷ []) j other there in
      absurd (omega arith);
}

-- where there are no keys, a keyid has none
pub no_key : (keys : KeyMap) → keys ≡ map.empty → (keyid : List ℕ) → map.get keys keyid ≡ None
no_key keys is keyid = ap (λ (m : KeyMap). map.get m keyid) is ∙ map.get-empty (slice_cmp nat_cmp) keyid

-- the policy, with a digest always asked for
abbrev always : Policy → Policy
always p = record {
  selects = p.selects;
  max_age = p.max_age;
  skew = p.skew;
  require_request = p.require_request;
  require_response = p.require_response;
  expires = p.expires;
  nonce = p.nonce;
  tag = p.tag;
  digest = Always;
}

-- the policies after that one is added to none
pub policies_are : (none some : List Policy) (policy : Policy) → none ≡ [] → policy ≡ standard_policy → some ≡ none ++ always policy ∷ [] → some ≡ always_digested ∷ []
policies_are none some policy empty is added = added ∙ ap (λ l. l ++ always policy ∷ []) empty ∙ ap (λ p. always p ∷ []) is

-- these parts, before the key is added
abbrev keyless : KeyMap → KindMap → List Policy → Configuration
keyless keys types policies = record { scheme = Https; keys = keys; types = types; policies = policies; nonces = MAX_ENTRIES; sign = None; gateway = None }

pub conf_valid : (keys : KeyMap) (types : KindMap) (policies : List Policy) → keys ≡ map.empty → policies ≡ always_digested ∷ [] → IsValid (keyless keys types policies)
conf_valid keys types policies keys_are are = record {
  keyids = λ keyid key there. absurd (cc (no_key keys keys_are keyid, there));
  keys = λ keyid key there. absurd (cc (no_key keys keys_are keyid, there));
  policies = rw are policies_valid;
  least_nonces = omega arith;
  most_nonces = omega arith;
  sign = λ sign there. absurd cc;
  gateway = λ gateway there. absurd cc;
}

pub without_key : (conf : Configuration) (keys : KeyMap) (types : KindMap) (policies : List Policy)
    → conf ≡ keyless keys types policies → keys ≡ map.empty → conf.keys ≡ map.empty
without_key conf keys types policies is empty = ap (λ (c : Configuration). c.keys) is ∙ empty

-- a configuration of these parts, and then with the key
pub conf_is : (conf old : Configuration) (keys : KeyMap) (types : KindMap) (policies : List Policy)
    → old ≡ keyless keys types policies → keys ≡ map.empty → types ≡ standard_types → policies ≡ always_digested ∷ []
    → conf.keys ≡ map.insert old.keys sample_keyid sample_key → conf.scheme ≡ old.scheme → conf.types ≡ old.types → conf.policies ≡ old.policies
    → conf.nonces ≡ old.nonces → conf.sign ≡ old.sign → conf.gateway ≡ old.gateway → conf ≡ sample_configuration
conf_is conf old keys types policies is empty types_are are new scheme types_stay policies_stay nonces sign gateway =
    let keys_are = new ∙ ap (λ (m : KeyMap). map.insert m sample_keyid sample_key) (without_key old keys types policies is empty) in
    let types_is = types_stay ∙ (ap (λ (c : Configuration). c.types) is ∙ types_are) in
    let policies_is = policies_stay ∙ (ap (λ (c : Configuration). c.policies) is ∙ are) in
    let nonces_is = nonces ∙ ap (λ (c : Configuration). c.nonces) is in
    let scheme_is = scheme ∙ ap (λ (c : Configuration). c.scheme) is in
    let sign_is = sign ∙ ap (λ (c : Configuration). c.sign) is in
    let gateway_is = gateway ∙ ap (λ (c : Configuration). c.gateway) is in
    λ i. record { scheme = scheme_is i; keys = keys_are i; types = types_is i; policies = policies_is i; nonces = nonces_is i; sign = sign_is i; gateway = gateway_is i }

-- ---- the parameters of the signature

-- the name has another length than each of these
abbrev IsApart : List ℕ → List (List ℕ) → Type 0
IsApart a [] = ⊤
IsApart a (b ∷ names) = (¬ (length a ≡ length b)) × IsApart a names

-- no two names have one length
abbrev AreApart : List (List ℕ) → Type 0
AreApart [] = ⊤
AreApart (a ∷ names) = IsApart a names × AreApart names

abbrev Differ : ComponentId → ComponentId → Type 0
Differ a b = ¬ IsSameId a b

differs : (a : List ℕ) (names : List (List ℕ)) → IsApart a names → All (Differ (plain a)) (mapped plain names)
differs a [] apart = λ k d lt. absurd (omega arith)
differs a (b ∷ names) apart =
    All-cons (Differ (plain a)) (plain b) (mapped plain names) (λ same. apart.0 (ap length same.names)) (differs a names apart.1)

all_differ : (names : List (List ℕ)) → AreApart names → AreDistinct (mapped plain names)
all_differ [] apart = λ i j d lt more. absurd (omega arith)
all_differ (a ∷ names) apart =
    AllPairs-cons Differ (plain a) (mapped plain names) (differs a names apart.0) (all_differ names apart.1)

abbrev names : List (List ℕ)
names = codes "@method" ∷ codes "@authority" ∷ codes "@path" ∷ codes "date" ∷ codes "content-digest" ∷ []

are_apart : AreApart names
are_apart = (
  (λ e. omega arith, (λ e. omega arith, (λ e. omega arith, (λ e. omega arith, tt)))),
  ((λ e. omega arith, (λ e. omega arith, (λ e. omega arith, tt))), ((λ e. omega arith, (λ e. omega arith, tt)), ((λ e. omega arith, tt), (tt, tt)))),
)

distinct : AreDistinct sample_params.ids
distinct = all_differ names are_apart

pub spec_valid : IsValidSpec sample_spec
spec_valid = record {
  label = refl;
  params = record { few = omega arith; each = refl; distinct = distinct; typed = refl };
  in_range = refl;
}
