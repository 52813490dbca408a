-- What the tables of a configuration say.
use Rattle.std.specs.Prelude.{◌≡◌, ℕ, pos, Bool, false, Option, Some, None, IsSomeAnd, option_and_then, unwrap_or, List, [], ◌∷◌, codes}
use Rattle.std.specs.List.{AllZip}
use Rattle.toml.specs.Data.{Data, Members, no_members, string, integer, array, table, as_str, as_bool, get_member}
use Rattle.component_ids.specs.declared.id.ComponentId.{ComponentId}
use Rattle.nonces.specs.declared.limits.TheConstants.{MAX_ENTRIES}
use Rattle.settings.specs.declared.limits.TheConstants.{DEFAULT_MAX_AGE, DEFAULT_SKEW}
use Rattle.settings.specs.Covered.{IsCoveredList}
use Rattle.settings.specs.Words.{digest_use_of_word, expires_of_word, nonce_use_of_word, sign_digest_of_word}
use Rattle.rewrite_script.specs.declared.rewrite.Rewrite.{Rewrite}
use Rattle.conf_values.specs.declared.table.TableName.TheVariants as place
use Rattle.conf_values.specs.declared.table.Version.{Version}
use Rattle.conf_values.specs.declared.table.Version.TheVariants.{One, Two}
use Rattle.conf.specs.Table.{members_at, tables_in}
use Rattle.conf_values.specs.Parts.{values_of}
use Rattle.conf_values.specs.Values.{IsStepText, number_or, tag_in}
use Rattle.settings.specs.declared.gateway_conf.GatewayConf.{GatewayConf}
use Rattle.settings.specs.declared.policy.Policy.{Policy}
use Rattle.settings.specs.declared.policy.NonceUse.{NonceUse}
use Rattle.settings.specs.declared.policy.NonceUse.TheVariants as nonce
use Rattle.settings.specs.declared.policy.DigestUse.{DigestUse}
use Rattle.settings.specs.declared.policy.DigestUse.TheVariants as digest
use Rattle.settings.specs.declared.sign_conf.SignConf.{SignConf}
use Rattle.settings.specs.declared.sign_conf.SignDigest.{SignDigest}
use Rattle.settings.specs.declared.sign_conf.SignDigest.TheVariants.{No}

-- ---- the values of keys

-- the components of a covered list; none where nothing is said
abbrev pub AreComponents : Option Data → List ComponentId → Type 0
AreComponents None ids = ids ≡ []
AreComponents (Some (string text)) ids = IsCoveredList text ids
AreComponents (Some value) ids = ⊥

-- a number of seconds; none where nothing is said
abbrev pub seconds_of : Option Data → Option ℕ
seconds_of (Some (integer (pos n))) = Some n
seconds_of value = None

-- the digest that signing adds; none where nothing is said
abbrev pub digest_of : Option Data → SignDigest
digest_of (Some (string word)) = unwrap_or (sign_digest_of_word word) No
digest_of value = No

-- `expires` is required; not where nothing is said
abbrev pub is_required : Option Data → Bool
is_required (Some (string word)) = unwrap_or (expires_of_word word) false
is_required value = false

-- what is asked of `nonce`; it is ignored where nothing is said
abbrev pub nonce_use_of : Option Data → NonceUse
nonce_use_of (Some (string word)) = unwrap_or (nonce_use_of_word word) nonce.Ignore
nonce_use_of value = nonce.Ignore

-- when a digest is asked for; it is ignored where nothing is said
abbrev pub digest_use_of : Option Data → DigestUse
digest_use_of (Some (string word)) = unwrap_or (digest_use_of_word word) digest.Ignore
digest_use_of value = digest.Ignore

-- ---- tables

-- the tag of the signatures that a policy is for, which version 2 has
abbrev pub selected_tag : Version → Members → Option (List ℕ)
selected_tag One pairs = None
selected_tag Two pairs = tag_in pairs

-- the tag that a policy asks of all signatures, which version 1 has
abbrev pub asked_tag : Version → Members → Option (List ℕ)
asked_tag One pairs = tag_in pairs
asked_tag Two pairs = None

-- what a table says of a policy; where there is none, its pairs are none
pub record IsPolicy (version : Version) (pairs : Members) (policy : Policy) : Type 0 where
  pub selects : policy.selects ≡ selected_tag version pairs
  pub max_age : policy.max_age ≡ number_or DEFAULT_MAX_AGE (get_member (codes "max-age") pairs)
  pub skew : policy.skew ≡ number_or DEFAULT_SKEW (get_member (codes "skew") pairs)
  pub require_request :
      AreComponents (get_member (codes "require-request") pairs) policy.require_request
  pub require_response :
      AreComponents (get_member (codes "require-response") pairs) policy.require_response
  pub expires : policy.expires ≡ is_required (get_member (codes "expires") pairs)
  pub nonce : policy.nonce ≡ nonce_use_of (get_member (codes "nonce") pairs)
  pub tag : policy.tag ≡ asked_tag version pairs
  pub digest : policy.digest ≡ digest_use_of (get_member (codes "digest") pairs)

-- the tables of `policies`; one without pairs where nothing is said
abbrev pub policy_tables : Option Data → List Members
policy_tables None = no_members ∷ []
policy_tables value = tables_in value

-- the policies that a document of the version says, in order
abbrev pub ArePolicies : Option Version → Members → List Policy → Type 0
ArePolicies (Some One) document policies =
    AllZip (IsPolicy One) (members_at document place.Policy ∷ []) policies
ArePolicies (Some Two) document policies =
    AllZip (IsPolicy Two) (policy_tables (get_member (codes "policies") document)) policies
ArePolicies None document policies = ⊥

-- how many nonces are remembered, by a document of the version
abbrev pub kept_nonces : Option Version → Members → ℕ
kept_nonces (Some Two) document = number_or MAX_ENTRIES (get_member (codes "nonces") document)
kept_nonces version document =
    number_or MAX_ENTRIES (get_member (codes "nonces") (members_at document place.Policy))

-- what the table `sign` says
pub record IsSignConf (pairs : Members) (sign : SignConf) : Type 0 where
  pub label : get_member (codes "label") pairs ≡ Some (string sign.label)
  pub keyid : get_member (codes "keyid") pairs ≡ Some (string sign.keyid)
  pub components_request :
      AreComponents (get_member (codes "components-request") pairs) sign.components_request
  pub components_response :
      AreComponents (get_member (codes "components-response") pairs) sign.components_response
  pub expires_after : sign.expires_after ≡ seconds_of (get_member (codes "expires-after") pairs)
  pub alg : sign.alg ≡ unwrap_or (option_and_then as_bool (get_member (codes "alg") pairs)) false
  pub tag : sign.tag ≡ option_and_then as_str (get_member (codes "tag") pairs)
  pub digest : sign.digest ≡ digest_of (get_member (codes "digest") pairs)

-- what the table `sign` says, or nothing where there is none
abbrev pub HasSign : Option Data → Option SignConf → Type 0
HasSign None sign = sign ≡ None
HasSign (Some (table pairs)) sign = IsSomeAnd sign (IsSignConf pairs)
HasSign (Some value) sign = ⊥

-- the values are the lines of the steps, in order; none where nothing is said
abbrev pub AreSteps : Option Data → List Rewrite → Type 0
AreSteps None steps = steps ≡ []
AreSteps (Some (array items)) steps = AllZip IsStepText (values_of items) steps
AreSteps (Some value) steps = ⊥

-- what the table `gateway` says
pub record IsGatewayConf (pairs : Members) (gateway : GatewayConf) : Type 0 where
  pub label : gateway.label ≡ option_and_then as_str (get_member (codes "label") pairs)
  pub steps : AreSteps (get_member (codes "steps") pairs) gateway.steps

-- what the table `gateway` says, or nothing where there is none
abbrev pub HasGateway : Option Data → Option GatewayConf → Type 0
HasGateway None gateway = gateway ≡ None
HasGateway (Some (table pairs)) gateway = IsSomeAnd gateway (IsGatewayConf pairs)
HasGateway (Some value) gateway = ⊥
