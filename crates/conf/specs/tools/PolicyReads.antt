-- What the parts of the reader of policies answer. No public clause cites this module.
use Rattle.std.specs.Prelude.{◌≡◌, Option, Some, List, [], ◌∷◌, codes}
use Rattle.std.specs.List.{AllZip}
use Rattle.toml.specs.Data.{Members, get_member}
use Rattle.conf_values.specs.declared.table.TableName.TheVariants.{Policy as PolicyTable}
use Rattle.conf_values.specs.declared.table.Version.{Version}
use Rattle.conf_values.specs.declared.table.Version.TheVariants.{One, Two}
use Rattle.conf.specs.Table.{members_at, version_in}
use Rattle.conf_values.specs.Values.{number_or}
use Rattle.conf.specs.Sections.{asked_tag, digest_use_of, is_required, nonce_use_of, policy_tables, selected_tag}
use Rattle.conf.specs.tools.SectionReads.{IsGoodList, IsToldList}
use Rattle.settings.specs.declared.limits.TheConstants.{DEFAULT_MAX_AGE, DEFAULT_SKEW}
use Rattle.settings.specs.declared.policy.Policy.{Policy}

-- no list of a table of policies is bad
pub record HasGoodLists (pairs : Members) : Type 0 where
  pub request : IsGoodList (get_member (codes "require-request") pairs)
  pub response : IsGoodList (get_member (codes "require-response") pairs)

-- what is read of a table, whose lists aren't bad
pub record IsReadPolicy (version : Version) (pairs : Members) (policy : Policy) : Type 0 where
  pub selects : policy.selects ≡ selected_tag version pairs
  pub max_age : policy.max_age ≡ number_or DEFAULT_MAX_AGE (get_member (codes "max-age") pairs)
  pub skew : policy.skew ≡ number_or DEFAULT_SKEW (get_member (codes "skew") pairs)
  pub require_request :
      IsToldList (get_member (codes "require-request") pairs) policy.require_request
  pub require_response :
      IsToldList (get_member (codes "require-response") pairs) policy.require_response
  pub expires : policy.expires ≡ is_required (get_member (codes "expires") pairs)
  pub nonce : policy.nonce ≡ nonce_use_of (get_member (codes "nonce") pairs)
  pub tag : policy.tag ≡ asked_tag version pairs
  pub digest : policy.digest ≡ digest_use_of (get_member (codes "digest") pairs)

-- what is read of the tables of a document of the version; one of no version is read as the first
abbrev pub AreReadOf : Option Version → Members → List Policy → Type 0
AreReadOf (Some Two) document policies =
    AllZip (IsReadPolicy Two) (policy_tables (get_member (codes "policies") document)) policies
AreReadOf version document policies =
    AllZip (IsReadPolicy One) (members_at document PolicyTable ∷ []) policies

-- what is read of a document
abbrev pub AreReadPolicies : Members → List Policy → Type 0
AreReadPolicies document policies = AreReadOf (version_in document) document policies
