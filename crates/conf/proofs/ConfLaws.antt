-- A document that was judged and read is a valid configuration.
use Rattle.std.proofs.Common.{◌≡◌, ℕ, pos, Option, Some, None, IsTrue, List, codes, refl, sym, ◌∙◌, arith}
use Rattle.std.specs.Prelude.{option_and_then}
use Rattle.std.specs.FinMap as map
use Rattle.std.proofs.lemmas.Bool.Decides.{nat_tests}
use Rattle.component_ids.specs.Types.{KindMap}
use Rattle.component_ids.specs.declared.scheme.Scheme.{Scheme}
use Rattle.toml.specs.Data.{Data, Members, string, integer, table, as_str, get_member}
use Rattle.settings.specs.declared.gateway_conf.GatewayConf.{GatewayConf}
use Rattle.settings.specs.declared.policy.Policy.{Policy}
use Rattle.settings.specs.declared.sign_conf.SignConf.{SignConf}
use Rattle.conf_values.specs.declared.table.TableName.TheVariants.{Sign}
use Rattle.conf_values.specs.declared.table.ValueRule.TheVariants as rule
use Rattle.settings.specs.Keys.{KeyMap}
use Rattle.conf.specs.Sections.{ArePolicies, HasSign, IsSignConf, kept_nonces, seconds_of}
use Rattle.settings.specs.Configuration.{Configuration}
use Rattle.conf.specs.Meaning.{AreKeys, IsConfiguration}
use Rattle.conf.specs.Laws.{IsValidWhereRead}
use Rattle.conf.specs.Rows.{fails}
use Rattle.settings.specs.ValidSections.{AreValidSeconds}
use Rattle.settings.specs.Valid.{IsValid, IsValidSign}
use Rattle.conf_values.specs.Values.{is_allowed}
use Rattle.conf.specs.tools.Judged.{IsJudged}
use Rattle.conf.specs.Table.{version_in}
use Rattle.conf.specs.tools.SectionReads.{value_of}
use Rattle.conf.proofs.KeyTextLaws.{keys_of_document, key_is_there, valid_keyids, valid_keys}
use Rattle.conf.proofs.GatewayLaws.{valid_gateway}
use Rattle.conf.proofs.ListLaws.{valid_components}
use Rattle.conf.proofs.PolicyLaws.{valid_nonces, valid_policies, valid_tag}
use Rattle.conf.proofs.RowFacts.{passes, seconds_allowed, keyid_allowed, label_allowed, tag_allowed}

valid_seconds : (document : Members) (value : Option Data) → (IsTrue (fails (is_allowed document rule.Seconds) value) → ⊥) → (seconds : ℕ) → seconds_of value ≡ Some seconds → AreValidSeconds seconds
valid_seconds document (Some (integer (pos n))) allowed seconds is =
    let same : n ≡ seconds = cc in
    let within = passes (is_allowed document rule.Seconds) (Some (integer (pos n))) (integer (pos n)) allowed refl in
    rw (← same) (record { some = grind (arith, nat_tests, within); few = grind (arith, nat_tests, within) })
valid_seconds document value allowed seconds is = absurd cc

-- what the table says is the value of `sign`
table_of : (value : Option Data) (sign : SignConf) → HasSign value (Some sign) → (pairs : Members) × (value ≡ Some (table pairs)) × IsSignConf pairs sign
table_of None sign has = absurd cc
table_of (Some (table pairs)) sign has = (pairs, refl, has)
table_of (Some value) sign has = absurd has

valid_sign : (document : Members) → IsJudged document → (keys : KeyMap) → AreKeys (keys_of_document document) keys → (sign : SignConf) → HasSign (get_member (codes "sign") document) (Some sign) → IsValidSign keys sign
valid_sign document judged keys are sign said =
    let has = table_of (get_member (codes "sign") document) sign said in
    let says = has.2 in
    let label : value_of document Sign (codes "label") ≡ Some (string sign.label) = rw has.1 says.label in
    let keyid : value_of document Sign (codes "keyid") ≡ Some (string sign.keyid) = rw has.1 says.keyid in
    let seconds : sign.expires_after ≡ seconds_of (value_of document Sign (codes "expires-after")) = rw has.1 says.expires_after in
    let tag : sign.tag ≡ option_and_then as_str (value_of document Sign (codes "tag")) = rw has.1 says.tag in
    record {
      label = passes (is_allowed document rule.Label) (value_of document Sign (codes "label")) (string sign.label) (label_allowed document judged) label;
      keyid = key_is_there (get_member sign.keyid (keys_of_document document)) (map.get keys sign.keyid)
          (passes (is_allowed document rule.Keyid) (value_of document Sign (codes "keyid")) (string sign.keyid) (keyid_allowed document judged) keyid) (are sign.keyid);
      components_request = valid_components _ sign.components_request says.components_request;
      components_response = valid_components _ sign.components_response says.components_response;
      expires_after = λ n there. valid_seconds document (value_of document Sign (codes "expires-after")) (seconds_allowed document judged) n (sym seconds ∙ there);
      tag = λ t there. valid_tag document (value_of document Sign (codes "tag")) (tag_allowed document judged) t (sym tag ∙ there);
    }

pub valid_signs : (document : Members) → IsJudged document → (keys : KeyMap) → AreKeys (keys_of_document document) keys → (o : Option SignConf) → HasSign (get_member (codes "sign") document) o
    → (sign : SignConf) → o ≡ Some sign → IsValidSign keys sign
valid_signs document judged keys are None said sign there = absurd cc
valid_signs document judged keys are (Some s) said sign there =
    let same : s ≡ sign = cc in
    rw (← same) (valid_sign document judged keys are s said)

-- without a table for signing and one for a gateway
pub is_valid : (document : Members) → IsJudged document → (scheme : Scheme) (keys : KeyMap) (types : KindMap) (policies : List Policy) → AreKeys (keys_of_document document) keys
    → ArePolicies (version_in document) document policies
    → IsValid (record { scheme = scheme; keys = keys; types = types; policies = policies; nonces = kept_nonces (version_in document) document; sign = None; gateway = None })
is_valid document judged scheme keys types policies are say = record {
  keyids = valid_keyids document judged keys are;
  keys = valid_keys document keys are;
  policies = valid_policies document (version_in document) policies judged say;
  least_nonces = (valid_nonces document (version_in document) judged).0;
  most_nonces = (valid_nonces document (version_in document) judged).1;
  sign = λ sign there. absurd cc;
  gateway = λ gateway there. absurd cc;
}

-- a configuration with this in place of what it says of signing
abbrev pub with_sign : Configuration → Option SignConf → Configuration
with_sign conf sign =
    record { scheme = conf.scheme; keys = conf.keys; types = conf.types; policies = conf.policies; nonces = conf.nonces; sign = sign; gateway = conf.gateway }

pub sign_kept : (conf : Configuration) (sign : Option SignConf) → conf.sign ≡ sign → conf ≡ with_sign conf sign
sign_kept conf sign same = λ i.
    record { scheme = conf.scheme; keys = conf.keys; types = conf.types; policies = conf.policies; nonces = conf.nonces; sign = same i; gateway = conf.gateway }

-- or of a gateway
abbrev pub with_gateway : Configuration → Option GatewayConf → Configuration
with_gateway conf gateway =
    record { scheme = conf.scheme; keys = conf.keys; types = conf.types; policies = conf.policies; nonces = conf.nonces; sign = conf.sign; gateway = gateway }

pub gateway_kept : (conf : Configuration) (gateway : Option GatewayConf) → conf.gateway ≡ gateway → conf ≡ with_gateway conf gateway
gateway_kept conf gateway same = λ i.
    record { scheme = conf.scheme; keys = conf.keys; types = conf.types; policies = conf.policies; nonces = conf.nonces; sign = conf.sign; gateway = same i }

-- what a document says of a configuration it says of an equal one
pub same_says : (document : Members) (conf other : Configuration) → conf ≡ other → IsConfiguration document other → IsConfiguration document conf
same_says document conf other same says = rw same says

-- ---- a text that is a configuration

pub valid_where_read : IsValidWhereRead
valid_where_read text conf configures =
    let document = configures.0 in
    let says = configures.2 in
    let judged : IsJudged document = record { known = says.known; typed = says.typed; allowed = says.allowed } in
    let nonces = valid_nonces document (version_in document) judged in
    record {
      keyids = valid_keyids document judged conf.keys says.keys;
      keys = valid_keys document conf.keys says.keys;
      policies = valid_policies document (version_in document) conf.policies judged says.policies;
      least_nonces = rw says.nonces nonces.0;
      most_nonces = rw says.nonces nonces.1;
      sign = valid_signs document judged conf.keys says.keys conf.sign says.sign;
      gateway = valid_gateway document conf.gateway judged says.gateway;
    }
