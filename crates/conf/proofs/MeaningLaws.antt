-- A text is one configuration.
use Rattle.std.proofs.Common.{◌≡◌, ℕ, Option, Some, None, List, [], ◌∷◌, codes, refl, sym, ap, ◌∙◌}
use Rattle.std.specs.FinMap as map
use Rattle.std.specs.List.{AllZip}
use Rattle.std.proofs.lemmas.Cmp.{nat_list_cmp_total}
use Rattle.component_ids.specs.Types.{KindMap}
use Rattle.toml.specs.Data.{Data, Members, string, table, get_member}
use Rattle.conf_values.specs.declared.table.TableName.TheVariants as place
use Rattle.conf_values.specs.declared.table.Version.{Version}
use Rattle.conf_values.specs.declared.table.Version.TheVariants.{One, Two}
use Rattle.conf.specs.Table.{members_at, members_in, version_in}
use Rattle.conf_values.specs.Values.{IsKeyText}
use Rattle.settings.specs.declared.gateway_conf.GatewayConf.{GatewayConf}
use Rattle.settings.specs.declared.policy.Policy.{Policy}
use Rattle.settings.specs.declared.sign_conf.SignConf.{SignConf}
use Rattle.conf.specs.Sections.{ArePolicies, HasGateway, HasSign, IsGatewayConf, IsPolicy, IsSignConf, policy_tables}
use Rattle.settings.specs.Configuration.{Configuration}
use Rattle.settings.specs.Keys.{KeyMap}
use Rattle.conf.specs.Meaning.{AreKeys, AreTypes, Configures, HasKey, IsConfiguration}
use Rattle.conf.proofs.CauseLaws.{one_document}
use Rattle.conf.proofs.KeyLaws.{key_is}
use Rattle.conf.proofs.ListLaws.{components_are}
use Rattle.conf.proofs.StepLaws.{steps_are}

-- ---- keys

one_key : (text key other : List ℕ) → IsKeyText text key → IsKeyText text other → key ≡ other
one_key text key other first second = inside key other (key_is text key first ∙ sym (key_is text other second)) where
  inside : (a b : List ℕ) → Some a ≡ Some b → a ≡ b
  inside a b same = cc

has_one_key : (value : Option Data) (key other : Option (List ℕ)) → HasKey value key → HasKey value other → key ≡ other
has_one_key None key other first second = first ∙ sym second
has_one_key (Some (string text)) (Some key) (Some other) first second = ap (λ (k : List ℕ). Some k) (one_key text key other first second)
has_one_key (Some (string text)) None other first second = absurd first
has_one_key (Some (string text)) (Some key) None first second = absurd second
has_one_key (Some value) key other first second = absurd first

keys_are : (pairs : Members) (keys other : KeyMap) → AreKeys pairs keys → AreKeys pairs other → keys ≡ other
keys_are pairs keys other first second =
    map.same_map nat_list_cmp_total (map.slice_cmp-IsAntisymmetric map.nat_cmp-IsAntisymmetric) keys other (λ keyid.
    has_one_key (get_member keyid pairs) (map.get keys keyid) (map.get other keyid) (first keyid) (second keyid))

types_are : (pairs : Members) (types other : KindMap) → AreTypes pairs types → AreTypes pairs other → types ≡ other
types_are pairs types other first second =
    map.same_map nat_list_cmp_total (map.slice_cmp-IsAntisymmetric map.nat_cmp-IsAntisymmetric) types other (λ name. first name ∙ sym (second name))

-- ---- the tables

one_policy : (version : Version) (pairs : Members) (policy other : Policy) → IsPolicy version pairs policy → IsPolicy version pairs other → policy ≡ other
one_policy version pairs policy other a b =
    let selects : policy.selects ≡ other.selects = a.selects ∙ sym b.selects in
    let max_age : policy.max_age ≡ other.max_age = a.max_age ∙ sym b.max_age in
    let skew : policy.skew ≡ other.skew = a.skew ∙ sym b.skew in
    let request : policy.require_request ≡ other.require_request = components_are _ policy.require_request other.require_request a.require_request b.require_request in
    let response : policy.require_response ≡ other.require_response = components_are _ policy.require_response other.require_response a.require_response b.require_response in
    let expires : policy.expires ≡ other.expires = a.expires ∙ sym b.expires in
    let nonce : policy.nonce ≡ other.nonce = a.nonce ∙ sym b.nonce in
    let tag : policy.tag ≡ other.tag = a.tag ∙ sym b.tag in
    let digest : policy.digest ≡ other.digest = a.digest ∙ sym b.digest in
    λ i. record {
      selects = selects i;
      max_age = max_age i;
      skew = skew i;
      require_request = request i;
      require_response = response i;
      expires = expires i;
      nonce = nonce i;
      tag = tag i;
      digest = digest i;
    }

one_list : (version : Version) (tables : List Members) (policies others : List Policy) → AllZip (IsPolicy version) tables policies → AllZip (IsPolicy version) tables others
    → policies ≡ others
one_list version [] [] [] first second = refl
one_list version [] [] (other ∷ others) first second = absurd second
one_list version [] (policy ∷ policies) others first second = absurd first
one_list version (pairs ∷ tables) [] others first second = absurd first
one_list version (pairs ∷ tables) (policy ∷ policies) [] first second = absurd second
one_list version (pairs ∷ tables) (policy ∷ policies) (other ∷ others) first second =
    let here = one_policy version pairs policy other first.0 second.0 in
    let later = one_list version tables policies others first.1 second.1 in
    λ i. here i ∷ later i

policies_are : (document : Members) (version : Option Version) (policies others : List Policy) → ArePolicies version document policies → ArePolicies version document others
    → policies ≡ others
policies_are document None policies others first second = absurd first
policies_are document (Some One) policies others first second = one_list One (members_at document place.Policy ∷ []) policies others first second
policies_are document (Some Two) policies others first second =
    one_list Two (policy_tables (get_member (codes "policies") document)) policies others first second

string_is : (a b : List ℕ) → Some (string a) ≡ Some (string b) → a ≡ b
string_is a b same = cc

one_sign : (pairs : Members) (sign other : SignConf) → IsSignConf pairs sign → IsSignConf pairs other → sign ≡ other
one_sign pairs sign other a b =
    let label : sign.label ≡ other.label = string_is sign.label other.label (sym a.label ∙ b.label) in
    let keyid : sign.keyid ≡ other.keyid = string_is sign.keyid other.keyid (sym a.keyid ∙ b.keyid) in
    let request : sign.components_request ≡ other.components_request = components_are _ sign.components_request other.components_request a.components_request b.components_request in
    let response : sign.components_response ≡ other.components_response = components_are _ sign.components_response other.components_response a.components_response b.components_response in
    let expires : sign.expires_after ≡ other.expires_after = a.expires_after ∙ sym b.expires_after in
    let alg : sign.alg ≡ other.alg = a.alg ∙ sym b.alg in
    let tag : sign.tag ≡ other.tag = a.tag ∙ sym b.tag in
    let digest : sign.digest ≡ other.digest = a.digest ∙ sym b.digest in
    λ i. record {
      label = label i;
      keyid = keyid i;
      components_request = request i;
      components_response = response i;
      expires_after = expires i;
      alg = alg i;
      tag = tag i;
      digest = digest i;
    }

signs_are : (value : Option Data) (sign other : Option SignConf) → HasSign value sign → HasSign value other → sign ≡ other
signs_are None sign other first second = first ∙ sym second
signs_are (Some (table pairs)) (Some sign) (Some other) first second = ap (λ (s : SignConf). Some s) (one_sign pairs sign other first second)
signs_are (Some (table pairs)) None other first second = absurd first
signs_are (Some (table pairs)) (Some sign) None first second = absurd second
signs_are (Some value) sign other first second = absurd first

one_gateway : (pairs : Members) (gateway other : GatewayConf) → IsGatewayConf pairs gateway → IsGatewayConf pairs other → gateway ≡ other
one_gateway pairs gateway other a b =
    let label : gateway.label ≡ other.label = a.label ∙ sym b.label in
    let steps : gateway.steps ≡ other.steps = steps_are _ gateway.steps other.steps a.steps b.steps in
    λ i. record { label = label i; steps = steps i }

gateways_are : (value : Option Data) (gateway other : Option GatewayConf) → HasGateway value gateway → HasGateway value other → gateway ≡ other
gateways_are None gateway other first second = first ∙ sym second
gateways_are (Some (table pairs)) (Some gateway) (Some other) first second = ap (λ (g : GatewayConf). Some g) (one_gateway pairs gateway other first second)
gateways_are (Some (table pairs)) None other first second = absurd first
gateways_are (Some (table pairs)) (Some gateway) None first second = absurd second
gateways_are (Some value) gateway other first second = absurd first

-- ---- the configuration

one_configuration : (document : Members) (conf other : Configuration) → IsConfiguration document conf → IsConfiguration document other → conf ≡ other
one_configuration document conf other a b =
    let scheme : conf.scheme ≡ other.scheme = a.scheme ∙ sym b.scheme in
    let keys : conf.keys ≡ other.keys = keys_are (members_in (get_member (codes "keys") document)) conf.keys other.keys a.keys b.keys in
    let types : conf.types ≡ other.types = types_are (members_in (get_member (codes "types") document)) conf.types other.types a.types b.types in
    let policies : conf.policies ≡ other.policies = policies_are document (version_in document) conf.policies other.policies a.policies b.policies in
    let nonces : conf.nonces ≡ other.nonces = a.nonces ∙ sym b.nonces in
    let sign : conf.sign ≡ other.sign = signs_are (get_member (codes "sign") document) conf.sign other.sign a.sign b.sign in
    let gateway : conf.gateway ≡ other.gateway = gateways_are (get_member (codes "gateway") document) conf.gateway other.gateway a.gateway b.gateway in
    λ i. record { scheme = scheme i; keys = keys i; types = types i; policies = policies i; nonces = nonces i; sign = sign i; gateway = gateway i }

pub one_meaning : (text : List ℕ) (conf other : Configuration) → Configures text conf → Configures text other → conf ≡ other
one_meaning text conf other (document, is, says) (also, is_also, says_also) =
    one_configuration document conf other says (rw (one_document text document also is is_also) says_also)
