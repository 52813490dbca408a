-- What the policies and the table `sign` say, once they are judged and read.
use Rattle.std.proofs.Common.{◌≡◌, ◌⊎◌, ℕ, true, List, [], ◌∷◌, Option, Some, None, MatchOption, IsTrue, codes, refl, subst, inl, inr}
use Rattle.std.specs.Prelude.{option_and_then, is_some}
use Rattle.std.specs.List.{AllByRecursion, AllZip, Any}
use Rattle.std.proofs.lemmas.Bool.{false≢true}
use Rattle.toml.specs.Data.{Data, Members, no_members, string, table, as_str, get_member}
use Rattle.conf_values.specs.declared.table.TableName.TheVariants as place
use Rattle.conf_values.specs.declared.table.ValueRule.TheVariants as rule
use Rattle.conf_values.specs.declared.table.Version.{Version}
use Rattle.conf_values.specs.declared.table.Version.TheVariants.{One, Two}
use Rattle.conf_values.specs.Parts.{tables_in}
use Rattle.conf_values.specs.Values.{has_type}
use Rattle.conf.specs.Rows.{fails}
use Rattle.conf.specs.Table.{HoldsOfValue, rows, has_place, is_missing, members_at, row_value, version_in}
use Rattle.settings.specs.declared.gateway_conf.GatewayConf.{GatewayConf}
use Rattle.settings.specs.declared.policy.Policy.{Policy}
use Rattle.settings.specs.declared.sign_conf.SignConf.{SignConf}
use Rattle.conf.specs.Sections.{ArePolicies, HasGateway, HasSign, IsPolicy, IsSignConf, policy_tables}
use Rattle.conf.specs.declared.fault.ConfFault.{ConfFault}
use Rattle.conf.specs.declared.fault.ConfFault.TheVariants as fault
use Rattle.conf.specs.declared.lists.Lists.{Lists}
use Rattle.conf.specs.Paths.{HoldsOfNone}
use Rattle.conf.specs.Refusals.{HasBadStep, IsBadList, IsLeastRow}
use Rattle.conf.specs.tools.Judged.{IsCauseNumbered, IsJudged}
use Rattle.conf.specs.tools.PolicyReads.{AreReadOf, AreReadPolicies, IsReadPolicy}
use Rattle.conf.specs.tools.SectionReads.{AreLists, AreSections, HaveGoodLists, IsListFault, IsListsFault, LacksName, value_of}
use Rattle.conf.proofs.Among.{of_tables}
use Rattle.conf.proofs.ListLaws.{told_are, told_not_bad}
use Rattle.conf.proofs.PolicyLaws.{has_version}
use Rattle.conf.proofs.RowFacts.{IsBadIn, each_request_typed, each_response_typed, keyid_there, keyid_typed, label_there, label_typed, lists_fine, none_bad, require_request_typed, require_response_typed, sign_typed}

-- ---- faults

-- what is answered of a list has the number of bad lists, where its path is the least of them
pub list_fault : (document : Members) (value : Option Data) (path : List ℕ) (f : ConfFault)
    → (IsBadList rule.Components value → IsLeastRow (λ row. HoldsOfValue (IsBadList row.rule) document row) path) → IsListFault value path f → IsCauseNumbered 7 document f
list_fault document value path fault.Memory least h = tt
list_fault document value path (fault.BadComponents given) least h = (refl, rw h.0 (least h.1))
list_fault document value path f least h = absurd h

-- the same of a list in the pairs that were found
pub found_fault : (document : Members) (name path : List ℕ) (pairs own : Members) (f : ConfFault) → pairs ≡ own
    → (IsBadIn name own → IsLeastRow (λ row. HoldsOfValue (IsBadList row.rule) document row) path) → IsListFault (get_member name pairs) path f → IsCauseNumbered 7 document f
found_fault document name path pairs own f same least h =
    list_fault document (get_member name own) path f least (subst (λ (given : Members). IsListFault (get_member name given) path f) same h)

-- and so of the lists of several tables
pub lists_fault : (document : Members) (name : List ℕ) (tables : List Members) (path : List ℕ) (f : ConfFault)
    → (Any (IsBadIn name) tables → IsLeastRow (λ row. HoldsOfValue (IsBadList row.rule) document row) path) → IsListsFault name tables path f → IsCauseNumbered 7 document f
lists_fault document name tables path fault.Memory least h = tt
lists_fault document name tables path (fault.BadComponents given) least h = (refl, rw h.0 (least h.1))
lists_fault document name tables path f least h = absurd h

-- ---- policies

-- the lists of a table are texts
record HasTextLists (pairs : Members) : Type 0 where
  request : IsTrue (fails (has_type rule.Components) (get_member (codes "require-request") pairs)) → ⊥
  response : IsTrue (fails (has_type rule.Components) (get_member (codes "require-response") pairs)) → ⊥

none_typed : HasTextLists no_members
none_typed = record { request = λ fails. false≢true fails; response = λ fails. false≢true fails }

policy_said : (version : Version) (pairs : Members) (policy : Policy) → HasTextLists pairs → IsReadPolicy version pairs policy → IsPolicy version pairs policy
policy_said version pairs policy typed read = record {
  selects = read.selects;
  max_age = read.max_age;
  skew = read.skew;
  require_request = told_are (get_member (codes "require-request") pairs) policy.require_request typed.request read.require_request;
  require_response = told_are (get_member (codes "require-response") pairs) policy.require_response typed.response read.require_response;
  expires = read.expires;
  nonce = read.nonce;
  tag = read.tag;
  digest = read.digest;
}

all_said : (version : Version) (tables : List Members) (policies : List Policy) → AllByRecursion HasTextLists tables → AllZip (IsReadPolicy version) tables policies
    → AllZip (IsPolicy version) tables policies
all_said version [] [] typed read = tt
all_said version [] (policy ∷ policies) typed read = absurd read
all_said version (pairs ∷ tables) [] typed read = absurd read
all_said version (pairs ∷ tables) (policy ∷ policies) typed read = (policy_said version pairs policy typed.0 read.0, all_said version tables policies typed.1 read.1)

typed_one : (document : Members) → IsJudged document → HasTextLists (members_at document place.Policy)
typed_one document judged = record { request = require_request_typed document judged; response = require_response_typed document judged }

typed_tables : (tables : List Members) → AllByRecursion (λ pairs. IsTrue (fails (has_type rule.Components) (get_member (codes "require-request") pairs)) → ⊥) tables
    → AllByRecursion (λ pairs. IsTrue (fails (has_type rule.Components) (get_member (codes "require-response") pairs)) → ⊥) tables
    → AllByRecursion HasTextLists tables
typed_tables [] requests responses = tt
typed_tables (pairs ∷ tables) requests responses = (record { request = requests.0; response = responses.0 }, typed_tables tables requests.1 responses.1)

typed_all : (document : Members) → IsJudged document → AllByRecursion HasTextLists (policy_tables (get_member (codes "policies") document))
typed_all document judged =
    of_tables HasTextLists (get_member (codes "policies") document) none_typed
    (typed_tables (tables_in (get_member (codes "policies") document)) (each_request_typed document judged) (each_response_typed document judged))

policies_of : (document : Members) (version : Option Version) (policies : List Policy) (known : Version) → version ≡ Some known → IsJudged document
    → AreReadOf version document policies → ArePolicies version document policies
policies_of document None policies known is judged read = absurd (cc is)
policies_of document (Some One) policies known is judged read =
    all_said One (members_at document place.Policy ∷ []) policies (typed_one document judged, tt) read
policies_of document (Some Two) policies known is judged read =
    all_said Two (policy_tables (get_member (codes "policies") document)) policies (typed_all document judged) read

-- what is read of policies is what the document says, once it is judged
pub policies_said : (document : Members) (policies : List Policy) → IsJudged document → AreReadPolicies document policies → ArePolicies (version_in document) document policies
policies_said document policies judged read =
    let version = has_version document judged in
    policies_of document (version_in document) policies version.0 version.1 judged read

-- no list is bad, where they were read
pub read_fine : (document : Members) (lists : Lists) → AreLists document lists → HaveGoodLists document → HoldsOfNone (λ row. HoldsOfValue (IsBadList row.rule) document row) rows
read_fine document lists are good =
    lists_fine document (none_bad document good) (told_not_bad _ lists.components_request are.components_request) (told_not_bad _ lists.components_response are.components_response)

-- ---- the table `sign`

-- a value that is told to be a table is one, or there is none
pub table_or_none : (value : Option Data) → (IsTrue (fails (has_type rule.Table) value) → ⊥) → (value ≡ None) ⊎ ((pairs : Members) × (value ≡ Some (table pairs)))
table_or_none None typed = inl refl
table_or_none (Some (table pairs)) typed = inr (pairs, refl)
table_or_none (Some value) typed = absurd (typed refl)

-- a name that is there and is a text isn't lacking
named : (value : Option Data) → is_some value ≡ true → (IsTrue (fails (has_type rule.Label) value) → ⊥) → ¬ (option_and_then as_str value ≡ None)
named None there typed lacks = false≢true there
named (Some (string text)) there typed lacks = absurd cc
named (Some value) there typed lacks = typed refl

named_keyid : (value : Option Data) → is_some value ≡ true → (IsTrue (fails (has_type rule.Keyid) value) → ⊥) → ¬ (option_and_then as_str value ≡ None)
named_keyid None there typed lacks = false≢true there
named_keyid (Some (string text)) there typed lacks = absurd cc
named_keyid (Some value) there typed lacks = typed refl

has_names : (document : Members) → IsJudged document → HoldsOfNone (λ row. IsTrue (is_missing document row)) rows → has_place document place.Sign ≡ true
    → ¬ LacksName (members_at document place.Sign)
has_names document judged complete has (inl lacks) = named (value_of document place.Sign (codes "label")) (label_there document complete has) (label_typed document judged) lacks
has_names document judged complete has (inr lacks) = named_keyid (value_of document place.Sign (codes "keyid")) (keyid_there document complete has) (keyid_typed document judged) lacks

of_none : (o : Option SignConf) → MatchOption o (LacksName no_members) (IsSignConf no_members) → HasSign None o
of_none None read = refl
of_none (Some sign) read = let none = read.label in absurd cc

of_table : (pairs : Members) (o : Option SignConf) → ¬ LacksName pairs → MatchOption o (LacksName pairs) (IsSignConf pairs) → HasSign (Some (table pairs)) o
of_table pairs None names lacks = absurd (names lacks)
of_table pairs (Some sign) names says = says

sign_said : (document : Members) (o : Option SignConf) → IsJudged document → HoldsOfNone (λ row. IsTrue (is_missing document row)) rows
    → MatchOption o (LacksName (members_at document place.Sign)) (IsSignConf (members_at document place.Sign)) → HasSign (get_member (codes "sign") document) o
sign_said document o judged complete read = elim (table_or_none (get_member (codes "sign") document) (sign_typed document judged)) [
  | inl none ↦ rw none (of_none o (rw none at read))
  | inr is ↦
      let has : has_place document place.Sign ≡ true = rw is.1 refl in
      rw is.1 (of_table is.0 o (rw is.1 at (has_names document judged complete has)) (rw is.1 at read))
]

-- ---- all tables

pub tables_say : (document : Members) (lists : Lists) (policies : List Policy) (sign : Option SignConf) (gateway : Option GatewayConf) → IsJudged document
    → HoldsOfNone (λ row. IsTrue (is_missing document row)) rows → AreLists document lists → HaveGoodLists document
    → HoldsOfNone (λ row. HasBadStep row.rule (row_value document row)) rows → AreReadPolicies document policies
    → MatchOption sign (LacksName (members_at document place.Sign)) (IsSignConf (members_at document place.Sign))
    → HasGateway (get_member (codes "gateway") document) gateway → AreSections document (record { policies = policies; sign = sign; gateway = gateway })
tables_say document lists policies sign gateway judged complete are good steps read says has = record {
  lists = read_fine document lists are good;
  steps = steps;
  complete = complete;
  policies = policies_said document policies judged read;
  sign = sign_said document sign judged complete says;
  gateway = has;
}
