-- Each text is a configuration, or has a fault.
use Rattle.std.proofs.Common.{◌≡◌, ◌⊎◌, ℕ, zero, suc, Bool, true, false, List, [], ◌∷◌, Option, Some, None, option_map, IsTrue, codes, refl, sym, ap, subst, ◌∙◌, inl, inr, nat_cmp, arith}
use Rattle.std.specs.Prelude.{is_some, option_and_then, unwrap_or}
use Rattle.std.specs.FinMap as map
use Rattle.std.specs.List.{AllByRecursion, AllZip, Any, find, list_all}
use Rattle.std.specs.Str.{is_utf8}
use Rattle.std.specs.Cmp.Lexicographic.{slice_cmp}
use Rattle.std.proofs.lemmas.Bool.{cases_Bool, false≢true}
use Rattle.std.proofs.lemmas.Str.{IsUtf8-from_is_utf8, is_utf8-from_IsUtf8}
use Rattle.sfv_text.specs.declared.pair.Pair.{Pair}
use Rattle.sfv_text.specs.declared.value.BareItem.{BareItem}
use Rattle.sfv_text.specs.declared.value.InnerList.{InnerList}
use Rattle.sfv_read.specs.Reads.{ReadsInner}
use Rattle.sfv_read.proofs.Readings.{inner_has_one_value, inner_is_decided}
use Rattle.component_ids.specs.SignatureParams.{IsParamsOf, list_of}
use Rattle.component_ids.specs.Types.{kind_in, standard_types}
use Rattle.component_ids.specs.declared.id.ComponentId.{ComponentId}
use Rattle.component_ids.proofs.FaultLaws as list_faults
use Rattle.component_ids.proofs.Judged as list_answers
use Rattle.toml.specs.Data.{Data, Members, no_members, string, table, as_bool, as_str, get_member}
use Rattle.toml.specs.Parse.{parse_document}
use Rattle.settings.specs.declared.limits.TheConstants.{DEFAULT_MAX_AGE, DEFAULT_SKEW}
use Rattle.conf_values.specs.declared.table.TableName.TheVariants as place
use Rattle.conf_values.specs.declared.table.ValueRule.TheVariants as rule
use Rattle.conf_values.specs.declared.table.Version.{Version}
use Rattle.conf_values.specs.declared.table.Version.TheVariants.{One, Two}
use Rattle.settings.specs.Covered.{IsCoveredList, params_of}
use Rattle.conf.specs.Rows.{fails, is_ill_typed, is_out_of_range}
use Rattle.conf.specs.Table.{HoldsOfValue, Row, rows, places, place_path, entries_of, has_place, has_unknown, is_missing, members_at, members_in, tables_at, version_in}
use Rattle.conf_values.specs.Values.{has_type, is_type, number_or}
use Rattle.rewrite_script.specs.declared.rewrite.Rewrite.{Rewrite}
use Rattle.settings.specs.declared.gateway_conf.GatewayConf.{GatewayConf}
use Rattle.settings.specs.declared.policy.Policy.{Policy}
use Rattle.settings.specs.declared.sign_conf.SignConf.{SignConf}
use Rattle.conf.specs.Sections.{AreComponents, ArePolicies, AreSteps, HasGateway, HasSign, IsGatewayConf, IsPolicy, IsSignConf, asked_tag, digest_of, digest_use_of, is_required, kept_nonces, nonce_use_of, policy_tables, seconds_of, selected_tag}
use Rattle.conf.specs.declared.fault.ConfFault.{ConfFault}
use Rattle.conf.specs.declared.fault.ConfFault.TheVariants as fault
use Rattle.settings.specs.Configuration.{Configuration}
use Rattle.conf.specs.Meaning.{AreKeys, AreTypes, Configures, HasKey, IsDocument, configured_scheme}
use Rattle.conf.specs.Paths.{HoldsAtPath, HoldsOfNone, IsLeast}
use Rattle.conf.specs.Refusals.{HasBadKeyText, IsBadKeyText, IsBadList, IsConfFault, IsLeastRow}
use Rattle.conf.specs.tools.Added.{key_in, named_kind, spells_key}
use Rattle.conf.specs.tools.Judged.{IsClearBelow, IsFirstIn, IsJudged}
use Rattle.conf.specs.tools.SectionReads.{value_of}
use Rattle.conf.proofs.Among.{any_first, any_later, of_tables}
use Rattle.conf.proofs.AddedLaws.{AllRead, all_of, entry_passes, get_all, or_else}
use Rattle.conf.proofs.JudgedLaws.{first_is, clear_first, clear_more, below_typed, below_allowed, below_keys, below_missing, below_steps, keys_clear}
use Rattle.conf.proofs.KeyTextLaws.{are_texts, key_of_text, keys_of_document, not_spelled, spelled}
use Rattle.conf.proofs.LeastLaws.{ascends, found_least, found_none}
use Rattle.conf.proofs.ListLaws.{not_bad}
use Rattle.conf.proofs.ReadLaws.{first_of, not_toml}
use Rattle.conf.proofs.PolicyLaws.{has_version}
use Rattle.conf.proofs.RowFacts.{IsBadIn, NoBadPolicy, each_request_least, each_request_typed, each_response_least, each_response_typed, keys_typed, gateway_typed, sign_typed, steps_typed, require_request_typed, require_response_typed, request_typed, response_typed, keyid_typed, label_typed, types_typed, types_allowed, keyid_there, label_there, keys_least, texts_fine, lists_fine, steps_fine, steps_least, require_request_least, require_response_least, request_least, response_least}
use Rattle.conf.proofs.RowLaws.{rows_ascend, places_ascend}
use Rattle.conf.proofs.SectionLaws.{table_or_none}
use Rattle.conf.proofs.StepLaws.{steps_not_bad, steps_or_bad_of}
use Rattle.conf.proofs.TypeLaws.{are_types, kind_at, kind_read, types_of_document}

abbrev Answer : List ℕ → Type 0
Answer text = ((conf : Configuration) × Configures text conf) ⊎ ((fault : ConfFault) × IsConfFault text fault)

-- none of them passes, or one has the least path
first_or_none : {X : Type 0} (path_of : X → List ℕ) (test : X → Bool) (xs : List X) → ascends path_of xs ≡ true
    → HoldsOfNone (λ x. IsTrue (test x)) xs ⊎ ((path : List ℕ) × IsLeast (HoldsAtPath path_of (λ x. IsTrue (test x)) xs) path)
first_or_none path_of test xs up = elim (option_map path_of (find test xs)) as (λ o. option_map path_of (find test xs) ≡ o
    → HoldsOfNone (λ x. IsTrue (test x)) xs ⊎ ((path : List ℕ) × IsLeast (HoldsAtPath path_of (λ x. IsTrue (test x)) xs) path)) [
      | None ↦ λ e. inl (found_none path_of test xs (sym e))
      | Some path ↦ λ e. inr (path, found_least path_of test xs path up (sym e))
    ] refl

-- a fault of the document is an answer of the text
refused : (text : List ℕ) (document : Members) (f : ConfFault) → IsDocument text document → ¬ (f ≡ fault.Memory) → IsFirstIn document f → Answer text
refused text document f is known first = elim (first_of text document f is first) [
  | inl memory ↦ absurd (known memory)
  | inr h ↦ inr (f, h)
]

-- ---- the texts of keys

spells_found : Option Data → Bool
spells_found None = true
spells_found (Some value) = spells_key value

bad_found : (found : Option Data) → spells_found found ≡ false → IsBadKeyText found
unfolding spells_found
bad_found None fail = absurd (false≢true (sym fail))
bad_found (Some value) fail = not_spelled value fail

one_fails : {X : Type 0} (test : X → Bool) (xs : List X) → list_all test xs ≡ false → (x : X) × (test x ≡ false)
one_fails test [] fail = absurd (false≢true (sym fail))
one_fails test (x ∷ xs) fail = elim (cases_Bool (test x)) [
  | inl passed ↦ one_fails test xs (rw passed at fail)
  | inr failed ↦ (x, failed)
]

found_spells : (pairs : Members) (keyid : List ℕ) (value : Data) → list_all (λ (e : List ℕ × Data). spells_found (get_member e.0 pairs)) (entries_of pairs) ≡ true
    → get_member keyid pairs ≡ Some value → spells_key value ≡ true
unfolding spells_found
found_spells pairs keyid value all is =
    let there : spells_found (get_member keyid pairs) ≡ true = entry_passes (λ (e : List ℕ × Data). spells_found (get_member e.0 pairs)) pairs keyid value all is in
    rw is at there

bad_or_keys : (pairs : Members) → ((keyid : List ℕ) × IsBadKeyText (get_member keyid pairs))
    ⊎ ((keyid : List ℕ) (value : Data) → get_member keyid pairs ≡ Some value → spells_key value ≡ true)
bad_or_keys pairs = elim (cases_Bool (list_all (λ (e : List ℕ × Data). spells_found (get_member e.0 pairs)) (entries_of pairs))) [
  | inl all ↦ inr (λ keyid value is. found_spells pairs keyid value all is)
  | inr fail ↦
      let e = one_fails (λ (e : List ℕ × Data). spells_found (get_member e.0 pairs)) (entries_of pairs) fail in
      inl (e.0.0, bad_found (get_member e.0.0 pairs) e.1)
]

all_keys : (document : Members) → IsJudged document → ((keyid : List ℕ) (value : Data) → get_member keyid (keys_of_document document) ≡ Some value → spells_key value ≡ true)
    → AreKeys (keys_of_document document) (all_of key_in map.empty (keys_of_document document))
all_keys document judged spell = λ keyid.
    let pairs = keys_of_document document in
    let texts = are_texts (get_member (codes "keys") document) (keys_typed document judged) in
    let read : AllRead key_in (get_member keyid pairs) = λ value is. reads value (entry_passes (λ e. is_some (as_str e.1)) pairs keyid value texts is) (spell keyid value is) in
    let at : map.get (all_of key_in map.empty pairs) keyid ≡ or_else (option_and_then key_in (get_member keyid pairs)) None =
    get_all key_in map.empty pairs keyid read ∙ ap (λ (o : Option (List ℕ)). or_else (option_and_then key_in (get_member keyid pairs)) o) (map.get-empty (slice_cmp nat_cmp) keyid) in
    rw at (has (get_member keyid pairs) (λ value is. entry_passes (λ e. is_some (as_str e.1)) pairs keyid value texts is) (spell keyid))
  where
    reads : (value : Data) → is_some (as_str value) ≡ true → spells_key value ≡ true → is_some (key_in value) ≡ true
    reads (string text) is spells = spells
    reads value is spells = absurd (false≢true is)

    has : (found : Option Data) → ((value : Data) → found ≡ Some value → is_some (as_str value) ≡ true) → ((value : Data) → found ≡ Some value → spells_key value ≡ true)
        → HasKey found (or_else (option_and_then key_in found) None)
    has None texts spell = refl
    has (Some value) texts spell = key_of_text value (texts value refl) (spell value refl)

bad_keys : (value : Option Data) → (keyid : List ℕ) × IsBadKeyText (get_member keyid (members_in value)) → HasBadKeyText rule.Keys value
bad_keys (Some (table pairs)) bad = bad
bad_keys value bad = absurd bad.1

-- ---- covered lists

covered_by : (text : List ℕ) (list : InnerList) (ids : List ComponentId) (params : List (Pair BareItem)) → ReadsInner text list
    → IsParamsOf list (record { ids = ids; params = params }) → ((ids : List ComponentId) × IsCoveredList text ids) ⊎ ((ids : List ComponentId) → ¬ IsCoveredList text ids)
covered_by text list ids [] reads is = inl (ids, record { reads = rw is.1 reads; components = is.0 })
covered_by text list ids (p ∷ params) reads is = inr (λ others covered.
    let same : list_of (params_of others) ≡ list = inner_has_one_value text _ _ covered.reads reads in
    let none : [] ≡ p ∷ params = ap (λ (l : InnerList). l.params) (same ∙ sym is.1) in
    absurd cc)

covered_or_not : (text : List ℕ) → ((ids : List ComponentId) × IsCoveredList text ids) ⊎ ((ids : List ComponentId) → ¬ IsCoveredList text ids)
covered_or_not text = elim (inner_is_decided text) [
  | inr none ↦ inr (λ ids covered. none (list_of (params_of ids)) covered.reads)
  | inl list ↦ elim (list_answers.has_answer list.0) [
    | inl params ↦ covered_by text list.0 params.0.ids params.0.params list.1 params.1
    | inr fault ↦ inr (λ ids covered. list_faults.not_both list.0 (params_of ids) fault.0 (covered.components, inner_has_one_value text _ _ covered.reads list.1) fault.1)
  ]
]

list_or_bad : (value : Option Data) → (IsTrue (fails (has_type rule.Components) value) → ⊥) → ((ids : List ComponentId) × AreComponents value ids) ⊎ IsBadList rule.Components value
list_or_bad None typed = inl ([], refl)
list_or_bad (Some (string text)) typed = elim (covered_or_not text) [
  | inl covered ↦ inl covered
  | inr none ↦ inr none
]
list_or_bad (Some value) typed = absurd (typed refl)

-- ---- the tables

-- the components that a table tells under the name
abbrev HasSaid : List ℕ → Members → Type 0
HasSaid name pairs = (ids : List ComponentId) × AreComponents (get_member name pairs) ids

has_policy : (version : Version) (pairs : Members) → HasSaid (codes "require-request") pairs → HasSaid (codes "require-response") pairs → (policy : Policy) × IsPolicy version pairs policy
has_policy version pairs request response = (
  record {
    selects = selected_tag version pairs;
    max_age = number_or DEFAULT_MAX_AGE (get_member (codes "max-age") pairs);
    skew = number_or DEFAULT_SKEW (get_member (codes "skew") pairs);
    require_request = request.0;
    require_response = response.0;
    expires = is_required (get_member (codes "expires") pairs);
    nonce = nonce_use_of (get_member (codes "nonce") pairs);
    tag = asked_tag version pairs;
    digest = digest_use_of (get_member (codes "digest") pairs);
  },
  record {
    selects = refl;
    max_age = refl;
    skew = refl;
    require_request = request.1;
    require_response = response.1;
    expires = refl;
    nonce = refl;
    tag = refl;
    digest = refl;
  },
)

all_policies : (version : Version) (tables : List Members) → AllByRecursion (HasSaid (codes "require-request")) tables → AllByRecursion (HasSaid (codes "require-response")) tables
    → (policies : List Policy) × AllZip (IsPolicy version) tables policies
all_policies version [] requests responses = ([], tt)
all_policies version (pairs ∷ tables) requests responses =
    let first = has_policy version pairs requests.0 responses.0 in
    let later = all_policies version tables requests.1 responses.1 in
    (first.0 ∷ later.0, (first.1, later.1))

-- the lists of each policy of the document tell components
record HaveSaid (document : Members) : Type 0 where
  each_request : AllByRecursion (HasSaid (codes "require-request")) (tables_at document place.Policies)
  each_response : AllByRecursion (HasSaid (codes "require-response")) (tables_at document place.Policies)
  request : HasSaid (codes "require-request") (members_at document place.Policy)
  response : HasSaid (codes "require-response") (members_at document place.Policy)

none_said : (name : List ℕ) → HasSaid name no_members
none_said name = ([], refl)

has_policies : (document : Members) (version : Version) → HaveSaid document → (policies : List Policy) × ArePolicies (Some version) document policies
has_policies document One said = all_policies One (members_at document place.Policy ∷ []) (said.request, tt) (said.response, tt)
has_policies document Two said =
    let value = get_member (codes "policies") document in
    all_policies Two (policy_tables value) (of_tables (HasSaid (codes "require-request")) value (none_said (codes "require-request")) said.each_request)
    (of_tables (HasSaid (codes "require-response")) value (none_said (codes "require-response")) said.each_response)

-- each of the tables tells components under the name, or the list of one of them is bad
lists_or_bad : (name : List ℕ) (tables : List Members) → AllByRecursion (λ pairs. IsTrue (fails (has_type rule.Components) (get_member name pairs)) → ⊥) tables
    → AllByRecursion (HasSaid name) tables ⊎ Any (IsBadIn name) tables
lists_or_bad name [] typed = inl tt
lists_or_bad name (pairs ∷ tables) typed = elim (list_or_bad (get_member name pairs) typed.0) [
  | inr bad ↦ inr (any_first (IsBadIn name) pairs tables bad)
  | inl first ↦ elim (lists_or_bad name tables typed.1) [
    | inr bad ↦ inr (any_later (IsBadIn name) pairs tables bad)
    | inl later ↦ inl (first, later)
  ]
]

-- no list that tells components is bad
each_good : (name : List ℕ) (tables : List Members) → AllByRecursion (HasSaid name) tables → Any (IsBadIn name) tables → ⊥
each_good name [] said some = absurd (omega (arith, some.2))
each_good name (pairs ∷ tables) said (zero, own, lt, at, bad) = not_bad (get_member name pairs) said.0.0 said.0.1 (subst (λ (own : Members). IsBadIn name own) (sym at) bad)
each_good name (pairs ∷ tables) said (suc k, own, lt, at, bad) = each_good name tables said.1 (k, own, omega (arith, lt), at, bad)

said_fine : (document : Members) → HaveSaid document → NoBadPolicy document
said_fine document said = record {
  each_request = each_good (codes "require-request") (tables_at document place.Policies) said.each_request;
  each_response = each_good (codes "require-response") (tables_at document place.Policies) said.each_response;
  request = not_bad _ said.request.0 said.request.1;
  response = not_bad _ said.response.0 said.response.1;
}

label_text : (value : Option Data) → is_some value ≡ true → (IsTrue (fails (has_type rule.Label) value) → ⊥) → (text : List ℕ) × (value ≡ Some (string text))
label_text None there typed = absurd (false≢true there)
label_text (Some (string text)) there typed = (text, refl)
label_text (Some value) there typed = absurd (typed refl)

keyid_text : (value : Option Data) → is_some value ≡ true → (IsTrue (fails (has_type rule.Keyid) value) → ⊥) → (text : List ℕ) × (value ≡ Some (string text))
keyid_text None there typed = absurd (false≢true there)
keyid_text (Some (string text)) there typed = (text, refl)
keyid_text (Some value) there typed = absurd (typed refl)

has_table : (value : Option Data) (pairs : Members) (sign : SignConf) → value ≡ Some (table pairs) → IsSignConf pairs sign → HasSign value (Some sign)
has_table value pairs sign is says = rw is says

has_sign : (document : Members) → IsJudged document → HoldsOfNone (λ row. IsTrue (is_missing document row)) rows
    → (request response : List ComponentId) → AreComponents (value_of document place.Sign (codes "components-request")) request → AreComponents (value_of document place.Sign (codes "components-response")) response
    → (sign : Option SignConf) × HasSign (get_member (codes "sign") document) sign
has_sign document judged complete request response first second = elim (table_or_none (get_member (codes "sign") document) (sign_typed document judged)) [
  | inl none ↦ (None, rw none refl)
  | inr is ↦
      let has : has_place document place.Sign ≡ true = rw is.1 refl in
      let label = label_text (value_of document place.Sign (codes "label")) (label_there document complete has) (label_typed document judged) in
      let keyid = keyid_text (value_of document place.Sign (codes "keyid")) (keyid_there document complete has) (keyid_typed document judged) in
      let sign : SignConf = record {
        label = label.0;
        keyid = keyid.0;
        components_request = request;
        components_response = response;
        expires_after = seconds_of (get_member (codes "expires-after") is.0);
        alg = unwrap_or (option_and_then as_bool (get_member (codes "alg") is.0)) false;
        tag = option_and_then as_str (get_member (codes "tag") is.0);
        digest = digest_of (get_member (codes "digest") is.0);
      } in
      let says : IsSignConf is.0 sign = record {
        label = ap (λ (v : Option Data). get_member (codes "label") (members_in v)) (sym is.1) ∙ label.1;
        keyid = ap (λ (v : Option Data). get_member (codes "keyid") (members_in v)) (sym is.1) ∙ keyid.1;
        components_request = rw is.1 at first;
        components_response = rw is.1 at second;
        expires_after = refl;
        alg = refl;
        tag = refl;
        digest = refl;
      } in
      (Some sign, has_table (get_member (codes "sign") document) is.0 sign is.1 says)
]

has_gateway_table : (value : Option Data) (pairs : Members) (gateway : GatewayConf) → value ≡ Some (table pairs) → IsGatewayConf pairs gateway → HasGateway value (Some gateway)
has_gateway_table value pairs gateway is says = rw is says

has_gateway : (document : Members) → IsJudged document → (steps : List Rewrite) → AreSteps (value_of document place.Gateway (codes "steps")) steps
    → (gateway : Option GatewayConf) × HasGateway (get_member (codes "gateway") document) gateway
has_gateway document judged steps are = elim (table_or_none (get_member (codes "gateway") document) (gateway_typed document judged)) [
  | inl none ↦ (None, rw none refl)
  | inr is ↦
      let gateway : GatewayConf = record { label = option_and_then as_str (get_member (codes "label") is.0); steps = steps } in
      let says : IsGatewayConf is.0 gateway = record { label = refl; steps = rw is.1 at are } in
      (Some gateway, has_gateway_table (get_member (codes "gateway") document) is.0 gateway is.1 says)
]

-- ---- the types

all_types : (document : Members) → IsJudged document → AreTypes (types_of_document document) (all_of named_kind standard_types (types_of_document document))
all_types document judged = λ name.
    let pairs = types_of_document document in
    let texts = are_texts (get_member (codes "types") document) (types_typed document judged) in
    let types = are_types document (get_member (codes "types") document) (types_allowed document judged) in
    let read : AllRead named_kind (get_member name pairs) = λ value is.
    kind_read name value (entry_passes (λ e. is_some (as_str e.1)) pairs name value texts is) (entry_passes (λ e. is_type e.0 e.1) pairs name value types is) in
    get_all named_kind standard_types pairs name read
    ∙ kind_at pairs name (kind_in standard_types name) (get_member name pairs) refl types

-- ---- the answer

-- each keyid of the document has a text that is a key's
abbrev HaveKeys : Members → Type 0
HaveKeys document = (keyid : List ℕ) (value : Data) → get_member keyid (keys_of_document document) ≡ Some value → spells_key value ≡ true

complete_answer : (text : List ℕ) (document : Members) → IsDocument text document → IsJudged document → HaveKeys document → IsClearBelow 8 document
    → HaveSaid document → HasSaid (codes "components-request") (members_at document place.Sign) → HasSaid (codes "components-response") (members_at document place.Sign)
    → (steps : List Rewrite) → AreSteps (value_of document place.Gateway (codes "steps")) steps → Answer text
complete_answer text document is judged spell below said request response steps are =
    let fine = steps_fine document (steps_not_bad (value_of document place.Gateway (codes "steps")) steps are) in
    elim (first_or_none (λ (row : Row). row.path) (is_missing document) rows rows_ascend) [
      | inr at ↦ refused text document (fault.Missing at.0) is (λ e. absurd cc) (first_is 9 document (fault.Missing at.0) (below_missing document below fine) (refl, at.1))
      | inl complete ↦
          let version = has_version document judged in
          let policies = has_policies document version.0 said in
          let says : ArePolicies (version_in document) document policies.0 = rw version.1 policies.1 in
          let sign = has_sign document judged complete request.0 response.0 request.1 response.1 in
          let gateway = has_gateway document judged steps are in
          inl (
            record {
              scheme = configured_scheme (get_member (codes "scheme") document);
              keys = all_of key_in map.empty (keys_of_document document);
              types = all_of named_kind standard_types (types_of_document document);
              policies = policies.0;
              nonces = kept_nonces (version_in document) document;
              sign = sign.0;
              gateway = gateway.0;
            },
            (
              document,
              is,
              record {
                known = judged.known;
                typed = judged.typed;
                allowed = judged.allowed;
                complete = complete;
                scheme = refl;
                keys = all_keys document judged spell;
                types = all_types document judged;
                policies = says;
                nonces = refl;
                sign = sign.1;
                gateway = gateway.1;
              },
            ),
          )
    ]

steps_answer : (text : List ℕ) (document : Members) → IsDocument text document → IsJudged document → HaveKeys document → IsClearBelow 7 document
    → HaveSaid document → HasSaid (codes "components-request") (members_at document place.Sign) → HasSaid (codes "components-response") (members_at document place.Sign) → Answer text
steps_answer text document is judged spell below said request response =
    let fine = lists_fine document (said_fine document said) (not_bad _ request.0 request.1) (not_bad _ response.0 response.1) in
    let clear = below_steps document below fine in
    elim (steps_or_bad_of (value_of document place.Gateway (codes "steps")) (steps_typed document judged)) [
      | inr bad ↦ refused text document (fault.BadScript (codes "gateway.steps")) is (λ e. absurd cc) (first_is 8 document (fault.BadScript (codes "gateway.steps")) clear (refl, steps_least document bad))
      | inl steps ↦ complete_answer text document is judged spell clear said request response steps.0 steps.1
    ]

-- a bad list whose path is the least
bad_list : (text : List ℕ) (document : Members) (path : List ℕ) → IsDocument text document → IsClearBelow 7 document
    → IsLeastRow (λ row. HoldsOfValue (IsBadList row.rule) document row) path → Answer text
bad_list text document path is below least = refused text document (fault.BadComponents path) is (λ e. absurd cc) (first_is 7 document (fault.BadComponents path) below (refl, least))

sign_answer : (text : List ℕ) (document : Members) → IsDocument text document → IsJudged document → HaveKeys document → IsClearBelow 7 document → HaveSaid document → Answer text
sign_answer text document is judged spell below said =
    let fine = said_fine document said in
    elim (list_or_bad (value_of document place.Sign (codes "components-request")) (request_typed document judged)) [
      | inr bad ↦ bad_list text document (codes "sign.components-request") is below (request_least document fine bad)
      | inl request ↦ elim (list_or_bad (value_of document place.Sign (codes "components-response")) (response_typed document judged)) [
        | inr bad ↦ bad_list text document (codes "sign.components-response") is below (response_least document fine (not_bad _ request.0 request.1) bad)
        | inl response ↦ steps_answer text document is judged spell below said request response
      ]
    ]

-- once the lists of the tables of `policies` tell components, those of `policy` are next
policy_answer : (text : List ℕ) (document : Members) → IsDocument text document → IsJudged document → HaveKeys document → IsClearBelow 7 document
    → AllByRecursion (HasSaid (codes "require-request")) (tables_at document place.Policies) → AllByRecursion (HasSaid (codes "require-response")) (tables_at document place.Policies) → Answer text
policy_answer text document is judged spell below requests responses =
    let first = each_good (codes "require-request") (tables_at document place.Policies) requests in
    let second = each_good (codes "require-response") (tables_at document place.Policies) responses in
    elim (list_or_bad (value_of document place.Policy (codes "require-request")) (require_request_typed document judged)) [
      | inr bad ↦ bad_list text document (codes "policy.require-request") is below (require_request_least document first second bad)
      | inl request ↦ elim (list_or_bad (value_of document place.Policy (codes "require-response")) (require_response_typed document judged)) [
        | inr bad ↦ bad_list text document (codes "policy.require-response") is below (require_response_least document first second (not_bad _ request.0 request.1) bad)
        | inl response ↦ sign_answer text document is judged spell below (record { each_request = requests; each_response = responses; request = request; response = response })
      ]
    ]

lists_answer : (text : List ℕ) (document : Members) → IsDocument text document → IsJudged document → HaveKeys document → IsClearBelow 7 document → Answer text
lists_answer text document is judged spell below =
    let tables = tables_at document place.Policies in
    elim (lists_or_bad (codes "require-request") tables (each_request_typed document judged)) [
      | inr bad ↦ bad_list text document (codes "policies.require-request") is below (each_request_least document bad)
      | inl requests ↦ elim (lists_or_bad (codes "require-response") tables (each_response_typed document judged)) [
        | inr bad ↦ bad_list text document (codes "policies.require-response") is below (each_response_least document (each_good (codes "require-request") tables requests) bad)
        | inl responses ↦ policy_answer text document is judged spell below requests responses
      ]
    ]

none_bad : (value : Option Data) → ((keyid : List ℕ) (found : Data) → get_member keyid (members_in value) ≡ Some found → spells_key found ≡ true) → HasBadKeyText rule.Keys value → ⊥
none_bad (Some (table pairs)) spell (keyid, bad) = at (get_member keyid pairs) (spell keyid) bad where
  at : (found : Option Data) → ((value : Data) → found ≡ Some value → spells_key value ≡ true) → IsBadKeyText found → ⊥
  at None spell bad = bad
  at (Some value) spell bad = spelled value (spell value refl) bad
none_bad value spell bad = bad

keys_answer : (text : List ℕ) (document : Members) → IsDocument text document → IsJudged document → Answer text
keys_answer text document is judged = elim (bad_or_keys (keys_of_document document)) [
  | inl bad ↦ refused text document (fault.BadKeyText (codes "keys")) is (λ e. absurd cc)
      (first_is 6 document (fault.BadKeyText (codes "keys")) (below_keys document judged) (refl, keys_least document (bad_keys (get_member (codes "keys") document) bad)))
  | inr spell ↦ lists_answer text document is judged spell
      (clear_more 6 document (below_keys document judged) (keys_clear document (texts_fine document (none_bad (get_member (codes "keys") document) spell))))
]

document_answer : (text : List ℕ) (document : Members) → IsDocument text document → Answer text
document_answer text document is = elim (first_or_none place_path (has_unknown document) places places_ascend) [
  | inr at ↦ refused text document (fault.UnknownKey at.0) is (λ e. absurd cc) (first_is 3 document (fault.UnknownKey at.0) (clear_first document) (refl, at.1))
  | inl known ↦ elim (first_or_none (λ (row : Row). row.path) (is_ill_typed document) rows rows_ascend) [
    | inr at ↦ refused text document (fault.WrongType at.0) is (λ e. absurd cc) (first_is 4 document (fault.WrongType at.0) (below_typed document known) (refl, at.1))
    | inl typed ↦ elim (first_or_none (λ (row : Row). row.path) (is_out_of_range document) rows rows_ascend) [
      | inr at ↦ refused text document (fault.OutOfRange at.0) is (λ e. absurd cc) (first_is 5 document (fault.OutOfRange at.0) (below_allowed document known typed) (refl, at.1))
      | inl allowed ↦ keys_answer text document is (record { known = known; typed = typed; allowed = allowed })
    ]
  ]
]

pub has_answer : (text : List ℕ) → Answer text
has_answer text = elim (cases_Bool (is_utf8 text)) [
  | inr isnt ↦ inr (fault.NotToml, not_toml text (λ document is. false≢true (sym isnt ∙ is_utf8-from_IsUtf8 text is.0)))
  | inl utf8 ↦ elim (parse_document text) as (λ o. parse_document text ≡ o → Answer text) [
    | None ↦ λ e. inr (fault.NotToml, not_toml text (λ document is. let none = rw e at is.1 in absurd cc))
    | Some document ↦ λ e. document_answer text document (IsUtf8-from_is_utf8 text utf8, e)
  ] refl
]
