-- The tables of `policies` as the code finds them in an array, one by one.
use Rattle.std.proofs.Common.{◌≡◌, ◌≤◌, ◌<◌, ◌+◌, ℕ, zero, suc, List, [], ◌∷◌, ◌++◌, length, get_or, take, drop, Option, Some, None, option_map, String, Global, IsTrue, codes, refl, sym, ap, subst, ◌∙◌, arith}
use Rattle.std.specs.Prelude.{option_and_then}
use Rattle.std.specs.Borrow.{Bor}
use Rattle.std.specs.BTreeMap.{BTreeMap}
use Rattle.std.specs.List.{AllZip, Any}
use Rattle.std.proofs.lemmas.List.{drop_all, take_all, take_more}
use Rattle.toml.specs.Data.{Data, Items, Members, item, no_members, array, table, as_array, as_table, get_member}
use Rattle.toml.specs.View.{items_view, table_view, view}
use Rattle.toml.specs.declared.value.Value.{Value}
use Rattle.toml.proofs.Views.{items_view-drop}
use Rattle.conf_values.specs.declared.table.ValueRule.TheVariants as rule
use Rattle.conf_values.specs.declared.table.Version.{Version}
use Rattle.conf_values.specs.declared.table.Version.TheVariants.{Two}
use Rattle.conf_values.specs.Parts.{members_in, tables_in, tables_of}
use Rattle.conf_values.specs.Values.{has_type}
use Rattle.conf_values.specs.Views.{table_members}
use Rattle.settings.specs.declared.policy.Policy.{Policy}
use Rattle.conf.specs.Rows.{fails}
use Rattle.conf.specs.Sections.{policy_tables}
use Rattle.conf.specs.Table.{version_in}
use Rattle.conf.specs.declared.fault.ConfFault.{ConfFault}
use Rattle.conf.specs.declared.fault.ConfFault.TheVariants as fault
use Rattle.conf.specs.tools.Judged.{IsCauseNumbered}
use Rattle.conf.specs.tools.PolicyReads.{AreReadOf, AreReadPolicies, IsReadPolicy}
use Rattle.conf.specs.tools.SectionReads.{AreGoodLists, HaveGoodTables, IsGoodList, IsListFault, IsListsFault}
use Rattle.conf.proofs.Among.{any_first, any_later}
use Rattle.conf.proofs.RowFacts.{IsBadIn, each_request_least, each_response_least, no_request_bad}
use Rattle.conf.proofs.SectionLaws.{lists_fault}

-- ---- the array

-- without an array there are no tables
pub no_tables : (value : Option Data) → None ≡ option_and_then as_array value → tables_in value ≡ []
no_tables None is = refl
no_tables (Some (array items)) is = absurd (cc is)
no_tables (Some value) is = refl

pub tables_found : (value : Option Data) (items : Items) → Some items ≡ option_and_then as_array value → tables_in value ≡ tables_of items
tables_found None items is = absurd (cc is)
tables_found (Some (array own)) items is =
    let same : own ≡ items = cc is in
    ap (λ (given : Items). tables_of given) same
tables_found (Some value) items is = absurd (cc is)

-- without one there is no value, where values have their types
pub no_policies : (value : Option Data) → (IsTrue (fails (has_type rule.Policies) value) → ⊥) → None ≡ option_and_then as_array value → policy_tables value ≡ no_members ∷ []
no_policies None typed is = refl
no_policies (Some (array items)) typed is = absurd (cc is)
no_policies (Some value) typed is = absurd (typed refl)

-- what is read by the version of the document is what is read of it
pub read_as : (document : Members) (version : Option Version) (policies : List Policy) → version ≡ version_in document → AreReadOf version document policies → AreReadPolicies document policies
read_as document version policies same read = rw (← same) read

-- ---- the lists of an array, one by one

-- the pairs of a table of the code are those of its value
pub members_of_table : (found : Option (Bor (BTreeMap (String Global) Value))) (value : Data) → option_map (λ table. table_view table.now) found ≡ as_table value → table_members found ≡ members_in (Some value)
members_of_table None (table pairs) is = absurd cc
members_of_table (Some found) (table pairs) is = cc
members_of_table None value is = refl
members_of_table (Some found) value is = absurd cc

-- with those before it and its own, the lists are good up to the next
pub good_more : (name : List ℕ) (values : List Value) (i : ℕ) → i < length values → (value : Value) → get_or values i value ≡ value
    → IsGoodList (get_member name (members_in (Some (view value)))) → (all : List Members)
    → (AreGoodLists name (tables_of (items_view (drop i values))) → AreGoodLists name all) → AreGoodLists name (tables_of (items_view (drop (i + 1) values))) → AreGoodLists name all
good_more name values i lt value at good all so_far more =
    let left : items_view (drop i values) ≡ item (view value) (items_view (drop (i + 1) values)) =
    items_view-drop values i value lt ∙ ap (λ (v : Value). item (view v) (items_view (drop (i + 1) values))) at in
    so_far (subst (λ (items : Items). AreGoodLists name (tables_of items)) (sym left) (good, more))

-- the list of each of the tables is good
pub good_at : (name : List ℕ) (values : List Value) (i : ℕ) (value : Value) → i < length values → get_or values i value ≡ value → AreGoodLists name (tables_of (items_view values))
    → IsGoodList (get_member name (members_in (Some (view value))))
good_at name [] i value lt at good = absurd (omega (arith, lt))
good_at name (first ∷ values) zero value lt at good = subst (λ (v : Value). IsGoodList (get_member name (members_in (Some (view v))))) at good.0
good_at name (first ∷ values) (suc i) value lt at good = good_at name values i value (omega (arith, lt)) at good.1

pub good_all : (name : List ℕ) (values : List Value) (i : ℕ) → length values ≤ i → (all : List Members)
    → (AreGoodLists name (tables_of (items_view (drop i values))) → AreGoodLists name all) → AreGoodLists name all
good_all name values i le all so_far = so_far (subst (λ (left : List Value). AreGoodLists name (tables_of (items_view left))) (sym (drop_all i values le)) tt)

-- a table whose list is bad is one of them
any_at : (P : Members → Type 0) (values : List Value) (i : ℕ) (value : Value) → i < length values → get_or values i value ≡ value → P (members_in (Some (view value)))
    → Any P (tables_of (items_view values))
any_at P [] i value lt at here = absurd (omega (arith, lt))
any_at P (first ∷ values) zero value lt at here =
    any_first P (members_in (Some (view first))) (tables_of (items_view values)) (subst (λ (v : Value). P (members_in (Some (view v)))) (sym at) here)
any_at P (first ∷ values) (suc i) value lt at here =
    any_later P (members_in (Some (view first))) (tables_of (items_view values)) (any_at P values i value (omega (arith, lt)) at here)

pub one_of_lists : (name path : List ℕ) (values : List Value) (i : ℕ) (value : Value) (f : ConfFault) → i < length values → get_or values i value ≡ value
    → IsListFault (get_member name (members_in (Some (view value)))) path f → IsListsFault name (tables_of (items_view values)) path f
one_of_lists name path values i value fault.Memory lt at h = tt
one_of_lists name path values i value (fault.BadComponents given) lt at h = (h.0, any_at (IsBadIn name) values i value lt at h.1)
one_of_lists name path values i value f lt at h = absurd h

-- ---- the lists of the tables of a document

-- without tables, none of their lists is bad
pub good_without : (document : Members) → None ≡ option_and_then as_array (get_member (codes "policies") document) → HaveGoodTables document
good_without document is =
    let none = no_tables (get_member (codes "policies") document) is in
    record {
      request = subst (λ (tables : List Members). AreGoodLists (codes "require-request") tables) (sym none) tt;
      response = subst (λ (tables : List Members). AreGoodLists (codes "require-response") tables) (sym none) tt;
    }

-- nor where none of the array's is
pub good_found : (document : Members) (items : Items) → Some items ≡ option_and_then as_array (get_member (codes "policies") document) → AreGoodLists (codes "require-request") (tables_of items)
    → AreGoodLists (codes "require-response") (tables_of items) → HaveGoodTables document
good_found document items is requests responses =
    let found = tables_found (get_member (codes "policies") document) items is in
    record {
      request = subst (λ (tables : List Members). AreGoodLists (codes "require-request") tables) (sym found) requests;
      response = subst (λ (tables : List Members). AreGoodLists (codes "require-response") tables) (sym found) responses;
    }

-- what is answered of the array's lists for requests has the number of bad lists
pub requests_fault : (document : Members) (items : Items) (f : ConfFault) → Some items ≡ option_and_then as_array (get_member (codes "policies") document)
    → IsListsFault (codes "require-request") (tables_of items) (codes "policies.require-request") f → IsCauseNumbered 7 document f
requests_fault document items f is h =
    let found = tables_found (get_member (codes "policies") document) items is in
    lists_fault document (codes "require-request") (tables_in (get_member (codes "policies") document)) (codes "policies.require-request") f (each_request_least document)
    (subst (λ (tables : List Members). IsListsFault (codes "require-request") tables (codes "policies.require-request") f) (sym found) h)

-- and of those for responses, where none for requests is bad
pub responses_fault : (document : Members) (items : Items) (f : ConfFault) → Some items ≡ option_and_then as_array (get_member (codes "policies") document)
    → AreGoodLists (codes "require-request") (tables_of items) → IsListsFault (codes "require-response") (tables_of items) (codes "policies.require-response") f → IsCauseNumbered 7 document f
responses_fault document items f is requests h =
    let found = tables_found (get_member (codes "policies") document) items is in
    let good = subst (λ (tables : List Members). AreGoodLists (codes "require-request") tables) (sym found) requests in
    lists_fault document (codes "require-response") (tables_in (get_member (codes "policies") document)) (codes "policies.require-response") f
    (each_response_least document (no_request_bad document good))
    (subst (λ (tables : List Members). IsListsFault (codes "require-response") tables (codes "policies.require-response") f) (sym found) h)

-- ---- the tables of an array, one by one

tables_push : (values : List Value) (value : Value) → tables_of (items_view (values ++ value ∷ [])) ≡ tables_of (items_view values) ++ members_in (Some (view value)) ∷ []
tables_push [] value = refl
tables_push (first ∷ values) value = ap (λ (tables : List Members). members_in (Some (view first)) ∷ tables) (tables_push values value)

zip_more : (tables : List Members) (policies : List Policy) (pairs : Members) (policy : Policy) → AllZip (IsReadPolicy Two) tables policies → IsReadPolicy Two pairs policy
    → AllZip (IsReadPolicy Two) (tables ++ pairs ∷ []) (policies ++ policy ∷ [])
zip_more [] [] pairs policy read more = (more, tt)
zip_more [] (p ∷ policies) pairs policy read more = absurd read
zip_more (first ∷ tables) [] pairs policy read more = absurd read
zip_more (first ∷ tables) (p ∷ policies) pairs policy read more = (read.0, zip_more tables policies pairs policy read.1 more)

-- with the policy of the next value, those of the values so far are read
pub more_read : (values : List Value) (i : ℕ) (value : Value) (policies : List Policy) (policy : Policy) → i < length values → get_or values i value ≡ value
    → AllZip (IsReadPolicy Two) (tables_of (items_view (take i values))) policies → IsReadPolicy Two (members_in (Some (view value))) policy
    → AllZip (IsReadPolicy Two) (tables_of (items_view (take (i + 1) values))) (policies ++ policy ∷ [])
more_read values i value policies policy lt at read more =
    let next : take (i + 1) values ≡ take i values ++ value ∷ [] = take_more values i value lt ∙ ap (λ (v : Value). take i values ++ v ∷ []) at in
    let tables : tables_of (items_view (take (i + 1) values)) ≡ tables_of (items_view (take i values)) ++ members_in (Some (view value)) ∷ [] =
    ap (λ (vs : List Value). tables_of (items_view vs)) next ∙ tables_push (take i values) value in
    subst (λ (ts : List Members). AllZip (IsReadPolicy Two) ts (policies ++ policy ∷ [])) (sym tables)
    (zip_more (tables_of (items_view (take i values))) policies (members_in (Some (view value))) policy read more)

pub all_read : (values : List Value) (i : ℕ) (policies : List Policy) → length values ≤ i → AllZip (IsReadPolicy Two) (tables_of (items_view (take i values))) policies
    → AllZip (IsReadPolicy Two) (tables_of (items_view values)) policies
all_read values i policies le read = subst (λ (vs : List Value). AllZip (IsReadPolicy Two) (tables_of (items_view vs)) policies) (take_all i values le) read
