-- What a document of one version has of the keys of another: nothing, once its keys are judged.
use Rattle.std.proofs.Common.{◌≡◌, ℕ, Bool, true, false, List, [], ◌∷◌, Option, Some, None, IsTrue, codes, refl, sym, ◌∙◌, inl, inr, arith}
use Rattle.std.specs.Prelude.{not}
use Rattle.std.specs.List.{AllByRecursion, AllZip, Any, list_all, list_any}
use Rattle.std.proofs.lemmas.Bool.{cases_Bool, false≢true}
use Rattle.toml.specs.Data.{Data, Members, get_member}
use Rattle.settings.specs.declared.policy.Policy.{Policy}
use Rattle.conf_values.specs.declared.table.TableName.TheVariants.{Policies, Top}
use Rattle.conf_values.specs.declared.table.TableName.TheVariants as place
use Rattle.conf_values.specs.declared.table.Version.{Version}
use Rattle.conf_values.specs.declared.table.Version.TheVariants.{One, Two}
use Rattle.conf_values.specs.Parts.{entries_of, members_in, tables_in}
use Rattle.conf.specs.Paths.{HoldsOfNone}
use Rattle.conf.specs.Sections.{ArePolicies, IsPolicy, policy_tables}
use Rattle.conf.specs.Table.{has_unknown, has_unknown_key, is_table_key, members_at, places, rows, tables_at, version_in}
use Rattle.conf.proofs.AddedLaws.{entry_passes}
use Rattle.conf.proofs.Among.{in_tables, none_of_all, one_fails}
use Rattle.conf.proofs.ListLaws.{not_bad}
use Rattle.conf.proofs.RowFacts.{IsBadIn, NoBadPolicy}

-- ---- names that aren't known

top_known : (document : Members) → HoldsOfNone (λ place. IsTrue (has_unknown document place)) places → IsTrue (has_unknown_key (version_in document) Top document) → ⊥
unfolding places
top_known document known = one_fails (has_unknown_key (version_in document) Top document) known.1.1.1.1.0

all_pass : {X : Type 0} (test : X → Bool) (xs : List X) → (IsTrue (list_any (λ x. not (test x)) xs) → ⊥) → list_all test xs ≡ true
all_pass test [] never = refl
all_pass test (x ∷ xs) never = elim (cases_Bool (test x)) [
  | inl passed ↦ rw (passed, all_pass test xs (rw passed at never)) refl
  | inr failed ↦ absurd (never (rw failed refl))
]

-- a name that isn't known isn't there
absent : (document : Members) (version : Option Version) (name : List ℕ) → (IsTrue (has_unknown_key version Top document) → ⊥) → is_table_key version Top name ≡ false
    → get_member name document ≡ None
absent document version name never unknown = elim (get_member name document) as (λ o. get_member name document ≡ o → o ≡ None) [
  | None ↦ λ e. refl
  | Some value ↦ λ e.
      let all = all_pass (λ (entry : List ℕ × Data). is_table_key version Top entry.0) (entries_of document) never in
      let is = entry_passes (λ (entry : List ℕ × Data). is_table_key version Top entry.0) document name value all e in
      absurd (false≢true (sym unknown ∙ is))
] refl

policies_unknown : is_table_key (Some One) Top (codes "policies") ≡ false
unfolding rows
policies_unknown = refl

policy_unknown : is_table_key (Some Two) Top (codes "policy") ≡ false
unfolding rows
policy_unknown = refl

-- ---- lists of policies of the other version

none_among : (P : Members → Type 0) (value : Option Data) → value ≡ None → Any P (tables_in value) → ⊥
none_among P None is some = absurd (omega (arith, some.2))
none_among P (Some value) is some = absurd (cc is)

none_there : (name : List ℕ) (value : Option Data) → value ≡ None → IsBadIn name (members_in value) → ⊥
none_there name None is bad = bad
none_there name (Some value) is bad = absurd (cc is)

requests_good : (version : Version) (tables : List Members) (policies : List Policy) → AllZip (IsPolicy version) tables policies
    → AllByRecursion (λ pairs. ¬ IsBadIn (codes "require-request") pairs) tables
requests_good version [] policies says = tt
requests_good version (pairs ∷ tables) [] says = absurd says
requests_good version (pairs ∷ tables) (policy ∷ policies) says =
    (not_bad (get_member (codes "require-request") pairs) policy.require_request says.0.require_request, requests_good version tables policies says.1)

responses_good : (version : Version) (tables : List Members) (policies : List Policy) → AllZip (IsPolicy version) tables policies
    → AllByRecursion (λ pairs. ¬ IsBadIn (codes "require-response") pairs) tables
responses_good version [] policies says = tt
responses_good version (pairs ∷ tables) [] says = absurd says
responses_good version (pairs ∷ tables) (policy ∷ policies) says =
    (not_bad (get_member (codes "require-response") pairs) policy.require_response says.0.require_response, responses_good version tables policies says.1)

-- no list is bad, where the document says policies
pub policies_fine : (document : Members) (version : Option Version) (policies : List Policy) → version_in document ≡ version
    → HoldsOfNone (λ place. IsTrue (has_unknown document place)) places → ArePolicies version document policies → NoBadPolicy document
policies_fine document None policies is known says = absurd says
policies_fine document (Some One) policies is known says =
    let gone = absent document (Some One) (codes "policies") (rw is at (top_known document known)) policies_unknown in
    record {
      each_request = none_among (IsBadIn (codes "require-request")) (get_member (codes "policies") document) gone;
      each_response = none_among (IsBadIn (codes "require-response")) (get_member (codes "policies") document) gone;
      request = (requests_good One (members_at document place.Policy ∷ []) policies says).0;
      response = (responses_good One (members_at document place.Policy ∷ []) policies says).0;
    }
policies_fine document (Some Two) policies is known says =
    let value = get_member (codes "policies") document in
    let gone = absent document (Some Two) (codes "policy") (rw is at (top_known document known)) policy_unknown in
    record {
      each_request = none_of_all (IsBadIn (codes "require-request")) (tables_at document Policies)
          (in_tables (λ pairs. ¬ IsBadIn (codes "require-request") pairs) value (requests_good Two (policy_tables value) policies says));
      each_response = none_of_all (IsBadIn (codes "require-response")) (tables_at document Policies)
          (in_tables (λ pairs. ¬ IsBadIn (codes "require-response") pairs) value (responses_good Two (policy_tables value) policies says));
      request = none_there (codes "require-request") (get_member (codes "policy") document) gone;
      response = none_there (codes "require-response") (get_member (codes "policy") document) gone;
    }
