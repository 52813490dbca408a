-- What holds at each row of the table.
use Rattle.std.proofs.Common.{◌≡◌, ◌++◌, ◌&&◌, ◌||◌, ℕ, Bool, true, false, List, [], ◌∷◌, take, drop, Option, Some, None, IsTrue, codes, refl, sym, ◌∙◌, inl, inr}
use Rattle.std.specs.Prelude.{is_none, is_some, nat_lt}
use Rattle.std.specs.List.{AllByRecursion, Any, filter, find, list_any}
use Rattle.std.specs.Str.{bytes_eq}
use Rattle.std.proofs.lemmas.Bool.{cases_Bool, false≢true}
use Rattle.toml.specs.Data.{Data, Members, get_member}
use Rattle.nonces.specs.declared.limits.TheConstants.{MAX_WINDOW}
use Rattle.conf_values.specs.declared.table.TableName.{TableName}
use Rattle.conf_values.specs.declared.table.TableName.TheVariants.{Gateway, Policies, Policy, Sign}
use Rattle.conf_values.specs.declared.table.ValueRule.{ValueRule}
use Rattle.conf_values.specs.declared.table.ValueRule.TheVariants as rule
use Rattle.conf_values.specs.Values.{has_type, is_allowed, window}
use Rattle.conf.specs.Rows.{clashes, fails, is_ill_typed, is_out_of_range}
use Rattle.conf.specs.Table.{HoldsOfValue, Row, rows, at_gateway, at_policies, at_policy, at_sign, at_top, row_value, has_place, is_missing, members_at, tables_at}
use Rattle.conf.specs.Paths.{HoldsOfNone}
use Rattle.conf.specs.Refusals.{HasBadKeyText, HasBadStep, IsBadList, IsLeastRow}
use Rattle.conf.specs.tools.Judged.{IsJudged}
use Rattle.conf.specs.tools.SectionReads.{AreGoodLists, HaveGoodLists, value_of}
use Rattle.conf.proofs.Among.{any_first, any_one, each_fails, neither, none_of_all, one_fails}
use Rattle.conf.proofs.LeastLaws.{least_at}
use Rattle.conf.proofs.RowLaws.{rows_ascend}

-- a value that doesn't fail passes
pub passes : (test : Data → Bool) (value : Option Data) (given : Data) → (IsTrue (fails test value) → ⊥) → value ≡ Some given → test given ≡ true
passes test value given never is = elim (cases_Bool (test given)) [
  | inl passed ↦ passed
  | inr failed ↦ absurd (never (rw (is, failed) refl))
]

-- what holds of none doesn't hold of one that is found
none_of_found : {X : Type 0} (P : X → Type 0) (test : X → Bool) (xs : List X) (x : X) → find test xs ≡ Some x → HoldsOfNone P xs → P x → ⊥
none_of_found P test [] x found none here = absurd cc
none_of_found P test (y ∷ xs) x found none here = elim (cases_Bool (test y)) [
  | inl passed ↦ let same : y ≡ x = cc (rw passed at found) in none.0 (rw same here)
  | inr failed ↦ none_of_found P test xs x (rw failed at found) none.1 here
]

-- nor of the row of a path
none_of_path : (P : Row → Type 0) (path : List ℕ) (row : Row) → find (λ (r : Row). bytes_eq r.path path) rows ≡ Some row → HoldsOfNone P rows → P row → ⊥
none_of_path P path row found none here = none_of_found P (λ (r : Row). bytes_eq r.path path) rows row found none here

-- what holds only of those that pass holds of none, where it holds of none of these
none_but : {X : Type 0} (P : X → Type 0) (test : X → Bool) (xs : List X) → ((x : X) → P x → test x ≡ true) → HoldsOfNone P (filter test xs) → HoldsOfNone P xs
none_but P test [] only none = tt
none_but P test (x ∷ xs) only none = elim (cases_Bool (test x)) [
  | inl passed ↦
      let both : HoldsOfNone P (x ∷ filter test xs) = rw passed at none in
      (both.0, none_but P test xs only both.1)
  | inr failed ↦ (λ here. false≢true (sym failed ∙ only x here), none_but P test xs only (rw failed at none))
]

-- ---- types

pub version_typed : (document : Members) → IsJudged document → (IsTrue (fails (has_type rule.Version) (get_member (codes "version") document)) → ⊥)
unfolding rows
version_typed document judged =
    one_fails (fails (has_type rule.Version) (get_member (codes "version") document)) (none_of_path (λ (row : Row). IsTrue (is_ill_typed document row)) (codes "version") _ refl judged.typed)

pub keys_typed : (document : Members) → IsJudged document → (IsTrue (fails (has_type rule.Keys) (get_member (codes "keys") document)) → ⊥)
unfolding rows
keys_typed document judged =
    one_fails (fails (has_type rule.Keys) (get_member (codes "keys") document)) (none_of_path (λ (row : Row). IsTrue (is_ill_typed document row)) (codes "keys") _ refl judged.typed)

pub types_typed : (document : Members) → IsJudged document → (IsTrue (fails (has_type rule.Types) (get_member (codes "types") document)) → ⊥)
unfolding rows
types_typed document judged =
    one_fails (fails (has_type rule.Types) (get_member (codes "types") document)) (none_of_path (λ (row : Row). IsTrue (is_ill_typed document row)) (codes "types") _ refl judged.typed)

pub policies_typed : (document : Members) → IsJudged document → (IsTrue (fails (has_type rule.Policies) (get_member (codes "policies") document)) → ⊥)
unfolding rows
policies_typed document judged =
    one_fails (fails (has_type rule.Policies) (get_member (codes "policies") document)) (none_of_path (λ (row : Row). IsTrue (is_ill_typed document row)) (codes "policies") _ refl judged.typed)

pub sign_typed : (document : Members) → IsJudged document → (IsTrue (fails (has_type rule.Table) (get_member (codes "sign") document)) → ⊥)
unfolding rows
sign_typed document judged =
    one_fails (fails (has_type rule.Table) (get_member (codes "sign") document)) (none_of_path (λ (row : Row). IsTrue (is_ill_typed document row)) (codes "sign") _ refl judged.typed)

pub gateway_typed : (document : Members) → IsJudged document → (IsTrue (fails (has_type rule.Table) (get_member (codes "gateway") document)) → ⊥)
unfolding rows
gateway_typed document judged =
    one_fails (fails (has_type rule.Table) (get_member (codes "gateway") document)) (none_of_path (λ (row : Row). IsTrue (is_ill_typed document row)) (codes "gateway") _ refl judged.typed)

pub require_request_typed : (document : Members) → IsJudged document → (IsTrue (fails (has_type rule.Components) (value_of document Policy (codes "require-request"))) → ⊥)
unfolding rows
require_request_typed document judged =
    one_fails (fails (has_type rule.Components) (value_of document Policy (codes "require-request"))) (none_of_path (λ (row : Row). IsTrue (is_ill_typed document row)) (codes "policy.require-request") _ refl judged.typed)

pub require_response_typed : (document : Members) → IsJudged document → (IsTrue (fails (has_type rule.Components) (value_of document Policy (codes "require-response"))) → ⊥)
unfolding rows
require_response_typed document judged =
    one_fails (fails (has_type rule.Components) (value_of document Policy (codes "require-response"))) (none_of_path (λ (row : Row). IsTrue (is_ill_typed document row)) (codes "policy.require-response") _ refl judged.typed)

pub request_typed : (document : Members) → IsJudged document → (IsTrue (fails (has_type rule.Components) (value_of document Sign (codes "components-request"))) → ⊥)
unfolding rows
request_typed document judged =
    one_fails (fails (has_type rule.Components) (value_of document Sign (codes "components-request"))) (none_of_path (λ (row : Row). IsTrue (is_ill_typed document row)) (codes "sign.components-request") _ refl judged.typed)

pub response_typed : (document : Members) → IsJudged document → (IsTrue (fails (has_type rule.Components) (value_of document Sign (codes "components-response"))) → ⊥)
unfolding rows
response_typed document judged =
    one_fails (fails (has_type rule.Components) (value_of document Sign (codes "components-response"))) (none_of_path (λ (row : Row). IsTrue (is_ill_typed document row)) (codes "sign.components-response") _ refl judged.typed)

pub keyid_typed : (document : Members) → IsJudged document → (IsTrue (fails (has_type rule.Keyid) (value_of document Sign (codes "keyid"))) → ⊥)
unfolding rows
keyid_typed document judged =
    one_fails (fails (has_type rule.Keyid) (value_of document Sign (codes "keyid"))) (none_of_path (λ (row : Row). IsTrue (is_ill_typed document row)) (codes "sign.keyid") _ refl judged.typed)

pub label_typed : (document : Members) → IsJudged document → (IsTrue (fails (has_type rule.Label) (value_of document Sign (codes "label"))) → ⊥)
unfolding rows
label_typed document judged =
    one_fails (fails (has_type rule.Label) (value_of document Sign (codes "label"))) (none_of_path (λ (row : Row). IsTrue (is_ill_typed document row)) (codes "sign.label") _ refl judged.typed)

pub steps_typed : (document : Members) → IsJudged document → (IsTrue (fails (has_type rule.Steps) (value_of document Gateway (codes "steps"))) → ⊥)
unfolding rows
steps_typed document judged =
    one_fails (fails (has_type rule.Steps) (value_of document Gateway (codes "steps"))) (none_of_path (λ (row : Row). IsTrue (is_ill_typed document row)) (codes "gateway.steps") _ refl judged.typed)

pub each_request_typed : (document : Members) → IsJudged document → AllByRecursion (λ pairs. IsTrue (fails (has_type rule.Components) (get_member (codes "require-request") pairs)) → ⊥) (tables_at document Policies)
unfolding rows
each_request_typed document judged =
    each_fails (λ (pairs : Members). fails (has_type rule.Components) (get_member (codes "require-request") pairs)) (tables_at document Policies)
    (none_of_path (λ (row : Row). IsTrue (is_ill_typed document row)) (codes "policies.require-request") _ refl judged.typed)

pub each_response_typed : (document : Members) → IsJudged document → AllByRecursion (λ pairs. IsTrue (fails (has_type rule.Components) (get_member (codes "require-response") pairs)) → ⊥) (tables_at document Policies)
unfolding rows
each_response_typed document judged =
    each_fails (λ (pairs : Members). fails (has_type rule.Components) (get_member (codes "require-response") pairs)) (tables_at document Policies)
    (none_of_path (λ (row : Row). IsTrue (is_ill_typed document row)) (codes "policies.require-response") _ refl judged.typed)

-- ---- ranges

pub version_allowed : (document : Members) → IsJudged document → (IsTrue (fails (is_allowed document rule.Version) (get_member (codes "version") document)) → ⊥)
unfolding rows
version_allowed document judged =
    one_fails (fails (is_allowed document rule.Version) (get_member (codes "version") document)) (none_of_path (λ (row : Row). IsTrue (is_out_of_range document row)) (codes "version") _ refl judged.allowed)

pub keys_allowed : (document : Members) → IsJudged document → (IsTrue (fails (is_allowed document rule.Keys) (get_member (codes "keys") document)) → ⊥)
unfolding rows
keys_allowed document judged =
    one_fails (fails (is_allowed document rule.Keys) (get_member (codes "keys") document)) (none_of_path (λ (row : Row). IsTrue (is_out_of_range document row)) (codes "keys") _ refl judged.allowed)

pub types_allowed : (document : Members) → IsJudged document → (IsTrue (fails (is_allowed document rule.Types) (get_member (codes "types") document)) → ⊥)
unfolding rows
types_allowed document judged =
    one_fails (fails (is_allowed document rule.Types) (get_member (codes "types") document)) (none_of_path (λ (row : Row). IsTrue (is_out_of_range document row)) (codes "types") _ refl judged.allowed)

pub policies_allowed : (document : Members) → IsJudged document → (IsTrue (fails (is_allowed document rule.Policies) (get_member (codes "policies") document)) → ⊥)
unfolding rows
policies_allowed document judged =
    one_fails (fails (is_allowed document rule.Policies) (get_member (codes "policies") document)) (none_of_path (λ (row : Row). IsTrue (is_out_of_range document row)) (codes "policies") _ refl judged.allowed)

pub kept_allowed : (document : Members) → IsJudged document → (IsTrue (fails (is_allowed document rule.Nonces) (get_member (codes "nonces") document)) → ⊥)
unfolding rows
kept_allowed document judged =
    one_fails (fails (is_allowed document rule.Nonces) (get_member (codes "nonces") document)) (none_of_path (λ (row : Row). IsTrue (is_out_of_range document row)) (codes "nonces") _ refl judged.allowed)

pub skew_allowed : (document : Members) → IsJudged document → (IsTrue (fails (is_allowed document rule.Skew) (value_of document Policy (codes "skew"))) → ⊥)
unfolding rows
skew_allowed document judged =
    one_fails (fails (is_allowed document rule.Skew) (value_of document Policy (codes "skew"))) (none_of_path (λ (row : Row). IsTrue (is_out_of_range document row)) (codes "policy.skew") _ refl judged.allowed)

pub nonces_allowed : (document : Members) → IsJudged document → (IsTrue (fails (is_allowed document rule.Nonces) (value_of document Policy (codes "nonces"))) → ⊥)
unfolding rows
nonces_allowed document judged =
    one_fails (fails (is_allowed document rule.Nonces) (value_of document Policy (codes "nonces"))) (none_of_path (λ (row : Row). IsTrue (is_out_of_range document row)) (codes "policy.nonces") _ refl judged.allowed)

pub policy_tag_allowed : (document : Members) → IsJudged document → (IsTrue (fails (is_allowed document rule.Tag) (value_of document Policy (codes "tag"))) → ⊥)
unfolding rows
policy_tag_allowed document judged =
    one_fails (fails (is_allowed document rule.Tag) (value_of document Policy (codes "tag"))) (none_of_path (λ (row : Row). IsTrue (is_out_of_range document row)) (codes "policy.tag") _ refl judged.allowed)

pub seconds_allowed : (document : Members) → IsJudged document → (IsTrue (fails (is_allowed document rule.Seconds) (value_of document Sign (codes "expires-after"))) → ⊥)
unfolding rows
seconds_allowed document judged =
    one_fails (fails (is_allowed document rule.Seconds) (value_of document Sign (codes "expires-after"))) (none_of_path (λ (row : Row). IsTrue (is_out_of_range document row)) (codes "sign.expires-after") _ refl judged.allowed)

pub keyid_allowed : (document : Members) → IsJudged document → (IsTrue (fails (is_allowed document rule.Keyid) (value_of document Sign (codes "keyid"))) → ⊥)
unfolding rows
keyid_allowed document judged =
    one_fails (fails (is_allowed document rule.Keyid) (value_of document Sign (codes "keyid"))) (none_of_path (λ (row : Row). IsTrue (is_out_of_range document row)) (codes "sign.keyid") _ refl judged.allowed)

pub label_allowed : (document : Members) → IsJudged document → (IsTrue (fails (is_allowed document rule.Label) (value_of document Sign (codes "label"))) → ⊥)
unfolding rows
label_allowed document judged =
    one_fails (fails (is_allowed document rule.Label) (value_of document Sign (codes "label"))) (none_of_path (λ (row : Row). IsTrue (is_out_of_range document row)) (codes "sign.label") _ refl judged.allowed)

pub tag_allowed : (document : Members) → IsJudged document → (IsTrue (fails (is_allowed document rule.Tag) (value_of document Sign (codes "tag"))) → ⊥)
unfolding rows
tag_allowed document judged =
    one_fails (fails (is_allowed document rule.Tag) (value_of document Sign (codes "tag"))) (none_of_path (λ (row : Row). IsTrue (is_out_of_range document row)) (codes "sign.tag") _ refl judged.allowed)

pub gateway_label_allowed : (document : Members) → IsJudged document → (IsTrue (fails (is_allowed document rule.Label) (value_of document Gateway (codes "label"))) → ⊥)
unfolding rows
gateway_label_allowed document judged =
    one_fails (fails (is_allowed document rule.Label) (value_of document Gateway (codes "label"))) (none_of_path (λ (row : Row). IsTrue (is_out_of_range document row)) (codes "gateway.label") _ refl judged.allowed)

pub steps_allowed : (document : Members) → IsJudged document → (IsTrue (fails (is_allowed document rule.Steps) (value_of document Gateway (codes "steps"))) → ⊥)
unfolding rows
steps_allowed document judged =
    one_fails (fails (is_allowed document rule.Steps) (value_of document Gateway (codes "steps"))) (none_of_path (λ (row : Row). IsTrue (is_out_of_range document row)) (codes "gateway.steps") _ refl judged.allowed)

-- seconds are in their range, and no values clash
max_age_passes : (document : Members) → IsJudged document
    → (IsTrue (clashes document rule.MaxAge || (fails (is_allowed document rule.MaxAge) (value_of document Policy (codes "max-age")) || false)) → ⊥)
unfolding rows
max_age_passes document judged = none_of_path (λ (row : Row). IsTrue (is_out_of_range document row)) (codes "policy.max-age") _ refl judged.allowed

pub max_age_allowed : (document : Members) → IsJudged document → (IsTrue (fails (is_allowed document rule.MaxAge) (value_of document Policy (codes "max-age"))) → ⊥)
max_age_allowed document judged =
    let age = fails (is_allowed document rule.MaxAge) (value_of document Policy (codes "max-age")) in
    one_fails age (neither (clashes document rule.MaxAge) (age || false) (max_age_passes document judged)).1

pub none_clash : (document : Members) → IsJudged document → (IsTrue (clashes document rule.MaxAge) → ⊥)
none_clash document judged =
    let age = fails (is_allowed document rule.MaxAge) (value_of document Policy (codes "max-age")) in
    (neither (clashes document rule.MaxAge) (age || false) (max_age_passes document judged)).0

-- ---- ranges in the tables of `policies`

-- the value of that name fails the rule's test
abbrev pub is_bad_in : Members → ValueRule → List ℕ → Members → Bool
is_bad_in document r name pairs = fails (is_allowed document r) (get_member name pairs)

each_age_passes : (document : Members) → IsJudged document
    → (IsTrue (clashes document rule.LongMaxAge || list_any (is_bad_in document rule.LongMaxAge (codes "max-age")) (tables_at document Policies)) → ⊥)
unfolding rows
each_age_passes document judged = none_of_path (λ (row : Row). IsTrue (is_out_of_range document row)) (codes "policies.max-age") _ refl judged.allowed

pub each_age_allowed : (document : Members) → IsJudged document → AllByRecursion (λ pairs. IsTrue (is_bad_in document rule.LongMaxAge (codes "max-age") pairs) → ⊥) (tables_at document Policies)
each_age_allowed document judged =
    let bad = is_bad_in document rule.LongMaxAge (codes "max-age") in
    each_fails bad (tables_at document Policies) (neither (clashes document rule.LongMaxAge) (list_any bad (tables_at document Policies)) (each_age_passes document judged)).1

pub each_window_fits : (document : Members) → IsJudged document → AllByRecursion (λ pairs. IsTrue (nat_lt MAX_WINDOW (window pairs)) → ⊥) (tables_at document Policies)
each_window_fits document judged =
    let bad = is_bad_in document rule.LongMaxAge (codes "max-age") in
    each_fails (λ (pairs : Members). nat_lt MAX_WINDOW (window pairs)) (tables_at document Policies)
    (neither (clashes document rule.LongMaxAge) (list_any bad (tables_at document Policies)) (each_age_passes document judged)).0

pub each_skew_allowed : (document : Members) → IsJudged document → AllByRecursion (λ pairs. IsTrue (is_bad_in document rule.Skew (codes "skew") pairs) → ⊥) (tables_at document Policies)
unfolding rows
each_skew_allowed document judged =
    each_fails (is_bad_in document rule.Skew (codes "skew")) (tables_at document Policies)
    (none_of_path (λ (row : Row). IsTrue (is_out_of_range document row)) (codes "policies.skew") _ refl judged.allowed)

pub each_tag_allowed : (document : Members) → IsJudged document → AllByRecursion (λ pairs. IsTrue (is_bad_in document rule.Tag (codes "tag") pairs) → ⊥) (tables_at document Policies)
unfolding rows
each_tag_allowed document judged =
    each_fails (is_bad_in document rule.Tag (codes "tag")) (tables_at document Policies)
    (none_of_path (λ (row : Row). IsTrue (is_out_of_range document row)) (codes "policies.tag") _ refl judged.allowed)

-- ---- keys that are there

there : (has : Bool) (value : Option Data) → has ≡ true → (IsTrue (has && is_none value) → ⊥) → is_some value ≡ true
there has None known never = absurd (never (rw known refl))
there has (Some value) known never = refl

pub keyid_there : (document : Members) → HoldsOfNone (λ row. IsTrue (is_missing document row)) rows → has_place document Sign ≡ true → is_some (value_of document Sign (codes "keyid")) ≡ true
unfolding rows
keyid_there document complete has = there (has_place document Sign) (value_of document Sign (codes "keyid")) has (none_of_path (λ (row : Row). IsTrue (is_missing document row)) (codes "sign.keyid") _ refl complete)

pub label_there : (document : Members) → HoldsOfNone (λ row. IsTrue (is_missing document row)) rows → has_place document Sign ≡ true → is_some (value_of document Sign (codes "label")) ≡ true
unfolding rows
label_there document complete has = there (has_place document Sign) (value_of document Sign (codes "label")) has (none_of_path (λ (row : Row). IsTrue (is_missing document row)) (codes "sign.label") _ refl complete)

-- ---- key texts

abbrev is_keys : ValueRule → Bool
is_keys rule.Keys = true
is_keys other = false

only_keys : (r : ValueRule) (value : Option Data) → HasBadKeyText r value → is_keys r ≡ true
only_keys rule.Keys value bad = refl
only_keys r value bad = absurd bad

pub texts_fine : (document : Members) → (HasBadKeyText rule.Keys (get_member (codes "keys") document) → ⊥) → HoldsOfNone (λ row. HasBadKeyText row.rule (row_value document row)) rows
unfolding rows
texts_fine document fine =
    none_but (λ (row : Row). HasBadKeyText row.rule (row_value document row)) (λ (row : Row). is_keys row.rule) rows (λ row bad. only_keys row.rule (row_value document row) bad) (fine, tt)

pub keys_least : (document : Members) → HasBadKeyText rule.Keys (get_member (codes "keys") document) → IsLeastRow (λ row. HasBadKeyText row.rule (row_value document row)) (codes "keys")
unfolding rows
keys_least document bad =
    least_at (λ (row : Row). row.path) (λ (row : Row). HasBadKeyText row.rule (row_value document row)) (take 3 rows) (at_top (codes "keys") rule.Keys) (drop 4 rows) rows_ascend
    (none_but (λ (row : Row). HasBadKeyText row.rule (row_value document row)) (λ (row : Row). is_keys row.rule) (take 3 rows) (λ row bad. only_keys row.rule (row_value document row) bad) tt) bad

-- ---- lists

abbrev is_list : ValueRule → Bool
is_list rule.Components = true
is_list other = false

only_lists : (r : ValueRule) (value : Option Data) → IsBadList r value → is_list r ≡ true
only_lists rule.Components value bad = refl
only_lists r value bad = absurd bad

-- the list of the key is bad, in one of its tables
abbrev IsBadRow : Members → Row → Type 0
IsBadRow document row = HoldsOfValue (IsBadList row.rule) document row

-- no row is bad, where none of a list is
none_of_lists : (document : Members) (xs : List Row) → HoldsOfNone (IsBadRow document) (filter (λ (row : Row). is_list row.rule) xs) → HoldsOfNone (IsBadRow document) xs
none_of_lists document xs none = none_but (IsBadRow document) (λ (row : Row). is_list row.rule) xs (λ row bad. only_lists row.rule (get_member row.key bad.1) bad.4) none

-- a bad row is the least, where no list before it is bad
bad_is_least : (document : Members) (before : List Row) (row : Row) (after : List Row) → before ++ row ∷ after ≡ rows
    → HoldsOfNone (IsBadRow document) (filter (λ (r : Row). is_list r.rule) before) → IsBadRow document row → IsLeastRow (IsBadRow document) row.path
bad_is_least document before row after all none bad =
    rw (← all) (least_at (λ (r : Row). r.path) (IsBadRow document) before row after (rw all rows_ascend) (none_of_lists document before none) bad)

-- the value of that name is a bad list
abbrev pub IsBadIn : List ℕ → Members → Type 0
IsBadIn name pairs = IsBadList rule.Components (get_member name pairs)

abbrev pub IsBad : Members → TableName → List ℕ → Type 0
IsBad document place name = IsBadIn name (members_at document place)

-- one of the tables of `policies` has such a list
abbrev pub IsBadAmong : Members → List ℕ → Type 0
IsBadAmong document name = Any (IsBadIn name) (tables_at document Policies)

-- of one table alone
not_in_one : (document : Members) (place : TableName) (name : List ℕ) → (IsBad document place name → ⊥) → Any (IsBadIn name) (members_at document place ∷ []) → ⊥
not_in_one document place name fine some = fine (any_one (IsBadIn name) (members_at document place) some)

in_one : (document : Members) (place : TableName) (name : List ℕ) → IsBad document place name → Any (IsBadIn name) (members_at document place ∷ [])
in_one document place name bad = any_first (IsBadIn name) (members_at document place) [] bad

-- no policy of the document has a bad list
pub record NoBadPolicy (document : Members) : Type 0 where
  pub each_request : IsBadAmong document (codes "require-request") → ⊥
  pub each_response : IsBadAmong document (codes "require-response") → ⊥
  pub request : IsBad document Policy (codes "require-request") → ⊥
  pub response : IsBad document Policy (codes "require-response") → ⊥

pub no_request_bad : (document : Members) → AreGoodLists (codes "require-request") (tables_at document Policies) → IsBadAmong document (codes "require-request") → ⊥
no_request_bad document good = none_of_all (IsBadIn (codes "require-request")) (tables_at document Policies) good

pub no_response_bad : (document : Members) → AreGoodLists (codes "require-response") (tables_at document Policies) → IsBadAmong document (codes "require-response") → ⊥
no_response_bad document good = none_of_all (IsBadIn (codes "require-response")) (tables_at document Policies) good

pub none_bad : (document : Members) → HaveGoodLists document → NoBadPolicy document
none_bad document good = record {
  each_request = no_request_bad document good.tables.request;
  each_response = no_response_bad document good.tables.response;
  request = good.request;
  response = good.response;
}

pub lists_fine : (document : Members) → NoBadPolicy document → (IsBad document Sign (codes "components-request") → ⊥) → (IsBad document Sign (codes "components-response") → ⊥)
    → HoldsOfNone (λ row. HoldsOfValue (IsBadList row.rule) document row) rows
unfolding rows
lists_fine document fine third fourth =
    none_of_lists document rows (
      fine.each_request,
      (
        fine.each_response,
        (
          not_in_one document Policy (codes "require-request") fine.request,
          (
            not_in_one document Policy (codes "require-response") fine.response,
            (not_in_one document Sign (codes "components-request") third, (not_in_one document Sign (codes "components-response") fourth, tt)),
          ),
        ),
      ),
    )

pub each_request_least : (document : Members) → IsBadAmong document (codes "require-request")
    → IsLeastRow (λ row. HoldsOfValue (IsBadList row.rule) document row) (codes "policies.require-request")
unfolding rows
each_request_least document bad =
    bad_is_least document (take 10 rows) (at_policies (codes "policies.require-request") (codes "require-request") rule.Components) (drop 11 rows) refl tt bad

pub each_response_least : (document : Members) → (IsBadAmong document (codes "require-request") → ⊥) → IsBadAmong document (codes "require-response")
    → IsLeastRow (λ row. HoldsOfValue (IsBadList row.rule) document row) (codes "policies.require-response")
unfolding rows
each_response_least document first bad =
    bad_is_least document (take 11 rows) (at_policies (codes "policies.require-response") (codes "require-response") rule.Components) (drop 12 rows) refl (first, tt) bad

pub require_request_least : (document : Members) → (IsBadAmong document (codes "require-request") → ⊥) → (IsBadAmong document (codes "require-response") → ⊥)
    → IsBad document Policy (codes "require-request") → IsLeastRow (λ row. HoldsOfValue (IsBadList row.rule) document row) (codes "policy.require-request")
unfolding rows
require_request_least document first second bad =
    bad_is_least document (take 20 rows) (at_policy (codes "policy.require-request") (codes "require-request") rule.Components) (drop 21 rows) refl (first, (second, tt))
    (in_one document Policy (codes "require-request") bad)

pub require_response_least : (document : Members) → (IsBadAmong document (codes "require-request") → ⊥) → (IsBadAmong document (codes "require-response") → ⊥)
    → (IsBad document Policy (codes "require-request") → ⊥) → IsBad document Policy (codes "require-response")
    → IsLeastRow (λ row. HoldsOfValue (IsBadList row.rule) document row) (codes "policy.require-response")
unfolding rows
require_response_least document first second third bad =
    bad_is_least document (take 21 rows) (at_policy (codes "policy.require-response") (codes "require-response") rule.Components) (drop 22 rows) refl
    (first, (second, (not_in_one document Policy (codes "require-request") third, tt))) (in_one document Policy (codes "require-response") bad)

pub request_least : (document : Members) → NoBadPolicy document → IsBad document Sign (codes "components-request")
    → IsLeastRow (λ row. HoldsOfValue (IsBadList row.rule) document row) (codes "sign.components-request")
unfolding rows
request_least document fine bad =
    bad_is_least document (take 27 rows) (at_sign (codes "sign.components-request") (codes "components-request") rule.Components) (drop 28 rows) refl (
      fine.each_request,
      (
        fine.each_response,
        (not_in_one document Policy (codes "require-request") fine.request, (not_in_one document Policy (codes "require-response") fine.response, tt)),
      ),
    )
    (in_one document Sign (codes "components-request") bad)

pub response_least : (document : Members) → NoBadPolicy document → (IsBad document Sign (codes "components-request") → ⊥) → IsBad document Sign (codes "components-response")
    → IsLeastRow (λ row. HoldsOfValue (IsBadList row.rule) document row) (codes "sign.components-response")
unfolding rows
response_least document fine first bad =
    bad_is_least document (take 28 rows) (at_sign (codes "sign.components-response") (codes "components-response") rule.Components) (drop 29 rows) refl (
      fine.each_request,
      (
        fine.each_response,
        (
          not_in_one document Policy (codes "require-request") fine.request,
          (
            not_in_one document Policy (codes "require-response") fine.response,
            (not_in_one document Sign (codes "components-request") first, tt),
          ),
        ),
      ),
    )
    (in_one document Sign (codes "components-response") bad)

-- ---- steps

abbrev is_steps : ValueRule → Bool
is_steps rule.Steps = true
is_steps other = false

only_steps : (r : ValueRule) (value : Option Data) → HasBadStep r value → is_steps r ≡ true
only_steps rule.Steps value bad = refl
only_steps r value bad = absurd bad

pub steps_fine : (document : Members) → (HasBadStep rule.Steps (value_of document Gateway (codes "steps")) → ⊥) → HoldsOfNone (λ row. HasBadStep row.rule (row_value document row)) rows
unfolding rows
steps_fine document fine =
    none_but (λ (row : Row). HasBadStep row.rule (row_value document row)) (λ (row : Row). is_steps row.rule) rows (λ row bad. only_steps row.rule (row_value document row) bad) (fine, tt)

pub steps_least : (document : Members) → HasBadStep rule.Steps (value_of document Gateway (codes "steps")) → IsLeastRow (λ row. HasBadStep row.rule (row_value document row)) (codes "gateway.steps")
unfolding rows
steps_least document bad =
    least_at (λ (row : Row). row.path) (λ (row : Row). HasBadStep row.rule (row_value document row)) (take 2 rows) (at_gateway (codes "gateway.steps") (codes "steps") rule.Steps) (drop 3 rows) rows_ascend
    (none_but (λ (row : Row). HasBadStep row.rule (row_value document row)) (λ (row : Row). is_steps row.rule) (take 2 rows) (λ row bad. only_steps row.rule (row_value document row) bad) tt) bad
