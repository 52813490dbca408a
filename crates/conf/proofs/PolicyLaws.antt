-- Policies that were judged and read are valid.
use Rattle.std.proofs.Common.{◌≡◌, ◌≤◌, ◌||◌, ℕ, ℤ, pos, negsuc, zero, suc, Bool, true, false, List, [], ◌∷◌, length, Option, Some, None, IsTrue, codes, refl, sym, ap, ◌∙◌, arith, inl, inr}
use Rattle.std.specs.Prelude.{not, nat_lt, option_and_then, slice_get}
use Rattle.std.specs.List.{AllByRecursion, AllZip, list_all, list_any}
use Rattle.std.proofs.lemmas.Bool.{and_parts, cases_Bool, false≢true}
use Rattle.std.proofs.lemmas.Bool.Decides.{nat_tests}
use Rattle.std.proofs.lemmas.List.{length-map}
use Rattle.std.proofs.lemmas.List.Elements.{All-from_recursion}
use Rattle.std.proofs.lemmas.Slice.Eq.{bytes_eq-Decides}
use Rattle.std.proofs.lemmas.Slice.Zip.{AllZip-long}
use Rattle.sfv_text.specs.Range.{is_string_byte}
use Rattle.toml.specs.Data.{Data, Members, no_members, string, integer, array, as_str, get_member}
use Rattle.nonces.specs.declared.limits.TheConstants.{MAX_ENTRIES, MAX_WINDOW}
use Rattle.settings.specs.declared.limits.TheConstants.{DAY_WINDOW, DEFAULT_MAX_AGE, DEFAULT_SKEW, MAX_AGE, MAX_POLICIES, MAX_SKEW}
use Rattle.settings.specs.declared.policy.Policy.{Policy}
use Rattle.settings.specs.ValidPolicies.{AreValidPolicies, SelectDistinct}
use Rattle.settings.specs.ValidSections.{IsValidPolicy}
use Rattle.conf_values.specs.declared.table.TableName.TheVariants as place
use Rattle.conf_values.specs.declared.table.ValueRule.{ValueRule}
use Rattle.conf_values.specs.declared.table.ValueRule.TheVariants as rule
use Rattle.conf_values.specs.declared.table.Version.{Version}
use Rattle.conf_values.specs.declared.table.Version.TheVariants.{One, Two}
use Rattle.conf_values.specs.Parts.{members_in, tables_in, values_of}
use Rattle.conf_values.specs.Values.{has_type, have_distinct_tags, is_allowed, is_same_tag, is_within, number_or, tag_in, window}
use Rattle.conf.specs.Rows.{fails}
use Rattle.conf.specs.Sections.{ArePolicies, IsPolicy, asked_tag, kept_nonces, policy_tables, selected_tag}
use Rattle.conf.specs.Table.{members_at, version_in, version_of}
use Rattle.conf.specs.tools.Judged.{IsJudged}
use Rattle.conf.specs.tools.SectionReads.{value_of}
use Rattle.conf.proofs.Among.{of_tables}
use Rattle.conf.proofs.ListLaws.{valid_components}
use Rattle.conf.proofs.RowFacts.{passes, is_bad_in, each_age_allowed, each_skew_allowed, each_tag_allowed, each_window_fits, kept_allowed, max_age_allowed, none_clash, nonces_allowed, policies_allowed, policies_typed, policy_tag_allowed, skew_allowed, version_allowed, version_typed}

-- ---- numbers and tags

-- the number of a key is in the key's range, where what holds without it is
number_within : (document : Members) (r : ValueRule) (least most other : ℕ) (value : Option Data) → ((z : ℤ) → is_allowed document r (integer z) ≡ is_within least most z)
    → least ≤ other → other ≤ most → (IsTrue (fails (is_allowed document r) value) → ⊥) → (least ≤ number_or other value) × (number_or other value ≤ most)
number_within document r least most other (Some (integer (pos n))) same low high never =
    let within : is_within least most (pos n) ≡ true = sym (same (pos n)) ∙ passes (is_allowed document r) (Some (integer (pos n))) (integer (pos n)) never refl in
    (grind (arith, nat_tests, within), grind (arith, nat_tests, within))
number_within document r least most other (Some (integer (negsuc n))) same low high never =
    let within : false ≡ true = sym (same (negsuc n)) ∙ passes (is_allowed document r) (Some (integer (negsuc n))) (integer (negsuc n)) never refl in
    absurd (false≢true within)
number_within document r least most other value same low high never = (low, high)

not_more : (most n : ℕ) → (IsTrue (nat_lt most n) → ⊥) → n ≤ most
not_more most n never = elim (cases_Bool (nat_lt most n)) [
  | inl more ↦ absurd (never more)
  | inr isnt ↦ grind (arith, nat_tests, isnt)
]

pub valid_tag : (document : Members) (value : Option Data) → (IsTrue (fails (is_allowed document rule.Tag) value) → ⊥) → (tag : List ℕ) → option_and_then as_str value ≡ Some tag
    → list_all is_string_byte tag ≡ true
valid_tag document (Some (string text)) allowed tag is =
    let same : text ≡ tag = cc in
    rw (← same) (passes (is_allowed document rule.Tag) (Some (string text)) (string text) allowed refl)
valid_tag document value allowed tag is = absurd cc

-- ---- one table

-- what a table says of a policy is in its ranges
record IsFine (pairs : Members) : Type 0 where
  least_age : 1 ≤ number_or DEFAULT_MAX_AGE (get_member (codes "max-age") pairs)
  most_age : number_or DEFAULT_MAX_AGE (get_member (codes "max-age") pairs) ≤ MAX_AGE
  most_skew : number_or DEFAULT_SKEW (get_member (codes "skew") pairs) ≤ MAX_SKEW
  window : window pairs ≤ MAX_WINDOW
  tag : (tag : List ℕ) → tag_in pairs ≡ Some tag → list_all is_string_byte tag ≡ true

none_fine : IsFine no_members
none_fine = record {
  least_age = omega arith;
  most_age = omega arith;
  most_skew = omega arith;
  window = omega arith;
  tag = λ tag there. absurd (cc there);
}

valid_policy : (version : Version) (pairs : Members) (policy : Policy) → IsFine pairs → IsPolicy version pairs policy → IsValidPolicy policy
valid_policy version pairs policy fine says = record {
  least_age = rw says.max_age fine.least_age;
  most_age = rw says.max_age fine.most_age;
  most_skew = rw says.skew fine.most_skew;
  window = rw (says.max_age, says.skew) fine.window;
  require_request = valid_components _ policy.require_request says.require_request;
  require_response = valid_components _ policy.require_response says.require_response;
  selects = λ tag there. selected version tag (sym says.selects ∙ there);
  tag = λ tag there. asked version tag (sym says.tag ∙ there);
} where
  selected : (version : Version) (tag : List ℕ) → selected_tag version pairs ≡ Some tag → list_all is_string_byte tag ≡ true
  selected One tag is = absurd (cc is)
  selected Two tag is = fine.tag tag is

  asked : (version : Version) (tag : List ℕ) → asked_tag version pairs ≡ Some tag → list_all is_string_byte tag ≡ true
  asked One tag is = fine.tag tag is
  asked Two tag is = absurd (cc is)

valid_each : (version : Version) (tables : List Members) (policies : List Policy) → AllByRecursion IsFine tables → AllZip (IsPolicy version) tables policies → AllByRecursion IsValidPolicy policies
valid_each version [] [] fine says = tt
valid_each version [] (policy ∷ policies) fine says = absurd says
valid_each version (pairs ∷ tables) [] fine says = absurd says
valid_each version (pairs ∷ tables) (policy ∷ policies) fine says =
    (valid_policy version pairs policy fine.0 says.0, valid_each version tables policies fine.1 says.1)

-- ---- the table of version 1

fine_one : (document : Members) → IsJudged document → IsFine (members_at document place.Policy)
fine_one document judged =
    let age = number_within document rule.MaxAge 1 DAY_WINDOW DEFAULT_MAX_AGE (value_of document place.Policy (codes "max-age")) (λ z. refl) (omega arith) (omega arith) (max_age_allowed document judged) in
    let skew = number_within document rule.Skew 0 MAX_SKEW DEFAULT_SKEW (value_of document place.Policy (codes "skew")) (λ z. refl) (omega arith) (omega arith) (skew_allowed document judged) in
    let day : window (members_at document place.Policy) ≤ DAY_WINDOW = not_more DAY_WINDOW (window (members_at document place.Policy)) (none_clash document judged) in
    record {
      least_age = age.0;
      most_age = omega (arith, age.1);
      most_skew = skew.1;
      window = omega (arith, day);
      tag = λ tag there. valid_tag document (value_of document place.Policy (codes "tag")) (policy_tag_allowed document judged) tag there;
    }

-- ---- the tables of version 2

fine_tables : (document : Members) (tables : List Members) → AllByRecursion (λ pairs. IsTrue (is_bad_in document rule.LongMaxAge (codes "max-age") pairs) → ⊥) tables
    → AllByRecursion (λ pairs. IsTrue (nat_lt MAX_WINDOW (window pairs)) → ⊥) tables → AllByRecursion (λ pairs. IsTrue (is_bad_in document rule.Skew (codes "skew") pairs) → ⊥) tables
    → AllByRecursion (λ pairs. IsTrue (is_bad_in document rule.Tag (codes "tag") pairs) → ⊥) tables → AllByRecursion IsFine tables
fine_tables document [] ages windows skews tags = tt
fine_tables document (pairs ∷ tables) ages windows skews tags =
    let age = number_within document rule.LongMaxAge 1 MAX_AGE DEFAULT_MAX_AGE (get_member (codes "max-age") pairs) (λ z. refl) (omega arith) (omega arith) ages.0 in
    let skew = number_within document rule.Skew 0 MAX_SKEW DEFAULT_SKEW (get_member (codes "skew") pairs) (λ z. refl) (omega arith) (omega arith) skews.0 in
    let fine : IsFine pairs = record {
      least_age = age.0;
      most_age = age.1;
      most_skew = skew.1;
      window = not_more MAX_WINDOW (window pairs) windows.0;
      tag = λ tag there. valid_tag document (get_member (codes "tag") pairs) tags.0 tag there;
    } in
    (fine, fine_tables document tables ages.1 windows.1 skews.1 tags.1)

fine_all : (document : Members) → IsJudged document → AllByRecursion IsFine (policy_tables (get_member (codes "policies") document))
fine_all document judged =
    of_tables IsFine (get_member (codes "policies") document) none_fine
    (fine_tables document (tables_in (get_member (codes "policies") document)) (each_age_allowed document judged) (each_window_fits document judged)
    (each_skew_allowed document judged) (each_tag_allowed document judged))

-- there are some and not too many
policy_count : (document : Members) (value : Option Data) → (IsTrue (fails (has_type rule.Policies) value) → ⊥) → (IsTrue (fails (is_allowed document rule.Policies) value) → ⊥)
    → (1 ≤ length (policy_tables value)) × (length (policy_tables value) ≤ MAX_POLICIES)
policy_count document None typed allowed = (omega arith, omega arith)
policy_count document (Some (array items)) typed allowed =
    let test = passes (is_allowed document rule.Policies) (Some (array items)) (array items) allowed refl in
    let count = (and_parts _ (have_distinct_tags (policy_tables (Some (array items)))) test).0 in
    let long : length (policy_tables (Some (array items))) ≡ length (values_of items) = length-map (values_of items) (λ (value : Data). members_in (Some value)) in
    (grind (arith, nat_tests, count, long), grind (arith, nat_tests, count, long))
policy_count document (Some value) typed allowed = absurd (typed refl)

-- no two have one tag
distinct_tags : (document : Members) (value : Option Data) → (IsTrue (fails (has_type rule.Policies) value) → ⊥) → (IsTrue (fails (is_allowed document rule.Policies) value) → ⊥)
    → have_distinct_tags (policy_tables value) ≡ true
distinct_tags document None typed allowed = refl
distinct_tags document (Some (array items)) typed allowed =
    (and_parts _ (have_distinct_tags (policy_tables (Some (array items)))) (passes (is_allowed document rule.Policies) (Some (array items)) (array items) allowed refl)).1
distinct_tags document (Some value) typed allowed = absurd (typed refl)

same_tag : (tag : Option (List ℕ)) → is_same_tag tag tag ≡ true
same_tag None = refl
same_tag (Some text) = (bytes_eq-Decides text text).1 refl

not_true : (b : Bool) → not b ≡ true → b ≡ false
not_true true is = absurd (false≢true is)
not_true false is = refl

either : (a b : Bool) → (a || b) ≡ false → (a ≡ false) × (b ≡ false)
either true b is = absurd (false≢true (sym is))
either false b is = (refl, is)

-- the policy of a tag that none of the tables has selects what none of their policies does
not_again : (tag : Option (List ℕ)) (tables : List Members) (policies : List Policy) → list_any (λ (pairs : Members). is_same_tag tag (tag_in pairs)) tables ≡ false
    → AllZip (IsPolicy Two) tables policies → (j : ℕ) (other : Policy) → slice_get policies j ≡ Some other → tag ≡ other.selects → ⊥
not_again tag [] [] none says j other at same = absurd (cc at)
not_again tag [] (policy ∷ policies) none says j other at same = absurd says
not_again tag (pairs ∷ tables) [] none says j other at same = absurd says
not_again tag (pairs ∷ tables) (policy ∷ policies) none says zero other at same =
    let is : policy ≡ other = cc at in
    let one : tag ≡ tag_in pairs = same ∙ sym (ap (λ (p : Policy). p.selects) is) ∙ says.0.selects in
    let first = (either (is_same_tag tag (tag_in pairs)) _ none).0 in
    false≢true (sym first ∙ ap (λ (t : Option (List ℕ)). is_same_tag tag t) (sym one) ∙ same_tag tag)
not_again tag (pairs ∷ tables) (policy ∷ policies) none says (suc j) other at same =
    not_again tag tables policies (either (is_same_tag tag (tag_in pairs)) _ none).1 says.1 j other at same

select_distinct : (tables : List Members) (policies : List Policy) → have_distinct_tags tables ≡ true → AllZip (IsPolicy Two) tables policies → SelectDistinct policies
select_distinct [] [] distinct says i j policy other lt first second same = absurd (cc first)
select_distinct [] (p ∷ policies) distinct says i j policy other lt first second same = absurd says
select_distinct (pairs ∷ tables) [] distinct says i j policy other lt first second same = absurd says
select_distinct (pairs ∷ tables) (p ∷ policies) distinct says i zero policy other lt first second same = absurd (omega (arith, lt))
select_distinct (pairs ∷ tables) (p ∷ policies) distinct says zero (suc j) policy other lt first second same =
    let is : p ≡ policy = cc first in
    let both = and_parts _ (have_distinct_tags tables) distinct in
    not_again (tag_in pairs) tables policies (not_true _ both.0) says.1 j other second (sym says.0.selects ∙ ap (λ (q : Policy). q.selects) is ∙ same)
select_distinct (pairs ∷ tables) (p ∷ policies) distinct says (suc i) (suc j) policy other lt first second same =
    let both = and_parts _ (have_distinct_tags tables) distinct in
    select_distinct tables policies both.1 says.1 i j policy other (omega (arith, lt)) first second same

-- ---- the policies

-- of one there are no two
one_distinct : (p : Policy) → SelectDistinct (p ∷ [])
one_distinct p i zero policy other lt first second same = absurd (omega (arith, lt))
one_distinct p i (suc j) policy other lt first second same = absurd (cc second)

one_valid : (document : Members) (policies : List Policy) → IsJudged document → AllZip (IsPolicy One) (members_at document place.Policy ∷ []) policies → AreValidPolicies policies
one_valid document [] judged says = absurd says
one_valid document (p ∷ []) judged says = record {
  some = omega arith;
  few = omega arith;
  each = All-from_recursion IsValidPolicy (p ∷ []) (valid_each One (members_at document place.Policy ∷ []) (p ∷ []) (fine_one document judged, tt) says);
  distinct = one_distinct p;
}
one_valid document (p ∷ q ∷ policies) judged says = absurd says.1

all_valid : (document : Members) (policies : List Policy) → IsJudged document → AllZip (IsPolicy Two) (policy_tables (get_member (codes "policies") document)) policies → AreValidPolicies policies
all_valid document policies judged says =
    let value = get_member (codes "policies") document in
    let tables = policy_tables value in
    let typed = policies_typed document judged in
    let allowed = policies_allowed document judged in
    let count = policy_count document value typed allowed in
    let long : length policies ≡ length tables = AllZip-long (IsPolicy Two) tables policies says in
    record {
      some = rw long count.0;
      few = rw long count.1;
      each = All-from_recursion IsValidPolicy policies (valid_each Two tables policies (fine_all document judged) says);
      distinct = select_distinct tables policies (distinct_tags document value typed allowed) says;
    }

pub valid_policies : (document : Members) (version : Option Version) (policies : List Policy) → IsJudged document → ArePolicies version document policies → AreValidPolicies policies
valid_policies document None policies judged says = absurd says
valid_policies document (Some One) policies judged says = one_valid document policies judged says
valid_policies document (Some Two) policies judged says = all_valid document policies judged says

-- ---- the number of nonces

pub valid_nonces : (document : Members) (version : Option Version) → IsJudged document → (1 ≤ kept_nonces version document) × (kept_nonces version document ≤ MAX_ENTRIES)
valid_nonces document None judged =
    number_within document rule.Nonces 1 MAX_ENTRIES MAX_ENTRIES (value_of document place.Policy (codes "nonces")) (λ z. refl) (omega arith) (omega arith) (nonces_allowed document judged)
valid_nonces document (Some One) judged =
    number_within document rule.Nonces 1 MAX_ENTRIES MAX_ENTRIES (value_of document place.Policy (codes "nonces")) (λ z. refl) (omega arith) (omega arith) (nonces_allowed document judged)
valid_nonces document (Some Two) judged =
    number_within document rule.Nonces 1 MAX_ENTRIES MAX_ENTRIES (get_member (codes "nonces") document) (λ z. refl) (omega arith) (omega arith) (kept_allowed document judged)

-- ---- the version

named : (document : Members) (value : Option Data) → (IsTrue (fails (has_type rule.Version) value) → ⊥) → (IsTrue (fails (is_allowed document rule.Version) value) → ⊥)
    → (version : Version) × (version_of value ≡ Some version)
named document None typed allowed = (One, refl)
named document (Some (integer (pos zero))) typed allowed = absurd (allowed refl)
named document (Some (integer (pos (suc zero)))) typed allowed = (One, refl)
named document (Some (integer (pos (suc (suc zero))))) typed allowed = (Two, refl)
named document (Some (integer (pos (suc (suc (suc n)))))) typed allowed =
    let within : is_within 1 2 (pos (suc (suc (suc n)))) ≡ true = passes (is_allowed document rule.Version) (Some (integer (pos (suc (suc (suc n)))))) (integer (pos (suc (suc (suc n))))) allowed refl in
    let few : suc (suc (suc n)) ≤ 2 = grind (arith, nat_tests, within) in
    absurd (omega (arith, few))
named document (Some (integer (negsuc n))) typed allowed = absurd (allowed refl)
named document (Some value) typed allowed = absurd (typed refl)

-- a document that was judged is of one of the versions
pub has_version : (document : Members) → IsJudged document → (version : Version) × (version_in document ≡ Some version)
has_version document judged = named document (get_member (codes "version") document) (version_typed document judged) (version_allowed document judged)
