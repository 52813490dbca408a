-- What a map has under a name, to which the entries of a table were added.
use Rattle.std.proofs.Common.{◌≡◌, ℕ, Bool, true, false, cond, List, [], ◌∷◌, Option, Some, None, String, Global, string_bytes, Ordering, Less, Equal, Greater, refl, ap, ◌∙◌}
use Rattle.std.specs.Prelude.{option_and_then, is_some}
use Rattle.std.specs.FinMap as map
use Rattle.std.specs.List.{AllByRecursion, list_all}
use Rattle.std.specs.List.Sorted.{IsStrictlySortedBy}
use Rattle.std.specs.Map.{keys_of}
use Rattle.std.specs.String.{string_cmp}
use Rattle.std.specs.Ordering.{is_eq, match_ordering}
use Rattle.std.proofs.lemmas.Bool.{and_parts, false≢true}
use Rattle.std.proofs.lemmas.Cmp.{nat_list_cmp_total}
use Rattle.toml.specs.Data.{Data, Members, no_members, member, get_member}
use Rattle.toml.specs.View.{members_view}
use Rattle.toml.specs.declared.value.Value.{Value}
use Rattle.settings.proofs.Names.{name_cmp, same_name}
use Rattle.conf.specs.Table.{entries_of}
use Rattle.conf.specs.tools.Added.{Named, with_some, with_entry, all_added, HasDistinctNames}

-- ---- the pairs of a table that is ordered

none_after : (name : List ℕ) (es : List (String Global × Value)) → AllByRecursion (λ (y : String Global). name_cmp name (string_bytes y) ≡ Less) (keys_of es)
    → get_member name (members_view es) ≡ None
none_after name [] h = refl
none_after name (e ∷ es) h = rw h.0 (none_after name es h.1)

-- a table of the code has no name twice
pub distinct_of : (es : List (String Global × Value)) → IsStrictlySortedBy string_cmp (keys_of es) → HasDistinctNames (members_view es)
unfolding IsStrictlySortedBy
distinct_of [] h = tt
distinct_of (e ∷ es) h = (none_after (string_bytes e.0) es h.0, distinct_of es h.1)

-- ---- what is added

-- what is there first, or else the other
abbrev pub or_else : {X : Type 0} → Option X → Option X → Option X
or_else None other = other
or_else (Some x) other = Some x

with_some_at : {X : Type 0} (named : Named X) (name : List ℕ) (o : Option X) (q : List ℕ)
    → map.get (with_some named name o) q ≡ cond (is_eq (name_cmp q name)) (or_else o (map.get named q)) (map.get named q)
with_some_at named name None q = unchanged (is_eq (name_cmp q name)) (map.get named q) where
  unchanged : {X : Type 0} (b : Bool) (x : X) → x ≡ cond b x x
  unchanged true x = refl
  unchanged false x = refl
with_some_at named name (Some x) q = map.get-insert nat_list_cmp_total named name x q

added_at : {X : Type 0} (read : Data → Option X) (named : Named X) (name : List ℕ) (value : Data) (pairs : Members) (q : List ℕ) (o : Ordering) → name_cmp q name ≡ o
    → get_member name pairs ≡ None
    → or_else (option_and_then read (get_member q pairs)) (cond (is_eq o) (or_else (read value) (map.get named q)) (map.get named q))
    ≡ or_else (option_and_then read (match_ordering o (get_member q pairs) (Some value) (get_member q pairs))) (map.get named q)
added_at read named name value pairs q Less e none = refl
added_at read named name value pairs q Equal e none =
    let gone : get_member q pairs ≡ None = ap (λ n. get_member n pairs) (same_name q name e) ∙ none in
    rw gone refl
added_at read named name value pairs q Greater e none = refl

-- each name has what its value stands for, or else what it had
pub get_added : {X : Type 0} (read : Data → Option X) (named : Named X) (pairs : Members) (q : List ℕ) → HasDistinctNames pairs
    → map.get (all_added read named pairs) q ≡ or_else (option_and_then read (get_member q pairs)) (map.get named q)
get_added read named no_members q distinct = refl
get_added read named (member name value pairs) q distinct =
    get_added read (with_entry read named name value) pairs q distinct.1
    ∙ ap (λ there. or_else (option_and_then read (get_member q pairs)) there) (with_some_at named name (read value) q)
    ∙ added_at read named name value pairs q (name_cmp q name) refl distinct.0

-- ---- a test of each entry

-- a test that each entry passes holds of the value of a name
pub entry_passes : (test : List ℕ × Data → Bool) (pairs : Members) (name : List ℕ) (value : Data) → list_all test (entries_of pairs) ≡ true
    → get_member name pairs ≡ Some value → test (name, value) ≡ true
entry_passes test no_members name value all there = absurd cc
entry_passes test (member first d pairs) name value all there = elim (name_cmp name first) as (λ r. name_cmp name first ≡ r → test (name, value) ≡ true) [
  | Less ↦ λ e. entry_passes test pairs name value (and_parts (test (first, d)) (list_all test (entries_of pairs)) all).1 (rw e at there)
  | Equal ↦ λ e.
      let is : d ≡ value = cc (rw e at there) in
      rw (same_name name first e, ← is) (and_parts (test (first, d)) (list_all test (entries_of pairs)) all).0
  | Greater ↦ λ e. entry_passes test pairs name value (and_parts (test (first, d)) (list_all test (entries_of pairs)) all).1 (rw e at there)
] refl

-- ---- the same map, made from the last member on

unfoldable pub all_of : {X : Type 0} → (Data → Option X) → Named X → Members → Named X
all_of read named no_members = named
all_of read named (member name value pairs) = with_some (all_of read named pairs) name (read value)

some_first : {X : Type 0} (o : Option X) (a b : Option X) → is_some o ≡ true → or_else o a ≡ or_else o b
some_first None a b there = absurd (false≢true there)
some_first (Some x) a b there = refl

-- what each value that is found stands for
abbrev pub AllRead : {X : Type 0} → (Data → Option X) → Option Data → Type 0
AllRead read found = (value : Data) → found ≡ Some value → is_some (read value) ≡ true

all_step : {X : Type 0} (read : Data → Option X) (value : Data) (pairs : Members) (q : List ℕ) (o : Ordering) (rest start : Option X)
    → AllRead read (match_ordering o (get_member q pairs) (Some value) (get_member q pairs))
    → (AllRead read (get_member q pairs) → rest ≡ or_else (option_and_then read (get_member q pairs)) start)
    → cond (is_eq o) (or_else (read value) rest) rest ≡ or_else (option_and_then read (match_ordering o (get_member q pairs) (Some value) (get_member q pairs))) start
all_step read value pairs q Less rest start h others = others h
all_step read value pairs q Equal rest start h others = some_first (read value) rest start (h value refl)
all_step read value pairs q Greater rest start h others = others h

-- each name has what its first value stands for, or else what it had
pub get_all : {X : Type 0} (read : Data → Option X) (named : Named X) (pairs : Members) (q : List ℕ) → AllRead read (get_member q pairs)
    → map.get (all_of read named pairs) q ≡ or_else (option_and_then read (get_member q pairs)) (map.get named q)
unfolding all_of
get_all read named no_members q h = refl
get_all read named (member name value pairs) q h =
    with_some_at (all_of read named pairs) name (read value) q
    ∙ all_step read value pairs q (name_cmp q name) (map.get (all_of read named pairs) q) (map.get named q) h (get_all read named pairs q)
