-- The keys of a document.
use Rattle.std.proofs.Common.{◌≡◌, ℕ, true, false, List, Option, Some, None, Less, Equal, Greater, IsTrue, codes, refl, sym, ap, ◌∙◌, inl, inr}
use Rattle.std.specs.Prelude.{is_some, option_and_then}
use Rattle.std.specs.Cmp.{tied_itself}
use Rattle.std.proofs.lemmas.Cmp.{nat_list_cmp_total}
use Rattle.std.specs.FinMap as map
use Rattle.std.specs.List.{list_all}
use Rattle.std.specs.Ordering.{match_ordering, nat_cmp}
use Rattle.std.specs.Cmp.Lexicographic.{slice_cmp}
use Rattle.std.proofs.lemmas.Bool.{cases_Bool, false≢true}
use Rattle.toml.specs.Data.{Data, Members, no_members, member, string, table, as_str, get_member}
use Rattle.conf.specs.declared.fault.ConfFault.{ConfFault}
use Rattle.conf.specs.declared.fault.ConfFault.TheVariants as fault
use Rattle.conf_values.specs.declared.table.ValueRule.TheVariants as rule
use Rattle.settings.specs.Keys.{KeyMap}
use Rattle.conf.specs.Meaning.{AreKeys, HasKey}
use Rattle.conf.specs.Refusals.{IsBadKeyText, HasBadKeyText}
use Rattle.conf.specs.Rows.{fails}
use Rattle.conf.specs.Table.{entries_of, members_in}
use Rattle.settings.specs.Keys.{IsHmacKey, is_keyid}
use Rattle.conf_values.specs.Values.{has_type, is_allowed, are_strings}
use Rattle.conf.specs.tools.Added.{all_added, key_in, spells_key, spell_keys, HasDistinctNames}
use Rattle.conf.specs.tools.Judged.{IsClearBelow, IsFirstIn, IsJudged}
use Rattle.conf.specs.tools.KeyFaults.{IsKeysFault}
use Rattle.settings.proofs.Names.{name_cmp, same_name}
use Rattle.conf.proofs.AddedLaws.{get_added, entry_passes, or_else}
use Rattle.conf.proofs.JudgedLaws.{first_is, below_keys, clear_more, keys_clear}
use Rattle.conf.proofs.KeyLaws.{key_is, key_spelled}
use Rattle.conf.proofs.RowFacts.{keys_typed, keys_allowed, keys_least, texts_fine}

-- the pairs of `keys`
abbrev pub keys_of_document : Members → Members
keys_of_document document = members_in (get_member (codes "keys") document)

pub some_of : {X : Type 0} (o : Option X) → is_some o ≡ true → (x : X) × (o ≡ Some x)
some_of None h = absurd (false≢true h)
some_of (Some x) h = (x, refl)

-- ---- texts that spell no key

pub not_spelled : (value : Data) → spells_key value ≡ false → IsBadKeyText (Some value)
not_spelled (string text) isnt = λ key is. absurd (false≢true (sym (rw (← key_is text key is) at isnt)))
not_spelled value isnt = absurd (false≢true (sym isnt))

pub spelled : (value : Data) → spells_key value ≡ true → IsBadKeyText (Some value) → ⊥
spelled (string text) spells bad =
    let key = some_of (key_in (string text)) spells in
    bad key.0 (key_spelled text key.0 key.1)
spelled value spells bad = bad

-- what is bad behind the first member is so of them all
bad_later : (name : List ℕ) (value : Data) (pairs : Members) (keyid : List ℕ) → get_member name pairs ≡ None → IsBadKeyText (get_member keyid pairs)
    → IsBadKeyText (get_member keyid (member name value pairs))
bad_later name value pairs keyid none bad = elim (name_cmp keyid name) as (λ r. name_cmp keyid name ≡ r → IsBadKeyText (match_ordering r (get_member keyid pairs) (Some value) (get_member keyid pairs))) [
  | Less ↦ λ e. bad
  | Equal ↦ λ e.
      let gone : get_member keyid pairs ≡ None = ap (λ n. get_member n pairs) (same_name keyid name e) ∙ none in
      absurd (rw gone at bad)
  | Greater ↦ λ e. bad
] refl

some_bad : (pairs : Members) → HasDistinctNames pairs → spell_keys pairs ≡ false → (keyid : List ℕ) × IsBadKeyText (get_member keyid pairs)
some_bad no_members distinct fail = absurd (false≢true (sym fail))
some_bad (member name value pairs) distinct fail = elim (cases_Bool (spells_key value)) [
  | inl spells ↦
      let others = some_bad pairs distinct.1 (rw spells at fail) in
      (others.0, bad_later name value pairs others.0 distinct.0 others.1)
  | inr isnt ↦ (name, rw (tied_itself nat_list_cmp_total name) (not_spelled value isnt))
]

has_bad : (value : Option Data) → HasDistinctNames (members_in value) → spell_keys (members_in value) ≡ false → HasBadKeyText rule.Keys value
has_bad (Some (table pairs)) distinct fail = some_bad pairs distinct fail
has_bad value distinct fail = absurd (false≢true (sym fail))

none_bad : (pairs : Members) (keyid : List ℕ) (value : Option Data) → get_member keyid pairs ≡ value → spell_keys pairs ≡ true → IsBadKeyText value → ⊥
none_bad pairs keyid None is spell bad = bad
none_bad pairs keyid (Some value) is spell bad = spelled value (entry_passes (λ e. spells_key e.1) pairs keyid value spell is) bad

has_none_bad : (value : Option Data) → spell_keys (members_in value) ≡ true → HasBadKeyText rule.Keys value → ⊥
has_none_bad (Some (table pairs)) all bad = none_bad pairs bad.0 (get_member bad.0 pairs) refl all bad.1
has_none_bad value all bad = bad

pub keys_fault : (document : Members) (f : ConfFault) → IsJudged document → HasDistinctNames (keys_of_document document) → IsKeysFault (keys_of_document document) f → IsFirstIn document f
keys_fault document fault.Memory judged distinct h = tt
keys_fault document (fault.BadKeyText path) judged distinct h =
    first_is 6 document (fault.BadKeyText path) (below_keys document judged)
    (refl, rw h.0 (keys_least document (has_bad (get_member (codes "keys") document) distinct h.1)))
keys_fault document f judged distinct h = absurd h

-- once the texts are read, the lists are next
pub below_lists : (document : Members) → IsJudged document → spell_keys (keys_of_document document) ≡ true → IsClearBelow 7 document
below_lists document judged spell =
    clear_more 6 document (below_keys document judged)
    (keys_clear document (texts_fine document (has_none_bad (get_member (codes "keys") document) spell)))

-- ---- the keys that they spell

pub are_texts : (value : Option Data) → (IsTrue (fails (has_type rule.Keys) value) → ⊥) → list_all (λ e. is_some (as_str e.1)) (entries_of (members_in value)) ≡ true
are_texts (Some (table pairs)) typed = elim (cases_Bool (are_strings (table pairs))) [
  | inl all ↦ all
  | inr fail ↦ absurd (typed (rw fail refl))
]
are_texts value typed = refl

are_named : (document : Members) (value : Option Data) → (IsTrue (fails (is_allowed document rule.Keys) value) → ⊥) → list_all (λ e. is_keyid e.0) (entries_of (members_in value)) ≡ true
are_named document (Some (table pairs)) allowed = elim (cases_Bool (list_all (λ e. is_keyid e.0) (entries_of pairs))) [
  | inl all ↦ all
  | inr fail ↦ absurd (allowed (rw fail refl))
]
are_named document value allowed = refl

pub key_of_text : (value : Data) → is_some (as_str value) ≡ true → spells_key value ≡ true → HasKey (Some value) (or_else (key_in value) None)
key_of_text (string text) text_is spells =
    let key = some_of (key_in (string text)) spells in
    rw key.1 (key_spelled text key.0 key.1)
key_of_text value text_is spells = absurd (false≢true text_is)

key_at : (pairs : Members) (keyid : List ℕ) (value : Option Data) → get_member keyid pairs ≡ value → list_all (λ e. is_some (as_str e.1)) (entries_of pairs) ≡ true
    → spell_keys pairs ≡ true → HasKey value (or_else (option_and_then key_in value) None)
key_at pairs keyid None is texts spell = refl
key_at pairs keyid (Some value) is texts spell =
    key_of_text value (entry_passes (λ e. is_some (as_str e.1)) pairs keyid value texts is) (entry_passes (λ e. spells_key e.1) pairs keyid value spell is)

pub are_keys : (document : Members) → IsJudged document → spell_keys (keys_of_document document) ≡ true → HasDistinctNames (keys_of_document document) → (keys : KeyMap)
    → keys ≡ all_added key_in map.empty (keys_of_document document) → AreKeys (keys_of_document document) keys
are_keys document judged spell distinct keys is = λ keyid.
    let pairs = keys_of_document document in
    let at : map.get keys keyid ≡ or_else (option_and_then key_in (get_member keyid pairs)) None =
    ap (λ (m : KeyMap). map.get m keyid) is ∙ get_added key_in map.empty pairs keyid distinct ∙ ap (λ (o : Option (List ℕ)). or_else (option_and_then key_in (get_member keyid pairs)) o) (map.get-empty (slice_cmp nat_cmp) keyid) in
    rw at (key_at pairs keyid (get_member keyid pairs) refl (are_texts (get_member (codes "keys") document) (keys_typed document judged)) spell)

-- ---- they are valid

keyid_of : (pairs : Members) (keyid key : List ℕ) (value : Option Data) → get_member keyid pairs ≡ value → list_all (λ e. is_keyid e.0) (entries_of pairs) ≡ true
    → HasKey value (Some key) → is_keyid keyid ≡ true
keyid_of pairs keyid key None is names has = absurd cc
keyid_of pairs keyid key (Some value) is names has = entry_passes (λ e. is_keyid e.0) pairs keyid value names is

has_hmac_key : (value : Option Data) (key : List ℕ) → HasKey value (Some key) → IsHmacKey key
has_hmac_key None key has = absurd cc
has_hmac_key (Some (string text)) key has = has.is_key
has_hmac_key (Some value) key has = absurd has

pub valid_keyids : (document : Members) → IsJudged document → (keys : KeyMap) → AreKeys (keys_of_document document) keys
    → (keyid key : List ℕ) → map.get keys keyid ≡ Some key → IsTrue (is_keyid keyid)
valid_keyids document judged keys are keyid key there =
    keyid_of (keys_of_document document) keyid key (get_member keyid (keys_of_document document)) refl (are_named document (get_member (codes "keys") document) (keys_allowed document judged)) (rw there at (are keyid))

pub valid_keys : (document : Members) (keys : KeyMap) → AreKeys (keys_of_document document) keys → (keyid key : List ℕ) → map.get keys keyid ≡ Some key → IsHmacKey key
valid_keys document keys are keyid key there = has_hmac_key (get_member keyid (keys_of_document document)) key (rw there at (are keyid))

-- a keyid that the document has has a key
pub key_is_there : (value : Option Data) (key : Option (List ℕ)) → is_some value ≡ true → HasKey value key → is_some key ≡ true
key_is_there None key there has = absurd (false≢true there)
key_is_there (Some (string text)) (Some key) there has = refl
key_is_there (Some (string text)) None there has = absurd has
key_is_there (Some value) key there has = absurd has
