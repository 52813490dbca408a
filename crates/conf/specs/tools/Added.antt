-- Maps to which the entries of a table are added one by one. No public clause cites this module.
use Rattle.std.specs.Prelude.{◌≡◌, ◌&&◌, ℕ, Bool, true, nat_le, Option, Some, is_some, None, Result, Ok, Err, List, length, if◌then◌else◌}
use Rattle.std.specs.FinMap as map
use Rattle.std.specs.List.{list_all}
use Rattle.std.specs.Str.{bytes_eq}
use Rattle.sfv_text.specs.Classes.{is_byte}
use Rattle.std.specs.Ordering.{nat_cmp}
use Rattle.std.specs.Cmp.Lexicographic.{slice_cmp}
use Rattle.base64.specs.Engines.{standard}
use Rattle.base64.specs.GeneralPurpose.{decode_of, encode_of}
use Rattle.toml.specs.Data.{Data, Members, no_members, member, string, get_member}
use Rattle.component_ids.specs.declared.types.FieldKind.{FieldKind}
use Rattle.settings.specs.declared.limits.TheConstants.{MAX_KEY_BYTES}
use Rattle.conf.specs.Table.{entries_of}
use Rattle.settings.specs.Words.{kind_of_word}

abbrev pub Named : Type 0 → Type 0
Named X = map.FinMap (slice_cmp nat_cmp) X

abbrev pub with_some : {X : Type 0} → Named X → List ℕ → Option X → Named X
with_some named name None = named
with_some named name (Some x) = map.insert named name x

-- the map with what the value stands for, where it stands for something
abbrev pub with_entry : {X : Type 0} → (Data → Option X) → Named X → List ℕ → Data → Named X
with_entry read named name value = with_some named name (read value)

-- the map with each of the pairs
abbrev pub all_added : {X : Type 0} → (Data → Option X) → Named X → Members → Named X
all_added read named no_members = named
all_added read named (member name value pairs) =
    all_added read (with_entry read named name value) pairs

-- no name stands twice
abbrev pub HasDistinctNames : Members → Type 0
HasDistinctNames no_members = Unit {0}
HasDistinctNames (member name value pairs) =
    (get_member name pairs ≡ None) × HasDistinctNames pairs

abbrev pub is_key_length : List ℕ → Bool
is_key_length key = nat_le 1 (length key) && nat_le (length key) MAX_KEY_BYTES

-- the bytes, where they are a key that the text spells
abbrev pub key_if : {E : Type 0} → List ℕ → Result (List ℕ) E → Option (List ℕ)
key_if text (Ok key) =
    if is_key_length key && (list_all is_byte key && bytes_eq text (encode_of standard key))
    then Some key else None
key_if text (Err e) = None

-- the key that a value spells
unfoldable pub key_in : Data → Option (List ℕ)
key_in (string text) = key_if text (decode_of standard text)
key_in value = None

-- the value spells a key, where it is a text
abbrev pub spells_key : Data → Bool
spells_key (string text) = is_some (key_in (string text))
spells_key value = true

abbrev pub spell_keys : Members → Bool
spell_keys pairs = list_all (λ entry. spells_key entry.1) (entries_of pairs)

-- the kind that a value names
abbrev pub named_kind : Data → Option FieldKind
named_kind (string word) = kind_of_word word
named_kind value = None
