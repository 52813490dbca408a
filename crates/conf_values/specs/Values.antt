-- The values that the keys of a configuration take.
use Rattle.std.specs.Prelude.{◌≡◌, ◌+◌, ◌*◌, ℕ, ℤ, pos, negsuc, Bool, true, false, ◌&&◌, not, nat_le, Option, Some, None, is_some, option_and_then, IsSomeAnd, List, [], ◌∷◌, length, codes, if◌then◌else◌}
use Rattle.std.specs.List.{list_all, list_any}
use Rattle.std.specs.Str.{bytes_eq}
use Rattle.base64.specs.Engines.{standard}
use Rattle.base64.specs.GeneralPurpose.{encode_of, IsBytes}
use Rattle.toml.specs.Data.{Data, Items, Members, string, integer, array, table, as_str, as_integer, as_bool, as_table, get_member}
use Rattle.sfv_text.specs.Range.{is_string_byte, is_key}
use Rattle.component_ids.specs.Table.{is_field_name}
use Rattle.component_ids.specs.Types.{kind_in, standard_types}
use Rattle.nonces.specs.declared.limits.TheConstants.{MAX_ENTRIES}
use Rattle.rewrite_script.specs.Lines.{IsNoLine, SpellsLine}
use Rattle.rewrite_script.specs.declared.limits.TheConstants.{MAX_SCRIPT_LINES}
use Rattle.rewrite_script.specs.declared.rewrite.Rewrite.{Rewrite}
use Rattle.settings.specs.declared.limits.TheConstants.{MAX_EXPIRES_AFTER, DAY_WINDOW, MAX_AGE, MAX_POLICIES, MAX_SKEW, DEFAULT_MAX_AGE, DEFAULT_SKEW}
use Rattle.conf_values.specs.declared.table.ValueRule.{ValueRule}
use Rattle.conf_values.specs.declared.table.ValueRule.TheVariants.{Version, Scheme, Keys, Types, Table, Label, Keyid, Seconds, Flag, Tag, Digest, MaxAge, LongMaxAge, Skew, Nonces, Expires, NonceUse, DigestUse, Steps, Policies}
use Rattle.settings.specs.Keys.{IsHmacKey, is_keyid}
use Rattle.settings.specs.Words.{digest_use_of_word, expires_of_word, kind_of_word, nonce_use_of_word, scheme_of_word, sign_digest_of_word}
use Rattle.conf_values.specs.Parts.{entries_of, members_in, tables_of, values_of}

-- ---- types

-- the value is a table, and each value in it is a string
abbrev pub are_strings : Data → Bool
are_strings (table pairs) =
    list_all (λ entry. is_some (as_str entry.1)) (entries_of pairs)
are_strings value = false

-- each value of the array is a string
abbrev pub are_texts : Items → Bool
are_texts items = list_all (λ value. is_some (as_str value)) (values_of items)

-- the value is an array of strings
abbrev pub is_text_array : Data → Bool
is_text_array (array items) = are_texts items
is_text_array value = false

-- each value of the array is a table
abbrev pub are_tables : Items → Bool
are_tables items = list_all (λ value. is_some (as_table value)) (values_of items)

-- the value is an array of tables
abbrev pub is_table_array : Data → Bool
is_table_array (array items) = are_tables items
is_table_array value = false

-- the value has the type that the rule asks for; what isn't named here is a string
abbrev pub has_type : ValueRule → Data → Bool
has_type Version value = is_some (as_integer value)
has_type Seconds value = is_some (as_integer value)
has_type MaxAge value = is_some (as_integer value)
has_type LongMaxAge value = is_some (as_integer value)
has_type Skew value = is_some (as_integer value)
has_type Nonces value = is_some (as_integer value)
has_type Flag value = is_some (as_bool value)
has_type Table value = is_some (as_table value)
has_type Keys value = are_strings value
has_type Types value = are_strings value
has_type Steps value = is_text_array value
has_type Policies value = is_table_array value
has_type rule value = is_some (as_str value)

-- ---- ranges

-- the integer is at least the one number and at most the other
abbrev pub is_within : ℕ → ℕ → ℤ → Bool
is_within least most (pos n) = nat_le least n && nat_le n most
is_within least most (negsuc n) = false

-- the field is structured by its own standard
abbrev pub is_standard_field : List ℕ → Bool
is_standard_field name = is_some (kind_in standard_types name)

-- the field of that name, in lower case, may be configured as of that kind: those that are
-- Dictionaries by their standards may be nothing else
abbrev pub is_type : List ℕ → Data → Bool
is_type name (string word) =
    is_field_name name
    && (if is_standard_field name then bytes_eq word (codes "dictionary")
    else is_some (kind_of_word word))
is_type name value = true

-- a string that the rule allows: one of its words, or a text of its form
abbrev pub is_text_allowed : Members → ValueRule → List ℕ → Bool
is_text_allowed document Scheme text = is_some (scheme_of_word text)
is_text_allowed document Label text = is_key text
is_text_allowed document Keyid text =
    is_some (get_member text (members_in (get_member (codes "keys") document)))
is_text_allowed document Tag text = list_all is_string_byte text
is_text_allowed document Digest text = is_some (sign_digest_of_word text)
is_text_allowed document Expires text = is_some (expires_of_word text)
is_text_allowed document NonceUse text = is_some (nonce_use_of_word text)
is_text_allowed document DigestUse text = is_some (digest_use_of_word text)
is_text_allowed document rule text = true

-- an integer that the rule allows, by its range
abbrev pub is_integer_allowed : ValueRule → ℤ → Bool
is_integer_allowed Version z = is_within 1 2 z
is_integer_allowed Seconds z = is_within 1 MAX_EXPIRES_AFTER z
is_integer_allowed MaxAge z = is_within 1 DAY_WINDOW z
is_integer_allowed LongMaxAge z = is_within 1 MAX_AGE z
is_integer_allowed Skew z = is_within 0 MAX_SKEW z
is_integer_allowed Nonces z = is_within 1 MAX_ENTRIES z
is_integer_allowed rule z = true

-- a table that the rule allows: `keys` by its keyids, `types` by its names and kinds
abbrev pub is_table_allowed : ValueRule → Members → Bool
is_table_allowed Keys pairs = list_all (λ entry. is_keyid entry.0) (entries_of pairs)
is_table_allowed Types pairs = list_all (λ entry. is_type entry.0 entry.1) (entries_of pairs)
is_table_allowed rule pairs = true

-- the tag that a table names, where it names one
abbrev pub tag_in : Members → Option (List ℕ)
tag_in pairs = option_and_then as_str (get_member (codes "tag") pairs)

-- the tags are one, or both are lacking
abbrev pub is_same_tag : Option (List ℕ) → Option (List ℕ) → Bool
is_same_tag (Some tag) (Some other) = bytes_eq tag other
is_same_tag None None = true
is_same_tag tag other = false

-- no two of the tables have one tag, or none
abbrev pub have_distinct_tags : List Members → Bool
have_distinct_tags [] = true
have_distinct_tags (pairs ∷ tables) =
    not (list_any (λ other. is_same_tag (tag_in pairs) (tag_in other)) tables)
    && have_distinct_tags tables

-- there are as many policies as a configuration may have, at least one
abbrev pub is_policy_count : ℕ → Bool
is_policy_count count = nat_le 1 count && nat_le count MAX_POLICIES

-- an array that the rule allows: so many steps as a script may have, or policies for distinct tags
abbrev pub is_array_allowed : ValueRule → Items → Bool
is_array_allowed Steps items = nat_le (length (values_of items)) MAX_SCRIPT_LINES
is_array_allowed Policies items =
    is_policy_count (length (values_of items))
    && have_distinct_tags (tables_of items)
is_array_allowed rule items = true

-- the value is one that the rule allows in this document; of a value of another type nothing is
-- asked here
abbrev pub is_allowed : Members → ValueRule → Data → Bool
is_allowed document rule (string text) = is_text_allowed document rule text
is_allowed document rule (integer z) = is_integer_allowed rule z
is_allowed document rule (table pairs) = is_table_allowed rule pairs
is_allowed document rule (array items) = is_array_allowed rule items
is_allowed document rule value = true

-- ---- numbers

-- the number that is configured, or else the other; a negative one, which no key takes, is 0
abbrev pub number_or : ℕ → Option Data → ℕ
number_or other (Some (integer (pos n))) = n
number_or other (Some (integer (negsuc n))) = 0
number_or other value = other

-- how many seconds ahead a nonce may be kept: `max-age`, with the skew of the two clocks twice
abbrev pub window : Members → ℕ
window policy =
    number_or DEFAULT_MAX_AGE (get_member (codes "max-age") policy)
    + 2 * number_or DEFAULT_SKEW (get_member (codes "skew") policy)

-- ---- texts that stand for something else

-- the text is the key in base64 with its padding (RFC 4648 section 4)
pub record IsKeyText (text key : List ℕ) : Type 0 where
  pub bytes : IsBytes key
  pub spelled : text ≡ encode_of standard key
  pub is_key : IsHmacKey key

-- the value is a string, the line of the step
abbrev pub IsStepText : Data → Rewrite → Type 0
IsStepText value step = IsSomeAnd (as_str value) (λ line. SpellsLine line step)

-- the value is a string, and the line of no step
abbrev pub IsBadStep : Data → Type 0
IsBadStep value = IsSomeAnd (as_str value) IsNoLine
