-- The types of a document.
use Rattle.std.proofs.Common.{◌≡◌, ℕ, Bool, true, false, List, Option, Some, None, IsTrue, codes, refl, ap, ◌∙◌, inl, inr}
use Rattle.std.specs.Prelude.{is_some, option_and_then, if◌then◌else◌}
use Rattle.std.specs.List.{list_all}
use Rattle.std.specs.Str.{bytes_eq}
use Rattle.std.proofs.lemmas.Bool.{and_parts, cases_Bool, false≢true}
use Rattle.std.proofs.lemmas.Slice.Eq.{bytes_eq-Decides}
use Rattle.toml.specs.Data.{Data, Members, string, table, as_str, get_member}
use Rattle.component_ids.specs.Table.{is_field_name}
use Rattle.component_ids.specs.Types.{KindMap, kind_in, standard_types}
use Rattle.component_ids.specs.declared.types.FieldKind.{FieldKind}
use Rattle.conf_values.specs.declared.table.ValueRule.TheVariants as rule
use Rattle.settings.specs.Words.{kind_of_word}
use Rattle.conf.specs.Meaning.{AreTypes, configured_kind}
use Rattle.conf.specs.Rows.{fails}
use Rattle.conf.specs.Table.{entries_of, members_in}
use Rattle.conf_values.specs.Values.{is_allowed, is_standard_field, is_type}
use Rattle.conf.specs.tools.Added.{all_added, named_kind, HasDistinctNames}
use Rattle.conf.specs.tools.Judged.{IsJudged}
use Rattle.conf.proofs.AddedLaws.{get_added, entry_passes, or_else}
use Rattle.conf.proofs.RowFacts.{types_allowed}

-- the pairs of `types`
abbrev pub types_of_document : Members → Members
types_of_document document = members_in (get_member (codes "types") document)

pub are_types : (document : Members) (value : Option Data) → (IsTrue (fails (is_allowed document rule.Types) value) → ⊥)
    → list_all (λ e. is_type e.0 e.1) (entries_of (members_in value)) ≡ true
are_types document (Some (table pairs)) allowed = elim (cases_Bool (list_all (λ e. is_type e.0 e.1) (entries_of pairs))) [
  | inl all ↦ all
  | inr fail ↦ absurd (allowed (rw fail refl))
]
are_types document value allowed = refl

-- a word that is allowed for a name is that of a kind
pub is_kind : (standard : Bool) (word : List ℕ) → (if standard then bytes_eq word (codes "dictionary") else is_some (kind_of_word word)) ≡ true → is_some (kind_of_word word) ≡ true
is_kind true word is = rw ((bytes_eq-Decides word (codes "dictionary")).0 is) refl
is_kind false word is = is

told_is : (name : List ℕ) (value : Data) (known : Option FieldKind) → is_type name value ≡ true → or_else (named_kind value) known ≡ configured_kind (Some value) known
told_is name (string word) known is =
    of_some (kind_of_word word) known (is_kind (is_standard_field name) word (and_parts (is_field_name name) (if is_standard_field name then bytes_eq word (codes "dictionary") else is_some (kind_of_word word)) is).1)
  where
    of_some : (o known : Option FieldKind) → is_some o ≡ true → or_else o known ≡ o
    of_some None known there = absurd (false≢true there)
    of_some (Some kind) known there = refl
told_is name value known is = refl

pub kind_read : (name : List ℕ) (value : Data) → is_some (as_str value) ≡ true → is_type name value ≡ true → is_some (named_kind value) ≡ true
kind_read name (string word) text is =
    is_kind (is_standard_field name) word (and_parts (is_field_name name) (if is_standard_field name then bytes_eq word (codes "dictionary") else is_some (kind_of_word word)) is).1
kind_read name value text is = absurd (false≢true text)

pub kind_at : (pairs : Members) (name : List ℕ) (known : Option FieldKind) (value : Option Data) → get_member name pairs ≡ value
    → list_all (λ e. is_type e.0 e.1) (entries_of pairs) ≡ true → or_else (option_and_then named_kind value) known ≡ configured_kind value known
kind_at pairs name known None is all = refl
kind_at pairs name known (Some value) is all = told_is name value known (entry_passes (λ e. is_type e.0 e.1) pairs name value all is)

pub have_types : (document : Members) → IsJudged document → HasDistinctNames (types_of_document document) → (types : KindMap)
    → types ≡ all_added named_kind standard_types (types_of_document document) → AreTypes (types_of_document document) types
have_types document judged distinct types is = λ name.
    ap (λ (m : KindMap). kind_in m name) is
    ∙ get_added named_kind standard_types (types_of_document document) name distinct
    ∙ kind_at (types_of_document document) name (kind_in standard_types name) (get_member name (types_of_document document)) refl
    (are_types document (get_member (codes "types") document) (types_allowed document judged))
