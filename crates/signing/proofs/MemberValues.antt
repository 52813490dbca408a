-- The values of members, where a field has further ones.
use Rattle.std.proofs.Common.{◌≡◌, ℕ, Bool, true, false, Option, Some, None, Ok, List, refl, sym, subst}
use Rattle.byte_grammar.proofs.Indices.{some_and, some_and_parts}
use Rattle.sfv_text.specs.Keys.{value_of}
use Rattle.sfv_text.specs.Strict.{member_text}
use Rattle.sfv_text.specs.declared.pair.Pair.{Pair}
use Rattle.sfv_text.specs.declared.value.BareItem.{BareItem}
use Rattle.sfv_text.specs.declared.value.Member.{Member}
use Rattle.sfv_read.specs.Reads.{ReadsDict}
use Rattle.msg_head.specs.Lines.{FieldLine}
use Rattle.msg_head.specs.Values.{combined_value, is_there}
use Rattle.component_ids.specs.declared.types.FieldKind.{FieldKind}
use Rattle.component_ids.specs.declared.types.FieldKind.TheVariants as kind
use Rattle.component_values.specs.Forms.{Form, form_of}
use Rattle.component_values.specs.Forms as form
use Rattle.component_values.specs.Values.{FieldRow, FormRow, KeyRow, LineRow, MemberRow}

-- a field that has further members
module _ (xs ys : List FieldLine) (name key : List ℕ) (there : is_there ys name ≡ true)
    (kept : (dict : List (Pair Member)) (member : Member) → is_there xs name ≡ true → ReadsDict (combined_value xs name) dict → value_of dict key ≡ Some member
    → (more : List (Pair Member)) × ReadsDict (combined_value ys name) more × (value_of more key ≡ Some member)) where
  member_same : (value : List ℕ) → is_there xs name ≡ true → MemberRow key (combined_value xs name) (Ok value) → MemberRow key (combined_value ys name) (Ok value)
  member_same value here row =
      let found = some_and_parts (λ (member : Member). value ≡ member_text member) (value_of row.0 key) row.2 in
      let more = kept row.0 found.0 here row.1 found.1 in
      (more.0, more.1, some_and (λ (member : Member). value ≡ member_text member) (value_of more.0 key) found.0 more.2 found.2)

  key_same : (field : Option FieldKind) (value : List ℕ) → is_there xs name ≡ true → KeyRow field key (combined_value xs name) (Ok value) → KeyRow field key (combined_value ys name) (Ok value)
  key_same (Some kind.Item) value here row = absurd cc
  key_same (Some kind.List) value here row = absurd cc
  key_same (Some kind.Dictionary) value here row = member_same value here row
  key_same None value here row = member_same value here row

  key_line : (is : Bool) (params : List (Pair BareItem)) (field : Option FieldKind) (value : List ℕ) → form_of params ≡ form.member key → is_there xs name ≡ is → LineRow is params field xs name (Ok value)
      → LineRow true params field ys name (Ok value)
  key_line false params field value form here row = absurd cc
  key_line true params field value form here row =
      subst (λ (f : Form). FormRow f field ys name (Ok value)) (sym form) (key_same field value here (subst (λ (f : Form). FormRow f field xs name (Ok value)) form row))

  pub key_field : (params : List (Pair BareItem)) (field : Option FieldKind) (value : List ℕ) → form_of params ≡ form.member key → FieldRow params field xs name (Ok value) → FieldRow params field ys name (Ok value)
  key_field params field value form row = rw there (key_line (is_there xs name) params field value form refl row)

-- a member whose value is asked for is there
module _ (xs : List FieldLine) (name key : List ℕ) where
  abbrev IsFound : Type 0
  IsFound = (dict : List (Pair Member)) × (member : Member) × (is_there xs name ≡ true) × ReadsDict (combined_value xs name) dict × (value_of dict key ≡ Some member)

  found_member : (value : List ℕ) → is_there xs name ≡ true → MemberRow key (combined_value xs name) (Ok value) → IsFound
  found_member value here row =
      let found = some_and_parts (λ (member : Member). value ≡ member_text member) (value_of row.0 key) row.2 in
      (row.0, found.0, here, row.1, found.1)

  found_key : (field : Option FieldKind) (value : List ℕ) → is_there xs name ≡ true → KeyRow field key (combined_value xs name) (Ok value) → IsFound
  found_key (Some kind.Item) value here row = absurd cc
  found_key (Some kind.List) value here row = absurd cc
  found_key (Some kind.Dictionary) value here row = found_member value here row
  found_key None value here row = found_member value here row

  found_line : (is : Bool) (params : List (Pair BareItem)) (field : Option FieldKind) (value : List ℕ) → form_of params ≡ form.member key → is_there xs name ≡ is → LineRow is params field xs name (Ok value) → IsFound
  found_line false params field value form here row = absurd cc
  found_line true params field value form here row = found_key field value here (subst (λ (f : Form). FormRow f field xs name (Ok value)) form row)

  pub found_field : (params : List (Pair BareItem)) (field : Option FieldKind) (value : List ℕ) → form_of params ≡ form.member key → FieldRow params field xs name (Ok value) → IsFound
  found_field params field value form row = found_line (is_there xs name) params field value form refl row
