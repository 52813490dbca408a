-- What the components of a list of fields come to: by the rows of messages (RFC 9421 sections 2.1
-- and 2.2), its pseudo-header fields in place of the start line.
use Rattle.std.specs.Prelude.{◌≡◌, ℕ, ◌==◌, not, IsTrue, Some, List, [], ◌++◌, map, Result}
use Rattle.std.specs.List.{list_all}
use Rattle.std.specs.Str.{byte}
use Rattle.sfv_text.specs.declared.pair.Pair.{Pair}
use Rattle.sfv_text.specs.declared.value.BareItem.{BareItem}
use Rattle.msg_head.specs.declared.error.Side.{Side}
use Rattle.msg_head.specs.declared.error.Side.TheVariants.{Header, Trailer}
use Rattle.msg_head.specs.Lines.{FieldLine}
use Rattle.derived_values.specs.declared.target.Form.TheVariants.{Absolute}
use Rattle.derived_values.specs.Targets.{TargetParts, query_text}
use Rattle.component_ids.specs.Table.{is_field_name}
use Rattle.component_ids.specs.Types.{KindMap}
use Rattle.component_ids.specs.declared.id.ComponentId.{ComponentId}
use Rattle.component_ids.specs.declared.scheme.Scheme.TheVariants.{Https}
use Rattle.derived_values.specs.declared.derived.DerivedName.{DerivedName}
use Rattle.derived_values.specs.declared.derived.TargetName.{TargetName}
use Rattle.derived_values.specs.declared.lack.Lack.{Lack}
use Rattle.derived_values.specs.Derived.{RequestParts, TargetRow, RequestRowBy, NamedRow, response_value}
use Rattle.component_values.specs.Values.{ComponentRow, side_of}
use Rattle.list_texts.specs.declared.list.Field.{Field}
use Rattle.list_texts.specs.declared.list.FieldList.{FieldList}
use Rattle.field_lists.specs.Controls.{RequestControl, Control, request, response, HasPseudo}

-- ---- what a list gives

-- the field as a field line, whose raw value is the field's
abbrev pub raw_line : Field → FieldLine
raw_line field = record { name = field.name; raw = field.value }

-- the fields of the side as field lines
abbrev pub raw_lines : FieldList → Side → List FieldLine
raw_lines list Header = map raw_line list.fields
raw_lines list Trailer = map raw_line list.trailers

-- The parts of the target URI are those of a target in absolute form (RFC 9113 section 8.3.1). The
-- path goes up to the first `?`, and the query is what comes after it.
pub record IsTargetOf (control : RequestControl) (target : TargetParts) : Type 0 where
  pub form : target.form ≡ Absolute
  pub scheme : target.scheme ≡ Some control.scheme
  pub authority : target.authority ≡ Some control.authority
  pub no_mark : IsTrue (list_all (λ c. not (c == byte "?")) target.path)
  pub joined : control.path ≡ target.path ++ query_text target.query

-- the parts of the request; the target has a scheme and an authority, so no other is asked for
abbrev pub parts_of : RequestControl → RequestParts
parts_of control = record {
  method = control.method;
  target = control.path;
  lines = [];
  scheme = Https;
}

-- ---- rows

-- what is drawn from the target
abbrev pub UriRow : RequestControl → List (Pair BareItem) → TargetName
    → Result (List ℕ) Lack → Type 0
UriRow control params name result = (target : TargetParts) × IsTargetOf control target
    × TargetRow name params (parts_of control) target result

-- a derived component of this control data
abbrev pub ControlRow : Control → List (Pair BareItem) → DerivedName
    → Result (List ℕ) Lack → Type 0
ControlRow (request control) params derived result =
    RequestRowBy (λ name answer. UriRow control params name answer) derived (parts_of control)
    result
ControlRow (response code) params derived result = result ≡ response_value derived code

-- a derived component of these fields
abbrev pub PseudoRow : List Field → List (Pair BareItem) → DerivedName
    → Result (List ℕ) Lack → Type 0
PseudoRow fields params derived result = (control : Control) × (others : List Field)
    × HasPseudo fields control others × ControlRow control params derived result

-- The component of a list comes to a value, or to a lack. It isn't asked for with `req`, and isn't
-- `@request-target`, which no list has.
abbrev pub ListComesTo : FieldList → KindMap → ComponentId → Result (List ℕ) Lack → Type 0
ListComesTo list types id result =
    ComponentRow (is_field_name id.name) types id (raw_lines list (side_of id.params))
    (λ derived answer. NamedRow (λ name given. PseudoRow list.fields id.params name given)
    derived answer) result
