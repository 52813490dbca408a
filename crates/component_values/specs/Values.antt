-- The value of a component, or how it lacks one: a table of rows, of which the first that applies
-- says what the component comes to (RFC 9421 sections 2.1 and 2.4).
use Rattle.std.specs.Prelude.{◌≡◌, ⊤, ℕ, Bool, true, false, Option, Some, None, ok_or, List, [], ◌∷◌, take, slice_get, IsSomeAnd, Result, Ok, Err, codes, if◌then◌else◌}
use Rattle.std.specs.Char.{is_ascii}
use Rattle.std.specs.List.{join_by, list_all}
use Rattle.sfv_text.specs.Keys.{value_of}
use Rattle.sfv_text.specs.Strict.{item_text, list_text, dict_text, member_text, bytes_text}
use Rattle.sfv_text.specs.declared.pair.Pair.{Pair}
use Rattle.sfv_text.specs.declared.value.BareItem.{BareItem}
use Rattle.sfv_text.specs.declared.value.Member.{Member}
use Rattle.sfv_read.specs.Reads.{ReadsItem, ReadsList, ReadsDict}
use Rattle.msg_head.specs.declared.error.Side.{Side}
use Rattle.msg_head.specs.declared.error.Side.TheVariants.{Header, Trailer}
use Rattle.msg_head.specs.Lines.{FieldLine}
use Rattle.framing.specs.Framings.{is_request}
use Rattle.msg_body.specs.Messages.{Message}
use Rattle.msg_body.specs.Views.{lines_on}
use Rattle.msg_head.specs.Values.{values, combined_value, is_there}
use Rattle.component_ids.specs.Table.{is_field_name, has_param}
use Rattle.component_ids.specs.Types.{KindMap, kind_in}
use Rattle.component_ids.specs.declared.types.FieldKind.{FieldKind}
use Rattle.component_ids.specs.declared.types.FieldKind.TheVariants as kind
use Rattle.component_ids.specs.declared.id.ComponentId.{ComponentId}
use Rattle.derived_values.specs.declared.lack.Lack.{Lack}
use Rattle.derived_values.specs.declared.lack.Lack.TheVariants.{Absent, Underivable, Unreadable, NotAscii}
use Rattle.component_values.specs.Context.{MessageContext}
use Rattle.component_values.specs.Forms.{Form, form_of}
use Rattle.component_values.specs.Forms as form
use Rattle.derived_values.specs.Derived.{DerivedRow, derived_of}
use Rattle.derived_values.specs.declared.derived.DerivedName.{DerivedName}

-- ---- structured values

-- the strict text of the value that the text reads as; a text that reads as none is unreadable
abbrev pub StrictRow : {V : Type 0} → (List ℕ → V → Type 0) → (V → List ℕ) → List ℕ
    → Result (List ℕ) Lack → Type 0
StrictRow {V} Reads text_of text (Ok value) = (v : V) × Reads text v × (value ≡ text_of v)
StrictRow {V} Reads text_of text (Err lack) = (lack ≡ Unreadable) × ((v : V) → ¬ Reads text v)

-- `sf`: by the kind of the field; a field that isn't known as structured is unreadable
-- (section 2.1.1)
abbrev pub KindRow : Option FieldKind → List ℕ → Result (List ℕ) Lack → Type 0
KindRow (Some kind.Item) text result = StrictRow ReadsItem item_text text result
KindRow (Some kind.List) text result = StrictRow ReadsList list_text text result
KindRow (Some kind.Dictionary) text result = StrictRow ReadsDict dict_text text result
KindRow None text result = result ≡ Err Unreadable

-- the strict text of the member of the key; a Dictionary without the key lacks it
abbrev pub MemberRow : List ℕ → List ℕ → Result (List ℕ) Lack → Type 0
MemberRow key text (Ok value) = (dict : List (Pair Member)) × ReadsDict text dict
    × IsSomeAnd (value_of dict key) (λ member. value ≡ member_text member)
MemberRow key text (Err Absent) = (dict : List (Pair Member)) × ReadsDict text dict
    × (value_of dict key ≡ None)
MemberRow key text (Err lack) =
    (lack ≡ Unreadable) × ((dict : List (Pair Member)) → ¬ ReadsDict text dict)

-- `key`: a field of another kind is unreadable, and one that isn't known is read as a Dictionary
-- (section 2.1.2)
abbrev pub KeyRow : Option FieldKind → List ℕ → List ℕ → Result (List ℕ) Lack → Type 0
KeyRow (Some kind.Item) key text result = result ≡ Err Unreadable
KeyRow (Some kind.List) key text result = result ≡ Err Unreadable
KeyRow (Some kind.Dictionary) key text result = MemberRow key text result
KeyRow None key text result = MemberRow key text result

-- ---- fields

-- without `bs`, `key` and `sf`: the combined value itself, which has to be ASCII (section 2.1)
abbrev pub plain_value : List ℕ → Result (List ℕ) Lack
plain_value text = if list_all is_ascii text then Ok text else Err NotAscii

-- `bs`: the value of each line by itself as a Byte Sequence (section 2.1.3)
abbrev pub byte_sequences : List (List ℕ) → List ℕ
byte_sequences texts = join_by bytes_text (codes ", ") texts

-- a field that is there, by the form that the parameters ask for
abbrev pub FormRow : Form → Option FieldKind → List FieldLine → List ℕ → Result (List ℕ) Lack
    → Type 0
FormRow form.wrapped kind lines name result = result ≡ Ok (byte_sequences (values lines name))
FormRow (form.member key) kind lines name result =
    KeyRow kind key (combined_value lines name) result
FormRow form.strict kind lines name result = KindRow kind (combined_value lines name) result
FormRow form.plain kind lines name result = result ≡ plain_value (combined_value lines name)

-- a field, by whether a line has the name: one without a line is absent
abbrev pub LineRow : Bool → List (Pair BareItem) → Option FieldKind → List FieldLine → List ℕ
    → Result (List ℕ) Lack → Type 0
-- none has it: the field is absent
LineRow false params kind lines name result = result ≡ Err Absent
-- a line has it
LineRow true params kind lines name result =
    FormRow (form_of params) kind lines name result

-- a component that is a field, over the lines of its name (section 2.1)
abbrev pub FieldRow : List (Pair BareItem) → Option FieldKind → List FieldLine → List ℕ
    → Result (List ℕ) Lack → Type 0
FieldRow params kind lines name result =
    LineRow (is_there lines name) params kind lines name result

-- ---- components

-- `tr`: the lines of the trailer section (section 2.1.4)
abbrev pub side_of : List (Pair BareItem) → Side
side_of params = if has_param params (codes "tr") then Trailer else Header

-- the request that a response answers; a request answers none
abbrev pub related_message : MessageContext → Result Message Lack
related_message context =
    if is_request context.message.head.start then Err Underivable
    else ok_or context.related Absent

-- `req`: the message is the related request (section 2.4)
abbrev pub message_for : MessageContext → List (Pair BareItem) → Result Message Lack
message_for context params =
    if has_param params (codes "req") then related_message context else Ok context.message

-- by whether the name is a field name, over the lines of the identifier's side, and by this row for
-- what is none
abbrev pub ComponentRow : Bool → KindMap → ComponentId → List FieldLine
    → (Option DerivedName → Result (List ℕ) Lack → Type 0) → Result (List ℕ) Lack → Type 0
-- it is: a field
ComponentRow true types id lines OtherRow result =
    FieldRow id.params (kind_in types id.name) lines id.name result
-- it isn't: a derived component, whose name begins with `@`
ComponentRow false types id lines OtherRow result = OtherRow (derived_of id.name) result

-- a component of a message
abbrev pub NameRow : Bool → MessageContext → ComponentId → Message → Result (List ℕ) Lack → Type 0
NameRow is_field context id message result =
    ComponentRow is_field context.types id (lines_on (side_of id.params) message)
    (λ derived answer. DerivedRow derived id.params context.scheme (lines_on Header message)
    message.head.start answer) result

-- by whether there is a message to draw from: without one the component lacks a value
abbrev pub MessageRow : Result Message Lack → MessageContext → ComponentId
    → Result (List ℕ) Lack → Type 0
MessageRow (Err lack) context id result = result ≡ Err lack
MessageRow (Ok message) context id result =
    NameRow (is_field_name id.name) context id message result

-- the component comes to a value, or to a lack
abbrev pub ComesTo : MessageContext → ComponentId → Result (List ℕ) Lack → Type 0
ComesTo context id result = MessageRow (message_for context id.params) context id result

-- the component has the value
abbrev pub Has : MessageContext → ComponentId → List ℕ → Type 0
Has context id value = ComesTo context id (Ok value)

-- the component lacks a value in this way
abbrev pub Lacks : MessageContext → ComponentId → Lack → Type 0
Lacks context id lack = ComesTo context id (Err lack)

-- ---- the components of a signature

-- the components have these values, in order
abbrev pub HaveValues : MessageContext → List ComponentId → List (List ℕ) → Type 0
HaveValues context [] [] = ⊤
HaveValues context (id ∷ ids) (value ∷ values) =
    Has context id value × HaveValues context ids values
HaveValues context [] (value ∷ values) = ⊥
HaveValues context (id ∷ ids) [] = ⊥

-- the first component that lacks a value has the index, and lacks it in this way
pub record IsFirstLack (context : MessageContext) (ids : List ComponentId) (index : ℕ) (lack : Lack)
    : Type 0 where
  pub values : List (List ℕ)
  pub before : HaveValues context (take index ids) values
  pub there : IsSomeAnd (slice_get ids index) (λ id. Lacks context id lack)
