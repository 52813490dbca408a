-- Laws of components and their values.
use Rattle.std.specs.Prelude.{◌≡◌, ◌↔◌, ◌⊎◌, ℕ, Bool, ◌&&◌, ◌||◌, IsTrue, IsFalse, IfSome, Option, List, Result, Ok, reverse, codes}
use Rattle.std.specs.Char.{is_ascii}
use Rattle.std.specs.List.{All, list_all}
use Rattle.byte_grammar.specs.Classes.{is_blank, is_line_byte}
use Rattle.byte_grammar.specs.Language.{starts_in}
use Rattle.sfv_text.specs.Classes.{is_byte}
use Rattle.sfv_text.specs.declared.pair.Pair.{Pair}
use Rattle.sfv_text.specs.declared.value.BareItem.{BareItem}
use Rattle.msg_head.specs.Lines.{FieldLine}
use Rattle.msg_head.specs.Values.{combined_value, is_there}
use Rattle.msg_head.specs.declared.error.Side.TheVariants.{Header}
use Rattle.framing.specs.Framings.{is_request}
use Rattle.msg_body.specs.Messages.{Message, Spells}
use Rattle.msg_body.specs.Views.{lines_on}
use Rattle.component_ids.specs.Identifiers.{is_identifier, item_of}
use Rattle.component_ids.specs.Table.{has_param, has_value_type, is_field_name}
use Rattle.component_ids.specs.declared.id.ComponentId.{ComponentId}
use Rattle.component_ids.specs.declared.types.FieldKind.{FieldKind}
use Rattle.derived_values.specs.Derived.{DerivedRow, derived_of}
use Rattle.derived_values.specs.declared.lack.Lack.{Lack}
use Rattle.component_values.specs.Alike.{AreAlikeFor, AreSameIn, ComesToSame, is_own_field}
use Rattle.component_values.specs.Context.{MessageContext, context_with}
use Rattle.component_values.specs.Forms.{form_of}
use Rattle.component_values.specs.Values.{FieldRow, Has, HaveValues, IsFirstLack, KindRow, Lacks, side_of}

-- a component has a value, or lacks one
abbrev pub HasOrLacks : Type 0
HasOrLacks =
    (context : MessageContext) (id : ComponentId)
    → ((value : List ℕ) × Has context id value) ⊎ ((lack : Lack) × Lacks context id lack)

-- a component has at most one value
abbrev pub HasOneValueOnly : Type 0
HasOneValueOnly =
    (context : MessageContext) (id : ComponentId) (value other : List ℕ)
    → Has context id value → Has context id other → value ≡ other

-- a component lacks a value in at most one way
abbrev pub LacksInOneWay : Type 0
LacksInOneWay =
    (context : MessageContext) (id : ComponentId) (lack other : Lack)
    → Lacks context id lack → Lacks context id other → lack ≡ other

-- a component that has a value doesn't lack one
abbrev pub LacksNoValue : Type 0
LacksNoValue =
    (context : MessageContext) (id : ComponentId) (value : List ℕ) (lack : Lack)
    → Has context id value → ¬ Lacks context id lack

-- ASCII without NUL, CR and LF
abbrev pub is_value_byte : ℕ → Bool
is_value_byte c = is_ascii c && is_line_byte c

-- some bytes spell the message, which answers a HEAD request or doesn't
pub record IsSpelled (message : Message) : Type 0 where
  pub to_head : Bool
  pub text : List ℕ
  pub are_bytes : IsTrue (list_all is_byte text)
  pub spells : Spells to_head message text

-- what the values are drawn from are messages, which bytes spell
pub record HasMessages (context : MessageContext) : Type 0 where
  pub message : IsSpelled context.message
  pub related : IfSome context.related IsSpelled

-- no line of a signature base is broken by a value
abbrev pub HasCleanValues : Type 0
HasCleanValues =
    (context : MessageContext) (id : ComponentId) (value : List ℕ) → HasMessages context
    → Has context id value → IsTrue (list_all is_value_byte value)

-- ---- the lines that a component is drawn from

-- a component comes to the same over messages that are alike for it
abbrev pub DependsOnItsLines : Type 0
DependsOnItsLines =
    (context : MessageContext) (other : Message) (id : ComponentId)
    → AreAlikeFor id context.message other → ComesToSame context other id

-- ---- what a component is drawn from

-- A component of the related request depends on the kind of the message alone.
abbrev pub DependsOnKind : Type 0
DependsOnKind =
    (context : MessageContext) (other : Message) (id : ComponentId)
    → IsTrue (has_param id.params (codes "req"))
    → is_request other.head.start ≡ is_request context.message.head.start
    → ComesToSame context other id

-- A field of the message depends on the lines of its name alone, as far as its form asks.
abbrev pub DependsOnOwnLines : Type 0
DependsOnOwnLines =
    (context : MessageContext) (other : Message) (id : ComponentId) → IsTrue (is_own_field id)
    → AreSameIn (form_of id.params) (lines_on (side_of id.params) context.message)
    (lines_on (side_of id.params) other) id.name
    → ComesToSame context other id

-- the row of a derived component is the same over both messages
abbrev pub HasSameRow : MessageContext → Message → ComponentId → Type 0
HasSameRow context other id = (result : Result (List ℕ) Lack)
    → DerivedRow (derived_of id.name) id.params context.scheme
    (lines_on Header context.message) context.message.head.start result
    ↔ DerivedRow (derived_of id.name) id.params context.scheme
    (lines_on Header other) other.head.start result

-- A derived component of the message is the same where its row is.
abbrev pub DependsOnItsRow : Type 0
DependsOnItsRow =
    (context : MessageContext) (other : Message) (id : ComponentId)
    → IsFalse (has_param id.params (codes "req")) → IsFalse (is_field_name id.name)
    → HasSameRow context other id → ComesToSame context other id

-- ---- strict texts

-- A strict text has no blank at either end.
abbrev pub HasNoBlankEnds : Type 0
HasNoBlankEnds =
    (kind : Option FieldKind) (text strict : List ℕ) → KindRow kind text (Ok strict)
    → IsFalse (starts_in is_blank strict) × IsFalse (starts_in is_blank (reverse strict))

-- Where the combined value of a field becomes its strict text, its strict text and each member of
-- it stay (RFC 9421 sections 2.1.1 and 2.1.2).
abbrev pub DependsOnItsReading : Type 0
DependsOnItsReading =
    (params : List (Pair BareItem)) (kind : Option FieldKind) (name text : List ℕ)
    (lines fewer : List FieldLine) (result : Result (List ℕ) Lack)
    → IsTrue (list_all has_value_type params) → IsFalse (has_param params (codes "bs"))
    → IsTrue (has_param params (codes "sf") || has_param params (codes "key"))
    → KindRow kind (combined_value lines name) (Ok text) → combined_value fewer name ≡ text
    → IsTrue (is_there lines name) → IsTrue (is_there fewer name)
    → FieldRow params kind lines name result ↔ FieldRow params kind fewer name result

-- The parameters of an identifier that has `sf` or `key` have the right types, and no `bs` is among
-- them (RFC 9421 section 2.1).
abbrev pub HasFormOfReading : Type 0
HasFormOfReading =
    (id : ComponentId) → IsTrue (is_identifier (item_of id))
    → IsTrue (has_param id.params (codes "sf") || has_param id.params (codes "key"))
    → IsTrue (list_all has_value_type id.params) × IsFalse (has_param id.params (codes "bs"))

-- ---- the components of a signature

-- components have values, or a first of them lacks one
abbrev pub HaveOrLack : Type 0
HaveOrLack =
    (context : MessageContext) (ids : List ComponentId)
    → ((values : List (List ℕ)) × HaveValues context ids values)
    ⊎ ((index : ℕ) × (lack : Lack) × IsFirstLack context ids index lack)

-- components have at most one list of values
abbrev pub HaveOneList : Type 0
HaveOneList =
    (context : MessageContext) (ids : List ComponentId) (values others : List (List ℕ))
    → HaveValues context ids values → HaveValues context ids others → values ≡ others

-- at most one component is the first that lacks a value, and it lacks it in one way
abbrev pub HaveOneFirstLack : Type 0
HaveOneFirstLack =
    (context : MessageContext) (ids : List ComponentId) (i j : ℕ) (lack other : Lack)
    → IsFirstLack context ids i lack → IsFirstLack context ids j other
    → (i ≡ j) × (lack ≡ other)

-- where all components have values, none is the first that lacks one
abbrev pub HaveNoLack : Type 0
HaveNoLack =
    (context : MessageContext) (ids : List ComponentId) (values : List (List ℕ)) (index : ℕ)
    (lack : Lack) → HaveValues context ids values → ¬ IsFirstLack context ids index lack

-- components that come to the same over both messages have the same values
abbrev pub HaveSameList : Type 0
HaveSameList =
    (context : MessageContext) (other : Message) (ids : List ComponentId)
    (values : List (List ℕ)) → All (ComesToSame context other) ids
    → HaveValues context ids values ↔ HaveValues (context_with context other) ids values

-- the same one of them is the first that lacks a value, in the same way
abbrev pub HaveSameFirstLack : Type 0
HaveSameFirstLack =
    (context : MessageContext) (other : Message) (ids : List ComponentId) (index : ℕ)
    (lack : Lack) → All (ComesToSame context other) ids
    → IsFirstLack context ids index lack ↔ IsFirstLack (context_with context other) ids index lack
