-- What was read of a context, so that each of its structured fields is read once for all labels
-- (RFC 9421 sections 2.1.1 and 2.1.2).
use Rattle.std.specs.Prelude.{◌≡◌, ℕ, Option, Some, option_map, IfSome, List, Result, Ok, Err, codes, if◌then◌else◌}
use Rattle.std.specs.List.{All, Contains}
use Rattle.sfv_text.specs.declared.pair.Pair.{Pair}
use Rattle.sfv_text.specs.declared.value.Member.{Member}
use Rattle.sfv_read.specs.Reads.{ReadsDict}
use Rattle.msg_head.specs.Values.{combined_value}
use Rattle.msg_body.specs.Messages.{Message}
use Rattle.msg_body.specs.Views.{lines_on}
use Rattle.component_ids.specs.Table.{has_param}
use Rattle.component_ids.specs.Types.{kind_in}
use Rattle.component_ids.specs.declared.id.ComponentId.{ComponentId}
use Rattle.derived_values.specs.declared.lack.Lack.{Lack}
use Rattle.derived_values.specs.declared.lack.Lack.TheVariants.{Unreadable}
use Rattle.component_values.specs.Context.{MessageContext}
use Rattle.component_values.specs.Values.{KindRow, side_of}
use Rattle.component_values.specs.declared.context_field.ContextField.{ContextField}
use Rattle.component_values.specs.declared.readings.FieldAnswer.{FieldAnswer}
use Rattle.component_values.specs.declared.readings.Readings.{Readings}

-- the field that a component is drawn from
abbrev pub field_of : ComponentId → ContextField
field_of id = record {
  of_related = has_param id.params (codes "req");
  side = side_of id.params;
  name = id.name;
}

-- the message that has the field: that of the context, or the request that it answers
abbrev pub message_at : MessageContext → ContextField → Option Message
message_at context field = if field.of_related then context.related else Some context.message

-- the combined value of the field, where there is a message to draw it from (section 2.1)
abbrev pub text_at : MessageContext → ContextField → Option (List ℕ)
text_at context field =
    option_map (λ message. combined_value (lines_on field.side message) field.name)
    (message_at context field)

-- the Dictionary that the text reads as; a text that reads as none is unreadable
abbrev pub DictRow : List ℕ → Result (List (Pair Member)) Lack → Type 0
DictRow text (Ok dict) = ReadsDict text dict
DictRow text (Err lack) =
    (lack ≡ Unreadable) × ((dict : List (Pair Member)) → ¬ ReadsDict text dict)

-- what `sf` asks of the field, by its kind
abbrev pub IsStrictTextIn : MessageContext → FieldAnswer (List ℕ) → Type 0
IsStrictTextIn context own =
    IfSome (text_at context own.field) (λ text.
    KindRow (kind_in context.types own.field.name) text own.answer)

-- what `key` asks of the field, whatever the key
abbrev pub IsDictIn : MessageContext → FieldAnswer (List (Pair Member)) → Type 0
IsDictIn context own =
    IfSome (text_at context own.field) (λ text. DictRow text own.answer)

-- the field has a reading among these
abbrev pub HasReading : {T : Type 0} → List (FieldAnswer T) → ContextField → Type 0
HasReading {T} own field =
    (answer : Result T Lack) × Contains own (record { field = field; answer = answer })

-- Each was read of a field of the context. The parameters of a query, which are kept too, know of
-- which query they are.
pub record AreReadOf (context : MessageContext) (readings : Readings) : Type 0 where
  pub texts : All (IsStrictTextIn context) readings.texts
  pub dicts : All (IsDictIn context) readings.dicts
