-- Laws of turning lists of fields into messages, and back.
use Rattle.std.specs.Prelude.{◌≡◌, ◌≢◌, ◌⊎◌, ◌↔◌, ⊤, ℕ, ◌≤◌, false, IsFalse, List, ◌++◌, length, map, codes, Result, None}
use Rattle.framing.specs.declared.chunk_limits.TheConstants.{MAX_CONTENT_BYTES}
use Rattle.component_ids.specs.Table.{has_param}
use Rattle.component_ids.specs.Types.{KindMap}
use Rattle.component_ids.specs.declared.id.ComponentId.{ComponentId}
use Rattle.component_ids.specs.declared.scheme.Scheme.{Scheme}
use Rattle.derived_values.specs.declared.lack.Lack.{Lack}
use Rattle.msg_head.specs.Values.{value}
use Rattle.msg_body.specs.Messages.{Message, IsMessage}
use Rattle.msg_body.specs.Views.{message_content}
use Rattle.component_values.specs.Context.{MessageContext}
use Rattle.component_values.specs.Values.{ComesTo}
use Rattle.field_lists.specs.declared.from_fault.FromFault.{FromFault}
use Rattle.list_texts.specs.declared.list.Field.{Field}
use Rattle.list_texts.specs.declared.list.FieldList.{FieldList}
use Rattle.field_lists.specs.declared.to_fault.ToFault.{ToFault}
use Rattle.derived_values.specs.Authorities.{IsAuthorityValue}
use Rattle.field_lists.specs.Controls.{Control, request, response, field_of}
use Rattle.field_lists.specs.ListValues.{ListComesTo}
use Rattle.field_lists.specs.ToCauses.{IsToFault, TurnsInto, is_refused_name}
use Rattle.field_lists.specs.FromCauses.{IsFromFault}
use Rattle.field_lists.specs.FromMessages.{TurnsIntoList, pseudo_fields}

-- ---- there

-- a list whose content is within its limit is turned into one message, or has one fault
abbrev pub HasMessageOrFault : Type 0
HasMessageOrFault = (list : FieldList) (scheme : Scheme) →
    ((message : Message) × TurnsInto list scheme message)
    ⊎ ((fault : ToFault) × IsToFault list scheme fault)

-- a list is turned into at most one message
abbrev pub OneMessage : Type 0
OneMessage = (list : FieldList) (scheme : Scheme) (message other : Message) →
    TurnsInto list scheme message → TurnsInto list scheme other → message ≡ other

-- a list has at most one fault
abbrev pub OneToFault : Type 0
OneToFault =
    (list : FieldList) (scheme : Scheme) (fault other : ToFault) →
    IsToFault list scheme fault → IsToFault list scheme other → fault ≡ other

-- what a list is turned into is a message, and has the list's content
abbrev pub IsWholeMessage : Type 0
IsWholeMessage = (list : FieldList) (scheme : Scheme) (message : Message) →
    length list.content ≤ MAX_CONTENT_BYTES → TurnsInto list scheme message →
    IsMessage false message × (message_content message ≡ list.content)

-- the component is drawn from the message itself, and isn't `@request-target`
pub record IsOwn (id : ComponentId) : Type 0 where
  pub no_req : IsFalse (has_param id.params (codes "req"))
  pub no_target : id.name ≢ codes "@request-target"

-- the message by itself under this scheme
abbrev pub alone : Message → Scheme → KindMap → MessageContext
alone message scheme types =
    record { message = message; related = None; scheme = scheme; types = types }

-- of a list and its message a component comes to the same, but for the lines that say where the
-- message goes and how it is sent
abbrev pub MessageHasTheSame : Type 0
MessageHasTheSame =
    (list : FieldList) (scheme : Scheme) (message : Message) (types : KindMap)
    (id : ComponentId) (result : Result (List ℕ) Lack) → TurnsInto list scheme message →
    IsOwn id → id.name ≢ codes "host" → id.name ≢ codes "transfer-encoding" →
    ListComesTo list types id result ↔ ComesTo (alone message scheme types) id result

-- ---- and back

-- a message is turned into one list, or has one fault
abbrev pub HasListOrFromFault : Type 0
HasListOrFromFault = (context : MessageContext) →
    ((list : FieldList) × TurnsIntoList context list)
    ⊎ ((fault : FromFault) × IsFromFault context fault)

-- a message is turned into at most one list
abbrev pub OneListOfMessage : Type 0
OneListOfMessage = (context : MessageContext) (list other : FieldList) →
    TurnsIntoList context list → TurnsIntoList context other → list ≡ other

-- a message has at most one fault
abbrev pub OneFromFault : Type 0
OneFromFault = (context : MessageContext) (fault other : FromFault) →
    IsFromFault context fault → IsFromFault context other → fault ≡ other

-- a message that is turned into a list has no fault
abbrev pub NoFromFaultOfList : Type 0
NoFromFaultOfList = (context : MessageContext) (list : FieldList) (fault : FromFault) →
    TurnsIntoList context list → ¬ IsFromFault context fault

-- of a message and its list a component comes to the same, but for the fields that aren't kept
abbrev pub ListHasTheSame : Type 0
ListHasTheSame =
    (context : MessageContext) (list : FieldList) (id : ComponentId)
    (result : Result (List ℕ) Lack) → TurnsIntoList context list → IsOwn id →
    IsFalse (is_refused_name id.name) →
    ListComesTo list context.types id result ↔ ComesTo context id result

-- the field with the value that it has in a message (RFC 9421 section 2.1)
abbrev pub normal_field : Field → Field
normal_field field = field_of field.name (value field.value)

-- the list with its pseudo-header fields in one order, and each other value as a message has it
abbrev pub normal_list : Control → List Field → FieldList → FieldList
normal_list control others list = record {
  fields = pseudo_fields control ++ map normal_field others;
  content = list.content;
  trailers = map normal_field list.trailers;
}

-- its authority is one (RFC 3986 section 3.2), or it is a response
abbrev pub HasAuthority : Control → Type 0
HasAuthority (request control) =
    (value : List ℕ) × IsAuthorityValue control.scheme control.authority value
HasAuthority (response code) = ⊤

-- a list's message is turned into that list, where it has an authority or is a response
abbrev pub TurnsBack : Type 0
TurnsBack =
    (list : FieldList) (scheme : Scheme) (message : Message) (types : KindMap)
    (turned : TurnsInto list scheme message) → HasAuthority turned.control →
    TurnsIntoList (alone message scheme types) (normal_list turned.control turned.others list)
