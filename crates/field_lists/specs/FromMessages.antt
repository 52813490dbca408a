-- The list of fields that a message of HTTP/1.1 is turned into (RFC 9113 section 8.3).
use Rattle.std.specs.Prelude.{◌≡◌, ℕ, not, Some, List, [], ◌∷◌, ◌++◌, map, filter, codes, Ok}
use Rattle.std.specs.Str.{str_to_ascii_lowercase}
use Rattle.msg_head.specs.declared.error.Side.TheVariants.{Header, Trailer}
use Rattle.msg_head.specs.Lines.{FieldLine}
use Rattle.msg_head.specs.Starts.{RequestLine, StartLine}
use Rattle.msg_head.specs.Starts as start
use Rattle.msg_head.specs.Values.{value}
use Rattle.msg_body.specs.Messages.{Message}
use Rattle.msg_body.specs.Views.{lines_on, message_content}
use Rattle.derived_values.specs.Targets.{TargetParts, SpellsTarget, path_of, query_text}
use Rattle.derived_values.specs.Derived.{RequestParts, TargetAuthorityRow, named_authority, scheme_of}
use Rattle.component_values.specs.Context.{MessageContext}
use Rattle.list_texts.specs.declared.list.Field.{Field}
use Rattle.list_texts.specs.declared.list.FieldList.{FieldList}
use Rattle.field_lists.specs.Controls.{RequestControl, Control, request, response, field_of}
use Rattle.field_lists.specs.ToCauses.{is_refused_name}

-- ---- fields

-- the name in lower case (RFC 9113 section 8.2), and the value (RFC 9421 section 2.1)
abbrev pub field_of_line : FieldLine → Field
field_of_line line = field_of (str_to_ascii_lowercase line.name) (value line.raw)

-- the fields of the lines, but those that are of one connection alone, and `Host` (RFC 9113
-- sections 8.2.2 and 8.3.1)
abbrev pub kept_fields : List FieldLine → List Field
kept_fields lines =
    filter (λ field. not (is_refused_name field.name)) (map field_of_line lines)

-- ---- control data

-- what derived components of the request are drawn from
abbrev pub request_parts : MessageContext → RequestLine → RequestParts
request_parts context line = record {
  method = line.method;
  target = line.target;
  lines = lines_on Header context.message;
  scheme = context.scheme;
}

-- The request has this target, which has a path, and an authority that has a value. The control
-- data are the method, the scheme as `@scheme` has it, the authority as it is written, and the
-- path, `/` where it is empty, with the query.
pub record IsRequestOf (context : MessageContext) (line : RequestLine) (control : RequestControl)
    : Type 0 where
  pub target : TargetParts
  pub spells : SpellsTarget line.method line.target target
  pub path : List ℕ
  pub path_is : path_of target ≡ Some path
  pub named : named_authority (request_parts context line) target.authority
      ≡ Ok control.authority
  pub authority_value : List ℕ
  pub has_authority : TargetAuthorityRow (request_parts context line) target (Ok authority_value)
  pub method : control.method ≡ line.method
  pub scheme : control.scheme ≡ scheme_of (request_parts context line) target
  pub joined : control.path ≡ path ++ query_text target.query

-- the control data of a message with this start line
abbrev pub IsControlOf : MessageContext → StartLine → Control → Type 0
IsControlOf context (start.request line) (request control) = IsRequestOf context line control
IsControlOf context (start.status line) (response code) = code ≡ line.code
IsControlOf context (start.request line) (response code) = ⊥
IsControlOf context (start.status line) (request control) = ⊥

-- the pseudo-header fields of the control data, in this order
abbrev pub pseudo_fields : Control → List Field
pseudo_fields (request control) =
    field_of (codes ":method") control.method
    ∷ field_of (codes ":scheme") control.scheme
    ∷ field_of (codes ":authority") control.authority
    ∷ field_of (codes ":path") control.path ∷ []
pseudo_fields (response code) = field_of (codes ":status") code ∷ []

-- ---- the list

-- the message's list, where the message is of this control data
abbrev pub list_with : Control → Message → FieldList
list_with control message = record {
  fields = pseudo_fields control ++ kept_fields (lines_on Header message);
  content = message_content message;
  trailers = kept_fields (lines_on Trailer message);
}

-- the context's message is turned into this list
pub record TurnsIntoList (context : MessageContext) (list : FieldList) : Type 0 where
  pub control : Control
  pub is_of : IsControlOf context context.message.head.start control
  pub is : list ≡ list_with control context.message
