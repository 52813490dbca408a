-- Why a list of fields is turned into no message.
use Rattle.std.specs.Prelude.{◌≡◌, ◌≢◌, ◌⊎◌, ℕ, ◌+◌, ◌<◌, Bool, IsTrue, IsFalse, ◌&&◌, ◌||◌, not, nat_lt, List, [], ◌∷◌, ◌++◌, length, map, filter, codes}
use Rattle.std.specs.List.{list_all, list_any}
use Rattle.std.specs.Str.{bytes_eq}
use Rattle.std.specs.Str.Parse.{digits_value}
use Rattle.byte_grammar.specs.Classes.{is_field_name, is_line_byte}
use Rattle.byte_grammar.specs.Causes.{IsFirst}
use Rattle.component_ids.specs.declared.scheme.Scheme.{Scheme}
use Rattle.derived_values.specs.Derived.{scheme_text}
use Rattle.framing.specs.Framings.{are_accepted_lengths}
use Rattle.msg_head.specs.declared.limits.TheConstants.{MAX_HEAD_BYTES, MAX_HEAD_LINES}
use Rattle.msg_head.specs.Heads.{head_text}
use Rattle.msg_head.specs.Trailers.{trailer_text}
use Rattle.msg_head.specs.Values.{value}
use Rattle.msg_body.specs.Bodies.{trailers_in}
use Rattle.msg_body.specs.Messages.{Message}
use Rattle.list_texts.specs.declared.list.Field.{Field}
use Rattle.list_texts.specs.declared.list.FieldList.{FieldList}
use Rattle.field_lists.specs.declared.to_fault.ToFault.{ToFault}
use Rattle.field_lists.specs.declared.to_fault.ToFault.TheVariants.{Memory, Pseudo, SchemeOther, BadField, BadLength, BodyRefused, TooLarge}
use Rattle.field_lists.specs.declared.to_fault.MessageLimit.{MessageLimit}
use Rattle.field_lists.specs.declared.to_fault.MessageLimit.TheVariants.{HeadBytes, TrailerBytes, HeadLines, TrailerLines}
use Rattle.field_lists.specs.Controls.{Control, request, response, IsOf, is_without_content}
use Rattle.field_lists.specs.ToMessages.{has_field, has_body, message_with}

-- ---- fields that aren't turned

-- `Host`, and the fields that are of one connection of HTTP/1.1 alone (RFC 9113 sections 8.2.2 and
-- 8.3.1)
abbrev pub refused_names : List (List ℕ)
refused_names =
    codes "host" ∷ codes "connection" ∷ codes "keep-alive" ∷ codes "proxy-connection"
    ∷ codes "transfer-encoding" ∷ codes "upgrade" ∷ []

-- the field of this name isn't turned
abbrev pub is_refused_name : List ℕ → Bool
is_refused_name name = list_any (λ refused. bytes_eq name refused) refused_names

-- The name is a field name in lower case (RFC 9113 section 8.2) and none of these, and the value
-- has no NUL, CR or LF (RFC 9113 section 8.2.1).
abbrev pub is_good : Field → Bool
is_good field =
    (is_field_name field.name && not (is_refused_name field.name))
    && list_all is_line_byte field.value

-- The first field that isn't good has the index. Trailer fields are counted on after the others,
-- and the pseudo-header fields are the first of them.
pub record IsFirstBad (list : FieldList) (others : List Field) (index : ℕ) : Type 0 where
  pub before : List Field
  pub bad : Field
  pub after : List Field
  pub joined : others ++ list.trailers ≡ before ++ bad ∷ after
  pub good : IsTrue (list_all is_good before)
  pub is_bad : IsFalse (is_good bad)
  pub place : index + length others ≡ length list.fields + length before

-- ---- lengths and content

-- the values of the `content-length` fields (RFC 9110 section 8.6)
abbrev pub lengths_of : List Field → List (List ℕ)
lengths_of others =
    map (λ field. value field.value)
    (filter (λ field. bytes_eq field.name (codes "content-length")) others)

-- A length is said that isn't the content's: RFC 9113 section 8.1.1. Of a response that has no
-- content it may be another one (RFC 9110 section 8.6).
abbrev pub IsOtherLength : Control → FieldList → List (List ℕ) → Type 0
IsOtherLength control list [] = ⊥
IsOtherLength control list (text ∷ texts) =
    (digits_value 10 text ≢ length list.content) × IsFalse (is_without_content control)

-- there are several, or one that is no length, or not that of the content
abbrev pub IsBadLength : Control → List Field → FieldList → Type 0
IsBadLength control others list =
    IsFalse (are_accepted_lengths (lengths_of others))
    ⊎ IsOtherLength control list (lengths_of others)

-- a response that has no content comes with content or trailer fields, or trailer fields come
-- beside a length, with which no trailer section is sent (RFC 9112 section 7.1.2)
abbrev pub is_body_refused : Control → List Field → FieldList → Bool
is_body_refused control others list =
    (is_without_content control && has_body list)
    || (has_field (codes "content-length") others && nat_lt 0 (length list.trailers))

-- ---- limits

-- the message passes the limit of heads or of trailer sections
abbrev pub Passes : Message → MessageLimit → Type 0
Passes message HeadBytes = MAX_HEAD_BYTES < length (head_text message.head)
Passes message TrailerBytes = MAX_HEAD_BYTES < length (trailer_text (trailers_in message.body))
Passes message HeadLines = MAX_HEAD_LINES < length message.head.lines
Passes message TrailerLines = MAX_HEAD_LINES < length (trailers_in message.body)

-- the order in which they are judged
abbrev pub limit_order : MessageLimit → ℕ
limit_order HeadBytes = 0
limit_order TrailerBytes = 1
limit_order HeadLines = 2
limit_order TrailerLines = 3

-- ---- causes

-- the fact over the control data and the other fields that the list has
abbrev pub HasControl : FieldList → (Control → List Field → Type 0) → Type 0
HasControl list Fact = (control : Control) × (others : List Field)
    × IsOf list control others × Fact control others

-- the scheme is another one; a response has none
abbrev pub IsOtherScheme : Scheme → Control → Type 0
IsOtherScheme scheme (request control) = control.scheme ≢ scheme_text scheme
IsOtherScheme scheme (response code) = ⊥

-- the fact for which the fault is answered; being out of memory is none of them
abbrev pub IsToCause : FieldList → Scheme → ToFault → Type 0
IsToCause list scheme Memory = ⊥
IsToCause list scheme Pseudo =
    (control : Control) (others : List Field) → ¬ IsOf list control others
IsToCause list scheme SchemeOther = HasControl list (λ control others. IsOtherScheme scheme control)
IsToCause list scheme (BadField index) =
    HasControl list (λ control others. IsFirstBad list others index)
IsToCause list scheme BadLength =
    HasControl list (λ control others. IsBadLength control others list)
IsToCause list scheme BodyRefused =
    HasControl list (λ control others. IsTrue (is_body_refused control others list))
IsToCause list scheme (TooLarge limit) = HasControl list (λ control others.
    IsFirst limit_order (Passes (message_with control others list)) limit)

-- the order in which the causes are judged
abbrev pub to_order : ToFault → ℕ
to_order Memory = 0
to_order Pseudo = 1
to_order SchemeOther = 2
to_order (BadField index) = 3
to_order BadLength = 4
to_order BodyRefused = 5
to_order (TooLarge limit) = 6

-- the fault's cause is the first that holds
abbrev pub IsToFault : FieldList → Scheme → ToFault → Type 0
IsToFault list scheme fault = IsFirst to_order (IsToCause list scheme) fault

-- the list is turned into this message
pub record TurnsInto (list : FieldList) (scheme : Scheme) (message : Message) : Type 0 where
  pub control : Control
  pub others : List Field
  pub is_of : IsOf list control others
  pub none : (fault : ToFault) → ¬ IsToCause list scheme fault
  pub is : message ≡ message_with control others list
