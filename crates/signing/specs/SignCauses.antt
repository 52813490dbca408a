-- Why a message isn't signed, in the order in which it is judged.
use Rattle.std.specs.Prelude.{◌≡◌, ◌⊎◌, ℕ, Bool, true, false, ◌&&◌, not, is_some, nat_lt, IsTrue, Option, Some, None, List, [], ◌∷◌, length, take, replicate, slice_get, IsSomeAnd, codes, if◌then◌else◌}
use Rattle.std.specs.List.{list_any}
use Rattle.std.specs.Str.{bytes_eq}
use Rattle.byte_grammar.specs.Causes.{IsFirst}
use Rattle.sfv_text.specs.declared.pair.Pair.{Pair}
use Rattle.sfv_text.specs.declared.value.Member.{Member}
use Rattle.msg_head.specs.Heads.{head_text}
use Rattle.msg_head.specs.declared.limits.TheConstants.{MAX_HEAD_BYTES, MAX_HEAD_LINES}
use Rattle.msg_body.specs.Messages.{Message, message_text}
use Rattle.msg_body.specs.declared.limits.TheConstants.{MAX_MESSAGE_BYTES}
use Rattle.component_ids.specs.Table.{is_listed, has_param}
use Rattle.component_ids.specs.declared.id.ComponentId.{ComponentId}
use Rattle.component_values.specs.Context.{MessageContext}
use Rattle.component_values.specs.Forms.{member_key}
use Rattle.component_values.specs.Values.{IsFirstLack}
use Rattle.signatures.specs.Signatures.{input_name, signature_name, HasField, HasDict, HasMember}
use Rattle.signing.specs.Written.{context_with_digest, signed_message}
use Rattle.signing.specs.declared.fault.SignFault.{SignFault}
use Rattle.signing.specs.declared.fault.SignFault.TheVariants.{Memory, InputMalformed, SignatureMalformed, LabelThere, SelfCover, TooLong, Lacks}
use Rattle.signing.specs.declared.spec.SignSpec.{SignSpec}
use Rattle.signing.specs.declared.mac.TheConstants.{TAG_BYTES}

-- ---- the fields that have the signatures

-- the message has the field, and it is no Dictionary with a member
abbrev pub IsMalformed : Message → List ℕ → Type 0
IsMalformed message name =
    HasField message name × ((dict : List (Pair Member)) → HasDict message name dict → dict ≡ [])

-- the field's Dictionary has a member of the label
abbrev pub HasLabel : Message → List ℕ → List ℕ → Type 0
HasLabel message name label = (member : Member) × HasMember message name label member

-- ---- components that signing changes

-- the key is absent or the label
abbrev pub is_label_or_none : List ℕ → Option (List ℕ) → Bool
is_label_or_none label None = true
is_label_or_none label (Some key) = bytes_eq key label

-- the component is one of the header's two fields to which signing adds a member: the whole field,
-- or the member of the new label
abbrev pub covers_itself : List ℕ → ComponentId → Bool
covers_itself label id =
    is_listed (signature_name ∷ input_name ∷ []) id.name
    && (not (has_param id.params (codes "req")) && (not (has_param id.params (codes "tr"))
    && is_label_or_none label (member_key id.params)))

-- the component is the whole of one of the header's two fields of signatures
abbrev pub covers_signatures : ComponentId → Bool
covers_signatures id =
    is_listed (signature_name ∷ input_name ∷ []) id.name
    && (not (has_param id.params (codes "req")) && (not (has_param id.params (codes "tr"))
    && not (is_some (member_key id.params))))

-- the first component that covers the new signature has the index
pub record IsFirstSelfCover (label : List ℕ) (ids : List ComponentId) (index : ℕ) : Type 0 where
  pub before : list_any (covers_itself label) (take index ids) ≡ false
  pub there : IsSomeAnd (slice_get ids index) (λ id. IsTrue (covers_itself label id))

-- ---- limits

-- the first limit that the message passes: bytes of its head, lines of it, bytes of the whole
abbrev pub passed_limit : Message → Option ℕ
passed_limit message =
    if nat_lt MAX_HEAD_BYTES (length (head_text message.head)) then Some MAX_HEAD_BYTES
    else if nat_lt MAX_HEAD_LINES (length message.head.lines) then Some MAX_HEAD_LINES
    else if nat_lt MAX_MESSAGE_BYTES (length (message_text message)) then Some MAX_MESSAGE_BYTES
    else None

-- a tag of as many bytes as each tag has: all tags make messages of one length
abbrev pub any_tag : List ℕ
any_tag = replicate TAG_BYTES 0

-- ---- causes

-- the fact for which the fault is answered; being out of memory is none of them
abbrev pub IsSignCause : MessageContext → SignSpec → SignFault → Type 0
IsSignCause context spec InputMalformed = IsMalformed context.message input_name
IsSignCause context spec SignatureMalformed = IsMalformed context.message signature_name
IsSignCause context spec LabelThere =
    HasLabel context.message input_name spec.label
    ⊎ HasLabel context.message signature_name spec.label
IsSignCause context spec (SelfCover index) = IsFirstSelfCover spec.label spec.params.ids index
IsSignCause context spec (TooLong limit) =
    passed_limit (signed_message context.message spec any_tag) ≡ Some limit
IsSignCause context spec (Lacks index lack) =
    IsFirstLack (context_with_digest context spec.digest) spec.params.ids index lack
IsSignCause context spec Memory = ⊥

-- the order in which the causes are judged
abbrev pub sign_order : SignFault → ℕ
sign_order InputMalformed = 2
sign_order SignatureMalformed = 3
sign_order LabelThere = 4
sign_order (SelfCover index) = 5
sign_order (TooLong limit) = 6
sign_order (Lacks index lack) = 7
sign_order Memory = 8

-- the fault's cause is the first that holds
abbrev pub IsSignFault : MessageContext → SignSpec → SignFault → Type 0
IsSignFault context spec fault = IsFirst sign_order (IsSignCause context spec) fault
