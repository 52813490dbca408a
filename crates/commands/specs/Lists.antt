-- What `lists` comes to: the message of a recorded list of fields, for a configuration and an input
-- that is a list, or the list of a message (RFC 9113 section 8.3, RFC 9114 section 4.3).
use Rattle.std.specs.Prelude.{◌≡◌, ◌<◌, ◌≤◌, ℕ, IsTrue, List, length}
use Rattle.std.specs.List.{list_all}
use Rattle.sfv_text.specs.Classes.{is_byte}
use Rattle.component_ids.specs.declared.scheme.Scheme.{Scheme}
use Rattle.component_values.specs.Context.{MessageContext}
use Rattle.msg_body.specs.Messages.{message_text}
use Rattle.conf.specs.Configuration.{Configuration}
use Rattle.list_texts.specs.Causes.{IsFieldsFault}
use Rattle.list_texts.specs.Lists.{SpellsList, list_text}
use Rattle.list_texts.specs.declared.list.FieldList.{FieldList}
use Rattle.field_lists.specs.FromCauses.{IsFromFault}
use Rattle.field_lists.specs.FromMessages.{TurnsIntoList}
use Rattle.field_lists.specs.ToCauses.{IsToFault, TurnsInto}
use Rattle.refusals.specs.declared.file.FileRefusal.{FileRefusal}
use Rattle.refusals.specs.declared.file.FileRefusal.TheVariants.{TooLong, Fields}
use Rattle.refusals.specs.declared.refusal.TheConstants.{MAX_INPUT_BYTES}
use Rattle.refusals.specs.declared.refusal.CommandRefusal.TheVariants.{ToMessage, FromMessage}
use Rattle.refusals.specs.declared.refusal.Refusal.TheVariants.{Of, Command}
use Rattle.refusals.specs.declared.role.Role.TheVariants.{Input}
use Rattle.commands.specs.Layers.{ReadsThen}
use Rattle.commands.specs.declared.outcome.Outcome.{Outcome}
use Rattle.commands.specs.declared.outcome.Outcome.TheVariants.{Done}

-- the text is of bytes, within the limit, and the list's
pub record IsListText (text : List ℕ) (list : FieldList) : Type 0 where
  pub are_bytes : IsTrue (list_all is_byte text)
  pub within : length text ≤ MAX_INPUT_BYTES
  pub spells : SpellsList text list

-- why the text is refused as one
abbrev pub IsListRefused : List ℕ → FileRefusal → Type 0
IsListRefused text (TooLong limit) =
    (limit ≡ MAX_INPUT_BYTES) × (MAX_INPUT_BYTES < length text)
IsListRefused text (Fields fault) =
    (length text ≤ MAX_INPUT_BYTES) × IsFieldsFault text fault
IsListRefused text refusal = ⊥

-- the message that the list is turned into, or why it is turned into none
abbrev pub ReportsMessageOf : Scheme → FieldList → Outcome → Type 0
ReportsMessageOf scheme list =
    ReadsThen (TurnsInto list scheme) (IsToFault list scheme) (λ fault. Command (ToMessage fault))
    (λ message outcome. outcome ≡ Done (message_text message))

-- what comes of the list that the input is, or why it is refused as one
abbrev pub ReportsIntoMessage : Configuration → List ℕ → Outcome → Type 0
ReportsIntoMessage conf input =
    ReadsThen (IsListText input) (IsListRefused input) (λ refusal. Of Input refusal)
    (ReportsMessageOf conf.scheme)

-- the list that the context's message is turned into, or why it is turned into none
abbrev pub ReportsIntoFields : MessageContext → Outcome → Type 0
ReportsIntoFields context =
    ReadsThen (TurnsIntoList context) (IsFromFault context)
    (λ fault. Command (FromMessage fault)) (λ list outcome. outcome ≡ Done (list_text list))
