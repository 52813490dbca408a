-- What `audit` comes to, for a configuration and an input that is a recording.
use Rattle.std.specs.Prelude.{◌≡◌, ◌<◌, ◌≤◌, ℕ, IsTrue, List, length, if◌then◌else◌}
use Rattle.std.specs.List.{list_all}
use Rattle.sfv_text.specs.Classes.{is_byte}
use Rattle.conf.specs.Configuration.{Configuration}
use Rattle.rewrite_script.specs.declared.limits.TheConstants.{MAX_SCRIPT_BYTES}
use Rattle.recording.specs.Causes.{IsRecordingFault}
use Rattle.recording.specs.Items.{PlacedItem}
use Rattle.recording.specs.Recordings.{SpellsRecording}
use Rattle.hop_audit.specs.ChainFaults.{IsChainFault}
use Rattle.hop_audit.specs.Lines.{finds_fault, report_text}
use Rattle.hop_audit.specs.Report.{IsAudit}
use Rattle.hop_audit.specs.declared.fault.ChainFault.TheVariants as chain
use Rattle.recording.specs.declared.limits.TheConstants.{MAX_HOPS}
use Rattle.hop_audit.specs.declared.line.AuditLine.{AuditLine}
use Rattle.refusals.specs.declared.file.FileRefusal.{FileRefusal}
use Rattle.refusals.specs.declared.file.FileRefusal.TheVariants.{TooLong, Message, Script, Recording, Order, TooManyHops}
use Rattle.refusals.specs.declared.refusal.TheConstants.{MAX_RECORDING_BYTES}
use Rattle.refusals.specs.declared.refusal.Refusal.{Refusal}
use Rattle.refusals.specs.declared.refusal.Refusal.TheVariants.{Of}
use Rattle.refusals.specs.declared.role.Role.TheVariants.{Input, Item}
use Rattle.commands.specs.Layers.{ReadsThen}
use Rattle.commands.specs.declared.outcome.Outcome.{Outcome}
use Rattle.commands.specs.declared.outcome.Outcome.TheVariants.{Done, NotOk}

-- the text is of bytes, within the limit, and the recording of these items
pub record IsRecordingText (text : List ℕ) (items : List PlacedItem) : Type 0 where
  pub are_bytes : IsTrue (list_all is_byte text)
  pub within : length text ≤ MAX_RECORDING_BYTES
  pub spells : SpellsRecording text items

-- why the text is refused as one
abbrev pub IsRecordingRefused : List ℕ → FileRefusal → Type 0
IsRecordingRefused text (TooLong limit) =
    (limit ≡ MAX_RECORDING_BYTES) × (MAX_RECORDING_BYTES < length text)
IsRecordingRefused text (Recording fault) =
    (length text ≤ MAX_RECORDING_BYTES) × IsRecordingFault text fault
IsRecordingRefused text refusal = ⊥

-- why the items are refused as a chain: the input, by the order of its items or the number of its
-- hops; or one of its items, which is no message, no script, or too long for one
abbrev pub IsChainRefused : List PlacedItem → Refusal → Type 0
IsChainRefused items (Of Input (Order offset)) = IsChainFault items (chain.Order offset)
IsChainRefused items (Of Input (TooManyHops limit)) =
    (limit ≡ MAX_HOPS) × IsChainFault items chain.TooManyHops
IsChainRefused items (Of (Item index) (Message fault)) =
    IsChainFault items (chain.Message index fault)
IsChainRefused items (Of (Item index) (Script fault)) =
    IsChainFault items (chain.Script index fault)
IsChainRefused items (Of (Item index) (TooLong limit)) =
    (limit ≡ MAX_SCRIPT_BYTES) × IsChainFault items (chain.ScriptTooLong index)
IsChainRefused items refusal = ⊥

-- the text of the report, as done only where no line of it counts against the chain
abbrev pub audit_outcome : List AuditLine → Outcome
audit_outcome lines =
    if finds_fault lines then NotOk (report_text lines) else Done (report_text lines)

-- the report on the chain that the items are, or why they are refused as one
abbrev pub ReportsChain : Configuration → List PlacedItem → Outcome → Type 0
ReportsChain conf items =
    ReadsThen (IsAudit conf items) (IsChainRefused items) (λ refusal. refusal)
    (λ lines outcome. outcome ≡ audit_outcome lines)

-- what comes of the items of the recording that the input is, or why it is refused as one
abbrev pub ReportsAudit : Configuration → List ℕ → Outcome → Type 0
ReportsAudit conf input =
    ReadsThen (IsRecordingText input) (IsRecordingRefused input) (λ refusal. Of Input refusal)
    (ReportsChain conf)
