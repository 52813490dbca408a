-- What the parts of the audit answer. No public clause cites this module.
use Rattle.std.specs.Prelude.{◌≡◌, ◌<◌, ◌≤◌, ◌⊎◌, ⊤, ℕ, ◌+◌, ◌*◌, length, Option, Some, None, IfSome, IsTrue, option_map, unwrap_or, slice_get, List, Result, Ok, Err}
use Rattle.msg_body.specs.Messages.{Message}
use Rattle.msg_body.specs.Views.{MessageParts, message_of}
use Rattle.component_values.specs.Context.{MessageContext}
use Rattle.rewrite_script.specs.declared.rewrite.Rewrite.{Rewrite}
use Rattle.settings.specs.ConfMeaning.{meaning}
use Rattle.hop_audit.specs.declared.chain_audit.ChainAudit.{ChainAudit}
use Rattle.hop_audit.specs.declared.fault.ChainFault.{ChainFault}
use Rattle.hop_audit.specs.declared.fault.ChainFault.TheVariants.{Memory}
use Rattle.hop_audit.specs.declared.line.AuditLine.{AuditLine}
use Rattle.recording.specs.declared.chain.RecordedHop.{RecordedHop as HeldHop}
use Rattle.recording.specs.declared.chain.RecordedChain.{RecordedChain as HeldChain}
use Rattle.recording.specs.declared.limits.TheConstants.{MAX_HOPS}
use Rattle.hop_audit.specs.ChainFaults.{IsChainFault}
use Rattle.recording.specs.Chains.{Subject, requests, responses}
use Rattle.hop_audit.specs.ChainValues.{AnswersRequest, IsScriptItem}
use Rattle.recording.specs.Items.{PlacedItem}
use Rattle.msg_body.specs.declared.limits.TheConstants.{MAX_MESSAGE_BYTES}
use Rattle.nonces.specs.declared.limits.TheConstants.{MAX_MOMENT}
use Rattle.msg_body.specs.WholeTexts.{IsWhole}
use Rattle.verdicts.specs.Contexts.{context_for}
use Rattle.hop_audit.specs.Lines.{are_lines_in_range}
use Rattle.hop_audit.specs.Report.{IsAudit}
use Rattle.hop_audit.specs.tools.Read.{SaysMessage, SaysScript}
use Rattle.hop_audit.specs.tools.Stages.{StageState}
use Rattle.recording.specs.RecordedChains.{IsHeldChain, subject_meant}
use Rattle.hop_audit.specs.tools.Written.{AddsHopLines, AddsMessageLines}

-- the request that the messages of the audit answer
abbrev pub related_of : ChainAudit → Option Message
related_of audit = option_map (λ request. message_of request.now) audit.related

-- the context of a message in the audit
abbrev pub context_of_audit : ChainAudit → Message → MessageContext
context_of_audit audit message = context_for (meaning audit.conf.now) message (related_of audit)

-- the request that is answered has no more bytes than a message may have, where it is recorded
abbrev pub IsSizedSubject : Subject → Type 0
IsSizedSubject requests = ⊤
IsSizedSubject (responses None) = ⊤
IsSizedSubject (responses (Some text)) = length text ≤ MAX_MESSAGE_BYTES

-- The moment of the hop isn't greater than one may be, and its message has no more bytes than one
-- may have. The index of its script is one in a chain, in which a hop has at most three items.
pub record IsSizedHop (hop : HeldHop) : Type 0 where
  pub item : hop.item < 3 * MAX_HOPS + 3
  pub moment : IfSome hop.moment (λ seconds. seconds ≤ MAX_MOMENT)
  pub message : length hop.message.now ≤ MAX_MESSAGE_BYTES

-- the chain is that of some items, each as in a recording
pub record IsHeldFor (chain : HeldChain) : Type 0 where
  pub items : List PlacedItem
  pub held : IsHeldChain items chain
  pub now : chain.moment ≤ MAX_MOMENT
  pub related : IsSizedSubject (subject_meant chain.subject)
  pub first : length chain.first.now ≤ MAX_MESSAGE_BYTES
  pub hops : (index : ℕ) (hop : HeldHop) → slice_get chain.hops index ≡ Some hop
      → IsSizedHop hop

-- the request that the messages answer, or why its item is none
abbrev pub SaysRelated : HeldChain → Result (Option MessageParts) ChainFault → Type 0
SaysRelated chain (Ok related) =
    AnswersRequest (subject_meant chain.subject) (option_map message_of related)
SaysRelated chain (Err Memory) = ⊤
SaysRelated chain (Err fault) = (items : List PlacedItem) → IsHeldChain items chain
    → IsChainFault items fault

-- the stage is judged by the configuration of the audit, and its message answers the same request
pub record IsStageIn (audit : ChainAudit) (stage : StageState) : Type 0 where
  pub conf_is : stage.conf ≡ meaning audit.conf.now
  pub context_is : stage.context ≡ context_of_audit audit stage.context.message

-- the message of the item with this index, at this moment; or why it is none
abbrev pub SaysStage : ChainAudit → ℕ → ℕ → List ℕ → Result StageState ChainFault → Type 0
SaysStage audit item moment text (Ok stage) = (stage.moment ≡ moment) × IsStageIn audit stage
    × IsWhole audit.reading text stage.context.message
SaysStage audit item moment text (Err fault) = SaysMessage item audit.reading text (Err fault)

-- the lines of the first message are added, and this was read of it; or why its item is none
abbrev pub SaysFirst : ChainAudit → HeldChain → List AuditLine → List AuditLine
    → Result StageState ChainFault → Type 0
SaysFirst audit chain was now (Ok stage) =
    SaysStage audit chain.item chain.moment chain.first.now (Ok stage)
    × AddsMessageLines (meaning audit.conf.now) stage.context 0 chain.moment was now
SaysFirst audit chain was now (Err fault) =
    SaysMessage chain.item audit.reading chain.first.now (Err fault)

-- the lines of the hop and those of the message after it are added, and this was read of that
pub record AddsNext (audit : ChainAudit) (index : ℕ) (before : StageState) (hop : HeldHop)
    (was now : List AuditLine) (after : StageState) : Type 0 where
  pub script : List Rewrite
  pub script_is : IsScriptItem hop.script.now script
  pub stage : SaysStage audit (hop.item + 1) (unwrap_or hop.moment before.moment)
      hop.message.now (Ok after)
  pub between : List AuditLine
  pub hop_lines : AddsHopLines before.context index script after.context.message
      was between
  pub added : AddsMessageLines (meaning audit.conf.now) after.context index
      (unwrap_or hop.moment before.moment) between now

-- the same, or why its script or its message is none
abbrev pub SaysNext : ChainAudit → ℕ → StageState → HeldHop → List AuditLine → List AuditLine
    → Result StageState ChainFault → Type 0
SaysNext audit index before hop was now (Ok after) =
    AddsNext audit index before hop was now after
SaysNext audit index before hop was now (Err Memory) = ⊤
SaysNext audit index before hop was now (Err fault) =
    SaysScript hop.item hop.script.now (Err fault)
    ⊎ ((script : List Rewrite) × IsScriptItem hop.script.now script
    × SaysMessage (hop.item + 1) audit.reading hop.message.now (Err fault))

-- the report on the items of the chain, which can be written, or their fault, where the related
-- request was read
abbrev pub SaysReport : ChainAudit → HeldChain → Result (List AuditLine) ChainFault → Type 0
SaysReport audit chain (Ok lines) = ((items : List PlacedItem) → IsHeldChain items chain
    → IsAudit (meaning audit.conf.now) items lines) × IsTrue (are_lines_in_range lines)
SaysReport audit chain (Err Memory) = ⊤
SaysReport audit chain (Err fault) = (items : List PlacedItem) → IsHeldChain items chain
    → IsChainFault items fault
