-- What an audit answers: the first fault, or the report of items that have none.
use Rattle.std.proofs.Common.{◌≡◌, ◌≢◌, ◌+◌, ◌-◌, ℕ, List, length, Option, Some, Result, Ok, Err, refl, sym, ap, subst, ◌∙◌, inl, inr, arith}
use Rattle.std.specs.Prelude.{IfOk, unwrap_or}
use Rattle.byte_grammar.specs.Causes.{AnswersWhere}
use Rattle.component_values.specs.Context.{answers_head}
use Rattle.msg_body.specs.Messages.{Message}
use Rattle.msg_body.specs.declared.whole.Reading.{Reading}
use Rattle.recording.specs.Items.{PlacedItem}
use Rattle.rewrite_script.specs.declared.rewrite.Rewrite.{Rewrite}
use Rattle.settings.specs.ConfMeaning.{meaning}
use Rattle.settings.specs.Configuration.{Configuration}
use Rattle.hop_audit.specs.declared.chain_audit.ChainAudit.{ChainAudit}
use Rattle.hop_audit.specs.declared.fault.ChainFault.{ChainFault}
use Rattle.hop_audit.specs.declared.fault.ChainFault.TheVariants.{Memory, Order, TooManyHops, Message as NoMessage, Script as NoScript, ScriptTooLong}
use Rattle.hop_audit.specs.declared.line.AuditLine.{AuditLine}
use Rattle.recording.specs.declared.chain.RecordedChain.{RecordedChain as HeldChain}
use Rattle.recording.specs.declared.chain.RecordedHop.{RecordedHop as HeldHop}
use Rattle.hop_audit.specs.ChainFaults.{IsChainFault}
use Rattle.hop_audit.specs.Report.{IsAudit}
use Rattle.recording.specs.Chains.{Subject, requests, responses, related_items, role_of}
use Rattle.hop_audit.specs.ChainValues.{AnswersRequest, IsScriptItem, one_request, reading_of}
use Rattle.hop_audit.specs.tools.Judged.{AddsNext, SaysNext, SaysRelated, SaysReport, SaysStage}
use Rattle.hop_audit.specs.tools.Read.{SaysMessage}
use Rattle.hop_audit.specs.tools.Stages.{StageState}
use Rattle.hop_audit.specs.tools.Written.{AddsHopLines, AddsMessageLines}
use Rattle.recording.specs.RecordedChains.{IsHeldChain, chain_meant, subject_meant}
use Rattle.hop_audit.specs.tools.Recorded.{SaysOrder}
use Rattle.hop_audit.proofs.FirstFaults.{fault_of_number, fault_of_order, fault_of_related, no_fault_where_audited, one_fault}

-- ---- a hop's messages

-- a response is read as an answer to a HEAD request where the related request is one
pub same_head : (subject : Subject) (related : Option Message) → AnswersRequest subject related → (reading_of related (role_of subject)).to_head ≡ answers_head related
same_head requests related is = rw is refl
same_head (responses text) related is = refl

-- the lines of a hop and of the message after it are added
pub next_made : (audit : ChainAudit) (index : ℕ) (before : StageState) (hop : HeldHop) (was between now : List AuditLine) (script slice : List Rewrite) (moment own : ℕ) (made middle after : StageState)
    → IsScriptItem hop.script.now script → slice ≡ script → own ≡ before.moment → moment ≡ unwrap_or hop.moment own → SaysStage audit (hop.item + 1) moment hop.message.now (Ok made)
    → AddsHopLines before.context index slice made.context.message was between → middle ≡ made → AddsMessageLines middle.conf middle.context index middle.moment between now → after ≡ middle
    → SaysNext audit index before hop was now (Ok after)
next_made audit index before hop was between now script slice moment own made middle after is same own_is moment_is says hops middle_is adds after_is =
    let at : moment ≡ unwrap_or hop.moment before.moment = moment_is ∙ ap (λ (m : ℕ). unwrap_or hop.moment m) own_is in
    let of_made = subst (λ (s : StageState). AddsMessageLines s.conf s.context index s.moment between now) middle_is adds in
    let of_audit = subst (λ (conf : Configuration). AddsMessageLines conf made.context index made.moment between now) says.1.conf_is of_made in
    subst (λ (s : StageState). AddsNext audit index before hop was now s) (sym (after_is ∙ middle_is))
    (record {
      script = script;
      script_is = is;
      stage = subst (λ (m : ℕ). SaysStage audit (hop.item + 1) m hop.message.now (Ok made)) at says;
      between = between;
      hop_lines = subst (λ (steps : List Rewrite). AddsHopLines before.context index steps made.context.message was between) same hops;
      added = subst (λ (m : ℕ). AddsMessageLines (meaning audit.conf.now) made.context index m between now) (says.0 ∙ at) of_audit;
    })

-- ---- the related request

-- why its item is none
pub related_refused : (chain : HeldChain) (reading : Reading) (text : List ℕ) (fault : ChainFault) → subject_meant chain.subject ≡ responses (Some text) → reading ≡ one_request
    → SaysMessage (chain.item - 1) reading text (Err fault) → SaysRelated chain (Err fault)
related_refused chain reading text Memory is read says = tt
related_refused chain reading text (NoMessage index fault) is read says = λ items held.
    let first = held.first_is in
    let few : length (related_items (subject_meant chain.subject)) ≡ 1 = ap (λ (s : Subject). length (related_items s)) is in
    let at : index ≡ 1 = says.0 ∙ omega (arith, first, few) in
    subst (λ (i : ℕ). IsChainFault items (NoMessage i fault)) (sym at)
    (fault_of_related items (chain_meant chain) text fault held.is held.few is (rw read at says.1))
related_refused chain reading text (Order offset) is read says = absurd says
related_refused chain reading text TooManyHops is read says = absurd says
related_refused chain reading text (NoScript index fault) is read says = absurd says
related_refused chain reading text (ScriptTooLong index) is read says = absurd says

-- ---- answers

module _ (items : List PlacedItem) where
  exhausted : {T : Type 0} (fault : ChainFault) → fault ≢ Memory → AnswersWhere {T = T} Memory (Err Memory) fault (IsChainFault items fault)
  exhausted fault other = record { only = λ same. absurd (other (cc same)); there = λ _. inr refl }

  -- the first fault is answered
  first_answered : {T : Type 0} (own fault : ChainFault) → IsChainFault items own → AnswersWhere {T = T} Memory (Err own) fault (IsChainFault items fault)
  first_answered own fault is = record {
    only = λ same. subst (λ (f : ChainFault). IsChainFault items f) (cc same) is;
    there = λ holds. inl (ap Err (one_fault items own fault is holds));
  }

  pub order_answered : {T : Type 0} (own fault : ChainFault) → SaysOrder items (Err own) → fault ≢ Memory → AnswersWhere {T = T} Memory (Err own) fault (IsChainFault items fault)
  order_answered Memory fault says other = exhausted fault other
  order_answered (Order offset) fault says other = first_answered (Order offset) fault (fault_of_order items offset says)
  order_answered TooManyHops fault says other = first_answered TooManyHops fault (fault_of_number items says.0 says.1 says.2)
  order_answered (NoMessage index own) fault says other = absurd says
  order_answered (NoScript index own) fault says other = absurd says
  order_answered (ScriptTooLong index) fault says other = absurd says

  module _ (chain : HeldChain) (held : IsHeldChain items chain) where
    pub related_answered : {T : Type 0} (own fault : ChainFault) → SaysRelated chain (Err own) → fault ≢ Memory → AnswersWhere {T = T} Memory (Err own) fault (IsChainFault items fault)
    related_answered Memory fault says other = exhausted fault other
    related_answered (Order offset) fault says other = first_answered (Order offset) fault (says items held)
    related_answered TooManyHops fault says other = first_answered TooManyHops fault (says items held)
    related_answered (NoMessage index own) fault says other = first_answered (NoMessage index own) fault (says items held)
    related_answered (NoScript index own) fault says other = first_answered (NoScript index own) fault (says items held)
    related_answered (ScriptTooLong index) fault says other = first_answered (ScriptTooLong index) fault (says items held)

    -- the report is that of the items
    pub report_told : (audit : ChainAudit) (result : Result (List AuditLine) ChainFault) → SaysReport audit chain result → IfOk result (IsAudit (meaning audit.conf.now) items)
    report_told audit (Ok lines) says = says.0 items held
    report_told audit (Err fault) says = tt

    pub report_answered : (audit : ChainAudit) (result : Result (List AuditLine) ChainFault) → SaysReport audit chain result → (fault : ChainFault) → fault ≢ Memory
        → AnswersWhere Memory result fault (IsChainFault items fault)
    report_answered audit (Ok lines) says fault other = record {
      only = λ same. absurd (cc same);
      there = λ holds. absurd (no_fault_where_audited (meaning audit.conf.now) items lines fault (says.0 items held) holds);
    }
    report_answered audit (Err Memory) says fault other = exhausted fault other
    report_answered audit (Err (Order offset)) says fault other = first_answered (Order offset) fault (says items held)
    report_answered audit (Err TooManyHops) says fault other = first_answered TooManyHops fault (says items held)
    report_answered audit (Err (NoMessage index own)) says fault other = first_answered (NoMessage index own) fault (says items held)
    report_answered audit (Err (NoScript index own)) says fault other = first_answered (NoScript index own) fault (says items held)
    report_answered audit (Err (ScriptTooLong index)) says fault other = first_answered (ScriptTooLong index) fault (says items held)
