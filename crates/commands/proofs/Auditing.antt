-- What `audit` comes to is one outcome, and some.
use Rattle.std.proofs.Common.{◌≡◌, ℕ, inl, inr, List, Err, refl, sym, ap, subst, ◌∙◌}
use Rattle.byte_grammar.specs.Causes.{AnswersWhere}
use Rattle.conf.specs.Configuration.{Configuration}
use Rattle.rewrite_script.specs.declared.limits.TheConstants.{MAX_SCRIPT_BYTES}
use Rattle.recording.specs.Items.{PlacedItem}
use Rattle.hop_audit.specs.ChainFaults.{IsChainFault}
use Rattle.hop_audit.specs.Report.{IsAudit}
use Rattle.hop_audit.specs.declared.fault.ChainFault.{ChainFault}
use Rattle.hop_audit.specs.declared.fault.ChainFault.TheVariants as chain
use Rattle.recording.specs.declared.limits.TheConstants.{MAX_HOPS}
use Rattle.hop_audit.specs.declared.line.AuditLine.{AuditLine}
use Rattle.commands.specs.Audit.{IsRecordingText, IsChainRefused, ReportsChain, ReportsAudit, audit_outcome}
use Rattle.commands.specs.Laws.{HasOneAuditing, HasSomeAuditing, IsChainDecided, HasAudit}
use Rattle.intake.specs.Stops.{stop_of_chain}
use Rattle.commands.specs.Outcome.{IfOutcome}
use Rattle.commands.specs.declared.outcome.Outcome.{Outcome}
use Rattle.commands.specs.declared.outcome.Outcome.TheVariants.{Refused}
use Rattle.refusals.specs.declared.file.FileRefusal.{FileRefusal}
use Rattle.refusals.specs.declared.file.FileRefusal.TheVariants.{Missing, TooLong, Message, Conf as NoConf, Script, Recording, Order, TooManyHops, OutOfPlace, TooManyItems, Fields}
use Rattle.refusals.specs.declared.refusal.Refusal.{Refusal}
use Rattle.refusals.specs.declared.refusal.Refusal.TheVariants.{Arguments, Of, Command}
use Rattle.refusals.specs.declared.role.Role.TheVariants.{Conf, Request, Wanted, Script as OfScript, Other, Input, Item}
use Rattle.commands.proofs.LowerAudit.{one_audit, one_chain_fault, no_fault_where_audited, audit_or_fault}
use Rattle.commands.proofs.RecordedTexts.{recording_decided, has_recording}

-- ---- the chain is audited, or refused for one fault

-- the refusal of a fault
refusal_for : ChainFault → Refusal
refusal_for chain.Memory = Arguments
refusal_for (chain.Order offset) = Of Input (Order offset)
refusal_for chain.TooManyHops = Of Input (TooManyHops MAX_HOPS)
refusal_for (chain.Message index f) = Of (Item index) (Message f)
refusal_for (chain.Script index f) = Of (Item index) (Script f)
refusal_for (chain.ScriptTooLong index) = Of (Item index) (TooLong MAX_SCRIPT_BYTES)

-- a refusal is that of a fault
abbrev HasFaultOf : List PlacedItem → Refusal → Type 0
HasFaultOf items refusal = (f : ChainFault) × IsChainFault items f × (refusal ≡ refusal_for f)

fault_of : (items : List PlacedItem) (refusal : Refusal) → IsChainRefused items refusal → HasFaultOf items refusal
unfolding refusal_for
fault_of items Arguments is = absurd is
fault_of items (Command r) is = absurd is
fault_of items (Of Conf r) is = absurd is
fault_of items (Of Request r) is = absurd is
fault_of items (Of Wanted r) is = absurd is
fault_of items (Of OfScript r) is = absurd is
fault_of items (Of Other r) is = absurd is
fault_of items (Of Input Missing) is = absurd is
fault_of items (Of Input (TooLong n)) is = absurd is
fault_of items (Of Input (Message f)) is = absurd is
fault_of items (Of Input (NoConf f)) is = absurd is
fault_of items (Of Input (Script f)) is = absurd is
fault_of items (Of Input (Recording f)) is = absurd is
fault_of items (Of Input (Order n)) is = (chain.Order n, is, refl)
fault_of items (Of Input (TooManyHops n)) is = (chain.TooManyHops, is.1, ap (λ (limit : ℕ). Of Input (TooManyHops limit)) is.0)
fault_of items (Of Input (OutOfPlace n)) is = absurd is
fault_of items (Of Input (TooManyItems n)) is = absurd is
fault_of items (Of Input (Fields f)) is = absurd is
fault_of items (Of (Item i) Missing) is = absurd is
fault_of items (Of (Item i) (TooLong n)) is = (chain.ScriptTooLong i, is.1, ap (λ (limit : ℕ). Of (Item i) (TooLong limit)) is.0)
fault_of items (Of (Item i) (Message f)) is = (chain.Message i f, is, refl)
fault_of items (Of (Item i) (NoConf f)) is = absurd is
fault_of items (Of (Item i) (Script f)) is = (chain.Script i f, is, refl)
fault_of items (Of (Item i) (Recording f)) is = absurd is
fault_of items (Of (Item i) (Order n)) is = absurd is
fault_of items (Of (Item i) (TooManyHops n)) is = absurd is
fault_of items (Of (Item i) (OutOfPlace n)) is = absurd is
fault_of items (Of (Item i) (TooManyItems n)) is = absurd is
fault_of items (Of (Item i) (Fields f)) is = absurd is

-- a fault has its refusal
refused_for : (items : List PlacedItem) (f : ChainFault) → IsChainFault items f → IsChainRefused items (refusal_for f)
unfolding refusal_for
refused_for items chain.Memory is = absurd is.holds
refused_for items (chain.Order offset) is = is
refused_for items chain.TooManyHops is = (refl, is)
refused_for items (chain.Message index f) is = is
refused_for items (chain.Script index f) is = is
refused_for items (chain.ScriptTooLong index) is = (refl, is)

one_refusal : (items : List PlacedItem) (c d : Refusal) → HasFaultOf items c → HasFaultOf items d → c ≡ d
one_refusal items c d a b = a.2 ∙ (ap refusal_for (one_chain_fault items a.0 b.0 a.1 b.1) ∙ sym b.2)

chain_either : (conf : Configuration) (items : List PlacedItem) (lines : List AuditLine) (c : Refusal) → IsAudit conf items lines → IsChainRefused items c → ⊥
chain_either conf items lines c audit is = let f = fault_of items c is in no_fault_where_audited conf items lines f.0 audit f.1

pub chain_decided : IsChainDecided
chain_decided conf items = record {
  value = one_audit conf items;
  cause = λ c d a b. one_refusal items c d (fault_of items c a) (fault_of items d b);
  either = chain_either conf items;
}

pub has_audit : HasAudit
has_audit conf input items is = elim (audit_or_fault conf items is.spells.form.are.begin is.spells.allowed.short) [
  | inl lines ↦ inl lines
  | inr f ↦ inr (refusal_for f.0, refused_for items f.0 f.1)
]

one_of_chain : (conf : Configuration) (items : List PlacedItem) (one other : Outcome) → ReportsChain conf items one → ReportsChain conf items other → one ≡ other
one_of_chain conf items one other (inl a) (inl b) = a.2 ∙ (ap audit_outcome ((chain_decided conf items).value a.0 b.0 a.1 b.1) ∙ sym b.2)
one_of_chain conf items one other (inl a) (inr b) = absurd ((chain_decided conf items).either a.0 b.0 a.1 b.1)
one_of_chain conf items one other (inr a) (inl b) = absurd ((chain_decided conf items).either b.0 a.0 b.1 a.1)
one_of_chain conf items one other (inr a) (inr b) = a.2 ∙ (ap (λ (r : Refusal). Refused r) ((chain_decided conf items).cause a.0 b.0 a.1 b.1) ∙ sym b.2)

some_of_chain : (conf : Configuration) (input : List ℕ) (items : List PlacedItem) → IsRecordingText input items → (outcome : Outcome) × ReportsChain conf items outcome
some_of_chain conf input items is = elim (has_audit conf input items is) [
  | inl lines ↦ (audit_outcome lines.0, inl (lines.0, lines.1, refl))
  | inr cause ↦ (Refused cause.0, inr (cause.0, cause.1, refl))
]

-- ---- and so the input

pub one_auditing : HasOneAuditing
one_auditing conf input one other (inl a) (inl b) =
    one_of_chain conf b.0 one other (subst (λ (items : List PlacedItem). ReportsChain conf items one) ((recording_decided input).value a.0 b.0 a.1 b.1) a.2) b.2
one_auditing conf input one other (inl a) (inr b) = absurd ((recording_decided input).either a.0 b.0 a.1 b.1)
one_auditing conf input one other (inr a) (inl b) = absurd ((recording_decided input).either b.0 a.0 b.1 a.1)
one_auditing conf input one other (inr a) (inr b) =
    a.2 ∙ (ap (λ (cause : FileRefusal). Refused (Of Input cause)) ((recording_decided input).cause a.0 b.0 a.1 b.1) ∙ sym b.2)

pub some_auditing : HasSomeAuditing
some_auditing conf input bytes = elim (has_recording input bytes) [
  | inl items ↦ let next = some_of_chain conf input items.0 items.1 in (next.0, inl (items.0, items.1, next.1))
  | inr cause ↦ (Refused (Of Input cause.0), inr (cause.0, cause.1, refl))
]

-- ---- what the command comes to

pub chain_stop : {T : Type 0} (conf : Configuration) (input : List ℕ) (items : List PlacedItem) (f : ChainFault) → IsRecordingText input items
    → ((e : ChainFault) → ¬ (e ≡ chain.Memory) → AnswersWhere {T = T} chain.Memory (Err f) e (IsChainFault items e))
    → IfOutcome (Err (stop_of_chain f)) (ReportsAudit conf input)
chain_stop conf input items chain.Memory is faults = tt
chain_stop conf input items (chain.Order n) is faults = inl (items, is, inr (Of Input (Order n), (faults (chain.Order n) (λ e. absurd (cc e))).only refl, refl))
chain_stop conf input items chain.TooManyHops is faults =
    inl (items, is, inr (Of Input (TooManyHops MAX_HOPS), (refl, (faults chain.TooManyHops (λ e. absurd (cc e))).only refl), refl))
chain_stop conf input items (chain.Message i f) is faults =
    inl (items, is, inr (Of (Item i) (Message f), (faults (chain.Message i f) (λ e. absurd (cc e))).only refl, refl))
chain_stop conf input items (chain.Script i f) is faults =
    inl (items, is, inr (Of (Item i) (Script f), (faults (chain.Script i f) (λ e. absurd (cc e))).only refl, refl))
chain_stop conf input items (chain.ScriptTooLong i) is faults =
    inl (items, is, inr (Of (Item i) (TooLong MAX_SCRIPT_BYTES), (refl, (faults (chain.ScriptTooLong i) (λ e. absurd (cc e))).only refl), refl))
