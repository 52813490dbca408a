-- What `audit` comes to once a recording was read, which isn't refused for its length.
use Rattle.std.proofs.Common.{◌≡◌, ◌<◌, ◌≤◌, inl, inr, ℕ, Bool, true, false, List, length, refl, sym, subst, arith}
use Rattle.conf.specs.Configuration.{Configuration}
use Rattle.recording.specs.Items.{PlacedItem}
use Rattle.hop_audit.specs.Lines.{finds_fault}
use Rattle.hop_audit.specs.declared.line.AuditLine.{AuditLine}
use Rattle.commands.specs.Audit.{IsRecordingRefused, IsChainRefused, ReportsAudit, audit_outcome}
use Rattle.commands.specs.declared.outcome.Outcome.{Outcome}
use Rattle.commands.specs.declared.outcome.Outcome.TheVariants.{Refused}
use Rattle.refusals.specs.declared.file.FileRefusal.{FileRefusal}
use Rattle.refusals.specs.declared.file.FileRefusal.TheVariants.{Missing, TooLong, Message, Conf as NoConf, Script as NoScript, Recording, Order, TooManyHops, OutOfPlace, TooManyItems, Fields}
use Rattle.refusals.specs.declared.refusal.Refusal.{Refusal}
use Rattle.refusals.specs.declared.refusal.Refusal.TheVariants.{Arguments, Of, Command}
use Rattle.refusals.specs.declared.refusal.TheConstants.{MAX_RECORDING_BYTES}
use Rattle.refusals.specs.declared.role.Role.TheVariants.{Conf, Request, Wanted, Script, Other, Input, Item}
use Rattle.program.specs.tools.Parts.{IsAfterText, too_long}

pub recording_longer : (conf : Configuration) (text : List ℕ) → MAX_RECORDING_BYTES < length text → ReportsAudit conf text (too_long MAX_RECORDING_BYTES)
recording_longer conf text long = inr (TooLong MAX_RECORDING_BYTES, (refl, long), refl)

refused_after : (input : List ℕ) (cause : FileRefusal) → length input ≤ MAX_RECORDING_BYTES → IsRecordingRefused input cause → IsAfterText (Refused (Of Input cause))
refused_after input Missing short is = tt
refused_after input (Message f) short is = tt
refused_after input (NoConf f) short is = tt
refused_after input (NoScript f) short is = tt
refused_after input (Recording f) short is = tt
refused_after input (Order n) short is = tt
refused_after input (TooManyHops n) short is = tt
refused_after input (OutOfPlace n) short is = tt
refused_after input (TooManyItems n) short is = tt
refused_after input (Fields f) short is = tt
refused_after input (TooLong n) short is = absurd (omega (arith, short, is.1))

chain_after : (items : List PlacedItem) (refusal : Refusal) → IsChainRefused items refusal → IsAfterText (Refused refusal)
chain_after items Arguments is = absurd is
chain_after items (Command r) is = absurd is
chain_after items (Of Conf r) is = absurd is
chain_after items (Of Request r) is = absurd is
chain_after items (Of Wanted r) is = absurd is
chain_after items (Of Script r) is = absurd is
chain_after items (Of Other r) is = absurd is
chain_after items (Of (Item i) r) is = tt
chain_after items (Of Input Missing) is = tt
chain_after items (Of Input (Message f)) is = tt
chain_after items (Of Input (NoConf f)) is = tt
chain_after items (Of Input (NoScript f)) is = tt
chain_after items (Of Input (Recording f)) is = tt
chain_after items (Of Input (Order n)) is = tt
chain_after items (Of Input (TooManyHops n)) is = tt
chain_after items (Of Input (OutOfPlace n)) is = tt
chain_after items (Of Input (TooManyItems n)) is = tt
chain_after items (Of Input (Fields f)) is = tt
chain_after items (Of Input (TooLong n)) is = absurd is

lines_after : (lines : List AuditLine) (found : Bool) → finds_fault lines ≡ found → IsAfterText (audit_outcome lines)
lines_after lines true is = rw is tt
lines_after lines false is = rw is tt

pub audit_after : (conf : Configuration) (input : List ℕ) (outcome : Outcome) → length input ≤ MAX_RECORDING_BYTES → ReportsAudit conf input outcome → IsAfterText outcome
audit_after conf input outcome short (inr cause) = subst (λ (o : Outcome). IsAfterText o) (sym cause.2) (refused_after input cause.0 short cause.1)
audit_after conf input outcome short (inl (items, is, inr cause)) = subst (λ (o : Outcome). IsAfterText o) (sym cause.2) (chain_after items cause.0 cause.1)
audit_after conf input outcome short (inl (items, is, inl (lines, audit, same))) =
    subst (λ (o : Outcome). IsAfterText o) (sym same) (lines_after lines (finds_fault lines) refl)
