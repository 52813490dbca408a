-- Recordings as inputs of `audit`.
use Rattle.std.proofs.Common.{◌≡◌, ◌≤◌, ℕ, inl, inr, List, length, Err, refl, sym, ap, ◌∙◌, arith}
use Rattle.std.proofs.lemmas.Bool.{cases_lt}
use Rattle.byte_grammar.specs.Causes.{AnswersWhere}
use Rattle.conf.specs.Configuration.{Configuration}
use Rattle.recording.specs.Items.{PlacedItem}
use Rattle.recording.specs.declared.fault.RecordingFault.{RecordingFault}
use Rattle.recording.specs.declared.fault.RecordingFault.TheVariants as fault
use Rattle.recording.specs.Causes.{IsRecordingFault}
use Rattle.commands.specs.Audit.{IsRecordingText, IsRecordingRefused, ReportsAudit}
use Rattle.commands.specs.Laws.{IsRecordingDecided, HasRecording}
use Rattle.intake.specs.Stops.{stop_of_recording}
use Rattle.commands.specs.Outcome.{IfOutcome}
use Rattle.refusals.specs.declared.file.FileRefusal.{FileRefusal}
use Rattle.refusals.specs.declared.file.FileRefusal.TheVariants.{Missing, TooLong, Message, Conf, Script, Recording, Order, TooManyHops, OutOfPlace, TooManyItems, Fields}
use Rattle.refusals.specs.declared.refusal.TheConstants.{MAX_RECORDING_BYTES}
use Rattle.commands.proofs.LowerAudit.{recording_or_fault, one_recording, one_recording_fault, no_fault_of_recording}

-- ---- it is one recording, or has one cause to be refused

recording_cause : (input : List ℕ) (c d : FileRefusal) → IsRecordingRefused input c → IsRecordingRefused input d → c ≡ d
recording_cause input Missing d a b = absurd a
recording_cause input (Message f) d a b = absurd a
recording_cause input (Conf f) d a b = absurd a
recording_cause input (Script f) d a b = absurd a
recording_cause input (Order i) d a b = absurd a
recording_cause input (TooManyHops i) d a b = absurd a
recording_cause input (OutOfPlace i) d a b = absurd a
recording_cause input (TooManyItems i) d a b = absurd a
recording_cause input (Fields f) d a b = absurd a
recording_cause input (TooLong n) Missing a b = absurd b
recording_cause input (TooLong n) (Message g) a b = absurd b
recording_cause input (TooLong n) (Conf g) a b = absurd b
recording_cause input (TooLong n) (Script g) a b = absurd b
recording_cause input (TooLong n) (Order j) a b = absurd b
recording_cause input (TooLong n) (TooManyHops j) a b = absurd b
recording_cause input (TooLong n) (OutOfPlace j) a b = absurd b
recording_cause input (TooLong n) (TooManyItems j) a b = absurd b
recording_cause input (TooLong n) (Fields g) a b = absurd b
recording_cause input (TooLong n) (TooLong m) a b = ap (λ (limit : ℕ). TooLong limit) (a.0 ∙ sym b.0)
recording_cause input (TooLong n) (Recording g) a b = absurd (omega (arith, a.1, b.0))
recording_cause input (Recording f) Missing a b = absurd b
recording_cause input (Recording f) (Message g) a b = absurd b
recording_cause input (Recording f) (Conf g) a b = absurd b
recording_cause input (Recording f) (Script g) a b = absurd b
recording_cause input (Recording f) (Order j) a b = absurd b
recording_cause input (Recording f) (TooManyHops j) a b = absurd b
recording_cause input (Recording f) (OutOfPlace j) a b = absurd b
recording_cause input (Recording f) (TooManyItems j) a b = absurd b
recording_cause input (Recording f) (Fields g) a b = absurd b
recording_cause input (Recording f) (TooLong m) a b = absurd (omega (arith, a.0, b.1))
recording_cause input (Recording f) (Recording g) a b = ap (λ (h : RecordingFault). Recording h) (one_recording_fault input f g a.1 b.1)

recording_either : (input : List ℕ) (items : List PlacedItem) (c : FileRefusal) → IsRecordingText input items → IsRecordingRefused input c → ⊥
recording_either input items Missing is c = c
recording_either input items (Message f) is c = c
recording_either input items (Conf f) is c = c
recording_either input items (Script f) is c = c
recording_either input items (Order i) is c = c
recording_either input items (TooManyHops i) is c = c
recording_either input items (OutOfPlace i) is c = c
recording_either input items (TooManyItems i) is c = c
recording_either input items (Fields f) is c = c
recording_either input items (TooLong n) is c = let within = is.within in omega (arith, within, c.1)
recording_either input items (Recording f) is c = no_fault_of_recording input items f is.spells c.1

pub recording_decided : IsRecordingDecided
recording_decided input = record {
  value = λ a b is also. one_recording input a b is.spells also.spells;
  cause = recording_cause input;
  either = recording_either input;
}

pub has_recording : HasRecording
has_recording input bytes = elim (cases_lt MAX_RECORDING_BYTES (length input)) [
  | inl long ↦ inr (TooLong MAX_RECORDING_BYTES, (refl, long))
  | inr short ↦ elim (recording_or_fault input) [
    | inl found ↦ inl (found.0, record { are_bytes = bytes; within = short; spells = found.1 })
    | inr f ↦ inr (Recording f.0, (short, f.1))
  ]
]

-- ---- why it isn't read

pub recording_stop : {T : Type 0} (conf : Configuration) (input : List ℕ) (f : RecordingFault) → length input ≤ MAX_RECORDING_BYTES
    → ((e : RecordingFault) → ¬ (e ≡ fault.Memory) → AnswersWhere {T = T} fault.Memory (Err f) e (IsRecordingFault input e))
    → IfOutcome (Err (stop_of_recording f)) (ReportsAudit conf input)
recording_stop conf input fault.Memory short faults = tt
recording_stop conf input (fault.Syntax n) short faults = inr (Recording (fault.Syntax n), (short, (faults (fault.Syntax n) (λ e. absurd (cc e))).only refl), refl)
recording_stop conf input (fault.ItemTooLong n) short faults = inr (Recording (fault.ItemTooLong n), (short, (faults (fault.ItemTooLong n) (λ e. absurd (cc e))).only refl), refl)
recording_stop conf input (fault.MomentFalls n) short faults = inr (Recording (fault.MomentFalls n), (short, (faults (fault.MomentFalls n) (λ e. absurd (cc e))).only refl), refl)
