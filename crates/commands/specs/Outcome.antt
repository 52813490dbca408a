-- What a run comes to: its status and its whole output.
use Rattle.std.specs.Prelude.{ℕ, List, Option, Some, None, Result, Ok, Err}
use Rattle.hms_io.specs.declared.status.Status.{Status}
use Rattle.hms_io.specs.declared.status.Status.TheVariants.{Done as Success, NotOk as Failure}
use Rattle.refusals.specs.Refusal.{refusal_line, refusal_status}
use Rattle.refusals.specs.declared.refusal.Refusal.{Refusal}
use Rattle.intake.specs.declared.stop.Stop.{Stop}
use Rattle.intake.specs.declared.stop.Stop.TheVariants.{Memory, ReadFault, Refused as IsStopped}
use Rattle.commands.specs.declared.outcome.Outcome.{Outcome}
use Rattle.commands.specs.declared.outcome.Outcome.TheVariants.{Done, NotOk, Refused}

-- the status that an outcome gives: done, not ok, or that of a refusal
abbrev pub status_of : Outcome → Status
status_of (Done text) = Success
status_of (NotOk text) = Failure
status_of (Refused refusal) = refusal_status refusal

-- all that an outcome writes: its text, or the line of a refusal
abbrev pub output_of : Outcome → List ℕ
output_of (Done text) = text
output_of (NotOk text) = text
output_of (Refused refusal) = refusal_line refusal

-- the refusal that an outcome is, if it is one
abbrev pub refusal_of : Outcome → Option Refusal
refusal_of (Refused refusal) = Some refusal
refusal_of outcome = None

-- where a run comes to an outcome, this holds of it
abbrev pub IfOutcome : Result Outcome Stop → (Outcome → Type 0) → Type 0
IfOutcome (Ok outcome) P = P outcome
IfOutcome (Err Memory) P = Unit {0}
IfOutcome (Err ReadFault) P = Unit {0}
IfOutcome (Err (IsStopped refusal)) P = P (Refused refusal)

-- nothing was read
abbrev pub ReadsNothing : Result Outcome Stop → Type 0
ReadsNothing (Ok outcome) = Unit {0}
ReadsNothing (Err Memory) = Unit {0}
ReadsNothing (Err ReadFault) = ⊥
ReadsNothing (Err (IsStopped refusal)) = Unit {0}
