-- How a run ends whose outcome is written.
use Rattle.std.proofs.Common.{◌≡◌, ◌⊎◌, ◌≤◌, ◌∙◌, inl, inr, arith, ℕ, List, Option, None, Err, refl, sym, subst}
use Rattle.std.specs.Io.KnownBytes.{Appends}
use Rattle.hms_io.specs.Files.{FileMap}
use Rattle.hms_io.specs.declared.status.Status.{Status}
use Rattle.hms_io.specs.declared.status.Status.TheVariants.{BadArguments, ReadFault, WriteFault, OutOfMemory}
use Rattle.refusals.specs.declared.refusal.Refusal.{Refusal}
use Rattle.refusals.specs.declared.refusal.Refusal.TheVariants.{Arguments}
use Rattle.commands.specs.Outcome.{status_of, output_of, refusal_of, IfOutcome}
use Rattle.commands.specs.declared.outcome.Outcome.{Outcome}
use Rattle.commands.specs.declared.outcome.Outcome.TheVariants.{Done, NotOk, Refused}
use Rattle.intake.specs.declared.stop.Stop.{Stop}
use Rattle.intake.specs.declared.stop.Stop.TheVariants.{Memory as NoMemory, ReadFault as ReadFailed, Refused as StopRefused}
use Rattle.program.specs.Ends.{HasReport, Ends, TellsWhy, WritesRefusal, CountsReads}
use Rattle.program.specs.tools.Parts.{CountsOne, IsWritten, IsWrittenStop}
use Rattle.program.proofs.Reports.{not_read_fault, written_outcome}

-- ---- what was written

pub ends_written : (arguments : List (List ℕ)) (shelf : Option FileMap) (Same : Type 0) (before left taken now : Option (List ℕ)) (outcome : Outcome) (status : Status) (refusal : Option Refusal)
    → HasReport arguments shelf Same before left outcome → IsWritten outcome taken now status refusal → Ends arguments shelf Same before left taken now status
ends_written arguments shelf Same before left taken now outcome status refusal has (inl (is, told, all, bytes)) =
    written_outcome arguments shelf Same before left taken now outcome status has is all bytes
ends_written arguments shelf Same before left taken now outcome status refusal has (inr (inl (is, none, prefix, bytes))) =
    subst (λ (s : Status). Ends arguments shelf Same before left taken now s) (sym is) (outcome, has, prefix, bytes)
ends_written arguments shelf Same before left taken now outcome status refusal has (inr (inr (is, none, keeps))) =
    subst (λ (s : Status). Ends arguments shelf Same before left taken now s) (sym is) keeps

-- ---- why it is refused

-- what is told at an equal status
pub told_at : (IsSo : Refusal → Type 0) (status other : Status) (refusal told : Option Refusal) → status ≡ other → refusal ≡ told → TellsWhy IsSo other told → TellsWhy IsSo status refusal
told_at IsSo status other refusal told is same why = subst (λ (s : Status). TellsWhy IsSo s refusal) (sym is) (subst (λ (r : Option Refusal). TellsWhy IsSo other r) (sym same) why)

module _ (Has : Outcome → Type 0) (taken now : Option (List ℕ)) where
  why_whole : (outcome : Outcome) → Has outcome → Appends taken now (output_of outcome) → TellsWhy (WritesRefusal Has taken now) (status_of outcome) (refusal_of outcome)
  why_whole (Done text) has all = λ own. own
  why_whole (NotOk text) has all = λ own. own
  why_whole (Refused refusal) has all = ((has, all), refl)

  pub why_written : (outcome : Outcome) (status : Status) (refusal : Option Refusal) → Has outcome → IsWritten outcome taken now status refusal → TellsWhy (WritesRefusal Has taken now) status refusal
  why_written outcome status refusal has (inl (is, told, all, bytes)) = told_at (WritesRefusal Has taken now) status (status_of outcome) refusal (refusal_of outcome) is told (why_whole outcome has all)
  why_written outcome status refusal has (inr (inl (is, none, prefix, bytes))) = told_at (WritesRefusal Has taken now) status WriteFault refusal None is none (λ own. own)
  why_written outcome status refusal has (inr (inr (is, none, keeps))) = told_at (WritesRefusal Has taken now) status OutOfMemory refusal None is none (λ own. own)

-- ---- the status

not_read : (outcome : Outcome) (taken now : Option (List ℕ)) (status : Status) (refusal : Option Refusal) → IsWritten outcome taken now status refusal → status ≡ ReadFault → ⊥
not_read outcome taken now status refusal (inl (is, told, all, bytes)) fault = not_read_fault outcome (sym is ∙ fault)
not_read outcome taken now status refusal (inr (inl (is, none, prefix, bytes))) fault = cc (sym is ∙ fault)
not_read outcome taken now status refusal (inr (inr (is, none, keeps))) fault = cc (sym is ∙ fault)

-- no read failed
pub reads_written : (Same : Type 0) (outcome : Outcome) (taken now : Option (List ℕ)) (status : Status) (refusal : Option Refusal) (shelf shelf_now source source_now : ℕ) → IsWritten outcome taken now status refusal
    → (shelf_now ≡ shelf) × (source_now ≡ source) → CountsReads Same status shelf shelf_now source source_now
reads_written Same outcome taken now status refusal shelf shelf_now source source_now written same = record {
  shelf_later = omega (arith, same.0);
  source_later = omega (arith, same.1);
  rose = λ fault. absurd (not_read outcome taken now status refusal written fault);
  kept = inr same;
}

-- ---- a run that is stopped

pub ends_stopped : (arguments : List (List ℕ)) (shelf : Option FileMap) (Same : Type 0) (before left taken now : Option (List ℕ)) (stop : Stop) (status : Status) (refusal : Option Refusal)
    → IfOutcome (Err stop) (HasReport arguments shelf Same before left) → IsWrittenStop stop taken now status refusal → Ends arguments shelf Same before left taken now status
ends_stopped arguments shelf Same before left taken now (StopRefused r) status refusal has written = ends_written arguments shelf Same before left taken now (Refused r) status refusal has written
ends_stopped arguments shelf Same before left taken now ReadFailed status refusal has (keeps, is, none) = subst (λ (s : Status). Ends arguments shelf Same before left taken now s) (sym is) keeps
ends_stopped arguments shelf Same before left taken now NoMemory status refusal has (keeps, is, none) = subst (λ (s : Status). Ends arguments shelf Same before left taken now s) (sym is) keeps

pub why_stopped : (Has : Outcome → Type 0) (taken now : Option (List ℕ)) (stop : Stop) (status : Status) (refusal : Option Refusal) → IfOutcome (Err stop) Has → IsWrittenStop stop taken now status refusal
    → TellsWhy (WritesRefusal Has taken now) status refusal
why_stopped Has taken now (StopRefused r) status refusal has written = why_written Has taken now (Refused r) status refusal has written
why_stopped Has taken now ReadFailed status refusal has (keeps, is, none) = told_at (WritesRefusal Has taken now) status ReadFault refusal None is none (λ own. own)
why_stopped Has taken now NoMemory status refusal has (keeps, is, none) = told_at (WritesRefusal Has taken now) status OutOfMemory refusal None is none (λ own. own)

pub reads_stopped : (Same : Type 0) (stop : Stop) (taken now : Option (List ℕ)) (status : Status) (refusal : Option Refusal) (shelf shelf_now source source_now : ℕ) → IsWrittenStop stop taken now status refusal
    → CountsOne Same shelf shelf_now source source_now (Err stop) → shelf ≤ shelf_now → source ≤ source_now → CountsReads Same status shelf shelf_now source source_now
reads_stopped Same (StopRefused r) taken now status refusal shelf shelf_now source source_now written counts later also = reads_written Same (Refused r) taken now status refusal shelf shelf_now source source_now written counts
reads_stopped Same ReadFailed taken now status refusal shelf shelf_now source source_now (keeps, is, none) counts later also =
    record { shelf_later = later; source_later = also; rose = λ fault. counts; kept = inl is }
reads_stopped Same NoMemory taken now status refusal shelf shelf_now source source_now (keeps, is, none) counts later also =
    record { shelf_later = later; source_later = also; rose = λ fault. absurd (cc (sym is ∙ fault)); kept = inr counts }

-- arguments that are no command are refused, unless that can't be written
abbrev IsNoCommandSo : Status → Type 0
IsNoCommandSo status = (status ≡ BadArguments) ⊎ ((status ≡ WriteFault) ⊎ (status ≡ OutOfMemory))

no_command_written : (taken now : Option (List ℕ)) (status : Status) (refusal : Option Refusal) → IsWritten (Refused Arguments) taken now status refusal → IsNoCommandSo status
no_command_written taken now status refusal (inl (is, told, all, bytes)) = inl is
no_command_written taken now status refusal (inr (inl (is, none, prefix, bytes))) = inr (inl is)
no_command_written taken now status refusal (inr (inr (is, none, keeps))) = inr (inr is)

pub no_command_stopped : (stop : Stop) (taken now : Option (List ℕ)) (status : Status) (refusal : Option Refusal) → stop ≡ StopRefused Arguments → IsWrittenStop stop taken now status refusal
    → (status ≡ BadArguments) ⊎ ((status ≡ WriteFault) ⊎ (status ≡ OutOfMemory))
no_command_stopped stop taken now status refusal same written = no_command_written taken now status refusal (subst (λ (s : Stop). IsWrittenStop s taken now status refusal) same written)
