-- What `audit` writes is a sound report.
use Rattle.std.proofs.Common.{◌≡◌, inl, inr, ℕ, List, Some, subst}
use Rattle.hms_io.specs.declared.status.Status.{Status}
use Rattle.command_line.specs.Command.{CommandLine, Audit, AuditWords}
use Rattle.command_line.proofs.CommandLaws.{one_command}
use Rattle.conf.specs.Configuration.{Configuration}
use Rattle.commands.specs.Audit.{ReportsAudit}
use Rattle.intake.specs.Configured.{IsConfigured}
use Rattle.intake.specs.Files.{Found, Conf as ConfFile}
use Rattle.commands.specs.declared.outcome.Outcome.{Outcome}
use Rattle.commands.specs.declared.outcome.Outcome.TheVariants.{Refused}
use Rattle.refusals.specs.Laws.{IsOfRefusal}
use Rattle.refusals.specs.declared.refusal.Refusal.{Refusal}
use Rattle.refusals.proofs.Statuses.{status_of_refusal}
use Rattle.program.specs.Laws.{IsAnswered, IsKeptWherePermitted, IsSoundAudit}
use Rattle.program.specs.Report.{ReportsCommand}
use Rattle.program.proofs.CommandLaws.{keeps_what_is_permitted}

-- what is refused isn't answered
not_answered : (refusal : Refusal) → IsAnswered (Refused refusal) → ⊥
not_answered refusal (inl done) = subst (λ (s : Status). IsOfRefusal s) done (status_of_refusal refusal)
not_answered refusal (inr failed) = subst (λ (s : Status). IsOfRefusal s) failed (status_of_refusal refusal)

refused_not : (refusal : Refusal) (outcome : Outcome) → outcome ≡ Refused refusal → IsAnswered outcome → ⊥
refused_not refusal outcome same answered = not_answered refusal (subst (λ (o : Outcome). IsAnswered o) same answered)

sound_audit : (conf : Configuration) (input : List ℕ) (outcome : Outcome) → ReportsAudit conf input outcome → IsAnswered outcome → IsSoundAudit conf input outcome
sound_audit conf input outcome (inr cause) answered = absurd (refused_not _ outcome cause.2 answered)
sound_audit conf input outcome (inl (items, is, inr cause)) answered = absurd (refused_not _ outcome cause.2 answered)
sound_audit conf input outcome (inl (items, is, inl (lines, audit, same))) answered = record {
  items = items;
  recorded = is;
  chain = audit.0;
  are = audit.1;
  lines = lines;
  report = audit.2;
  outcome_is = same;
  sound = keeps_what_is_permitted conf items audit.0 lines audit.1 audit.2;
}

sound_command : (words : AuditWords) (found : Found) (input : List ℕ) (outcome : Outcome) → ReportsCommand (Audit words) found input outcome → IsAnswered outcome
    → (conf : Configuration) × IsConfigured (Some words.conf) (found ConfFile) conf × IsSoundAudit conf input outcome
sound_command words found input outcome (inr cause) answered = absurd (refused_not _ outcome cause.2 answered)
sound_command words found input outcome (inl (conf, configured, reports)) answered = (conf, configured, sound_audit conf input outcome reports answered)

pub kept_where_permitted : IsKeptWherePermitted
kept_where_permitted arguments words found input outcome spells (inr cause) answered = absurd (refused_not _ outcome cause.2 answered)
kept_where_permitted arguments words found input outcome spells (inl (command, also, reports)) answered =
    sound_command words found input outcome (subst (λ (c : CommandLine). ReportsCommand c found input outcome) (one_command arguments command (Audit words) also spells) reports) answered
