use Rattle.std.specs.Prelude.{option_map}
use Rattle.std.proofs.lemmas.Result.{err_from_is_err_and}
use Rattle.conf.specs.ConfMeaning.{meaning}
use Rattle.std.proofs.Common.{ℕ}
use Rattle.refusals.specs.declared.refusal.Refusal.TheVariants.{Of}
use Rattle.refusals.specs.declared.role.Role.TheVariants.{Conf as OfConf}
use Rattle.intake.specs.Stops.{IsRefusalFor}
use Rattle.intake.specs.Tables.{IsTableMissing}
use Rattle.program.proofs.FaultCounts.{refused_counts}
use Rattle.program.proofs.Reports.{conf_lacking, needed_had, table_lacking}
use Rattle.program.proofs.over_message.read_needed.Goals as goal

pub returns-in_err-conf-clause-refused : goal.returns-in_err-conf-clause-refused
returns-in_err-conf-clause-refused g c =
    let p = err_from_is_err_and c.from_residual.result c.from_residual.ensures.1 in
    rw (p.1, p.2) (conf_lacking c.args.needs (g.F.Shelf.files c.args.shelf.now) (option_map (λ word. word.now) c.args.name) c.in_err-conf.field-0.0 c.in_err-conf.ensures.refused)

pub returns-in-Err-clause-refused : goal.returns-in-Err-clause-refused
returns-in-Err-clause-refused g c =
    table_lacking c.args.needs (g.F.Shelf.files c.args.shelf.now) (option_map (λ word. word.now) c.args.name) (meaning c.in_ok-conf.conf) c.in-Err.stop
    c.in_ok-conf.ensures.ok c.in-Err.ensures.refused

pub returns-in-Err-clause-cause : goal.returns-in-Err-clause-cause
returns-in-Err-clause-cause g c =
    refused_counts ℕ (IsRefusalFor (IsTableMissing c.args.needs (meaning c.in_ok-conf.conf)) (λ cause. Of OfConf cause)) c.in-Err.stop
    (g.F.Shelf.faults c.args.shelf.now) (g.F.Shelf.faults c.read_configuration.new.shelf) c.in-Err.ensures.refused c.in_ok-conf.ensures.cause

pub returns-in-Ok-clause-ok : goal.returns-in-Ok-clause-ok
returns-in-Ok-clause-ok g c =
    needed_had c.args.needs (g.F.Shelf.files c.args.shelf.now) (option_map (λ word. word.now) c.args.name) (meaning c.in_ok-conf.conf) c.in_ok-conf.ensures.ok c.in-Ok.ensures.ok

pub returns-in_err-conf-clause-asks : goal.returns-in_err-conf-clause-asks
returns-in_err-conf-clause-asks g c = record { keeps = c.in_err-conf.ensures.files; asks = c.in_err-conf.ensures.asked; reaches = c.in_err-conf.ensures.reached; unasked = c.in_err-conf.ensures.unasked }

pub returns-in-Err-clause-asks : goal.returns-in-Err-clause-asks
returns-in-Err-clause-asks g c = record { keeps = c.in_ok-conf.ensures.files; asks = c.in_ok-conf.ensures.asked; reaches = c.in_ok-conf.ensures.reached; unasked = c.in_ok-conf.ensures.unasked }

pub returns-in-Ok-clause-asks : goal.returns-in-Ok-clause-asks
returns-in-Ok-clause-asks g c = record { keeps = c.in_ok-conf.ensures.files; asks = c.in_ok-conf.ensures.asked; reaches = c.in_ok-conf.ensures.reached; unasked = c.in_ok-conf.ensures.unasked }
