use Rattle.std.proofs.Common.{◌≡◌, ◌+◌, ℕ, refl}
use Rattle.conf.specs.ConfMeaning.{meaning}
use Rattle.std.proofs.lemmas.Result.{err_from_is_err_and}
use Rattle.program.proofs.AskedFiles.{conf_asked, conf_asks}
use Rattle.program.proofs.FaultCounts.{shelf_counts}
use Rattle.program.proofs.RestFiles.{unread}
use Rattle.program.proofs.TextInputs.{conf_read, conf_stopped, source_counts}
use Rattle.program.proofs.over_text.over_text.Goals as goal

pub returns-in_err-conf-clause-report : goal.returns-in_err-conf-clause-report
returns-in_err-conf-clause-report g c =
    let p = err_from_is_err_and c.from_residual.result c.from_residual.ensures.1 in
    let command = c.args.command.now in
    rw (p.1, p.2) (conf_stopped (g.C.OverText.reports command) (g.C.OverText.most command) (g.C.OverText.conf_name command) (g.F.Shelf.files c.args.shelf.now) (c.args.source.now ≡ c.args.source.now)
    (g.S.Source.left c.args.source.now) (g.S.Source.left c.args.source.now) c.in_err-conf.field-0.0 refl (rw (c.conf.ensures) c.in_err-conf.ensures.refused))

pub returns-in_err-conf-clause-uses : goal.returns-in_err-conf-clause-uses
returns-in_err-conf-clause-uses g c =
    let p = err_from_is_err_and c.from_residual.result c.from_residual.ensures.1 in
    rw (p.1, p.2) (record {
      cause = shelf_counts ℕ (c.args.source.now ≡ c.args.source.now) (g.F.Shelf.faults c.args.shelf.now) (g.F.Shelf.faults c.args.shelf.now) (g.F.Shelf.faults c.read_configuration.new.shelf) (g.S.Source.faults c.args.source.now)
          c.in_err-conf.field-0.0 refl c.in_err-conf.ensures.cause refl;
      later = c.in_err-conf.ensures.later;
      reads = unread g.S.Source.left g.S.Source.given g.S.Source.ended g.S.Source.idle g.S.Source.faults (g.C.OverText.most c.args.command.now + 1) c.args.source.now;
    })

pub returns-clause-report : goal.returns-clause-report
returns-clause-report g c =
    let command = c.args.command.now in
    conf_read (g.C.OverText.reports command) (g.C.OverText.most command) (g.C.OverText.conf_name command) (g.F.Shelf.files c.args.shelf.now) (c.over_source-answer.new.source ≡ c.args.source.now)
    (g.S.Source.left c.args.source.now) (g.S.Source.left c.over_source-answer.new.source) (meaning c.in_ok-conf.conf) c.over_source-answer.result (rw (c.conf.ensures) c.in_ok-conf.ensures.ok) c.over_source-answer.ensures.report

pub returns-clause-uses : goal.returns-clause-uses
returns-clause-uses g c =
    record {
      cause = source_counts (c.over_source-answer.new.source ≡ c.args.source.now) (g.F.Shelf.faults c.args.shelf.now) (g.F.Shelf.faults c.read_configuration.new.shelf) (g.S.Source.faults c.args.source.now)
          (g.S.Source.faults c.over_source-answer.new.source) c.over_source-answer.result c.in_ok-conf.ensures.cause c.over_source-answer.ensures.cause;
      later = c.in_ok-conf.ensures.later;
      reads = c.over_source-answer.ensures.reads;
    }

pub returns-in_err-conf-clause-asks : goal.returns-in_err-conf-clause-asks
returns-in_err-conf-clause-asks g c =
    rw c.conf.ensures (conf_asks g.F.Shelf.files g.F.Shelf.asked g.F.Shelf.reached (λ word. word.now) c.conf.result c.args.shelf.now c.read_configuration.new.shelf
    (record { keeps = c.read_configuration.ensures.files; asks = c.read_configuration.ensures.asked; reaches = c.read_configuration.ensures.reached; unasked = c.read_configuration.ensures.unasked }))

pub returns-in_err-conf-clause-asked : goal.returns-in_err-conf-clause-asked
returns-in_err-conf-clause-asked g c =
    rw c.conf.ensures (conf_asked g.F.Shelf.files g.F.Shelf.asked g.F.Shelf.reached (λ word. word.now) c.conf.result c.from_residual.result c.args.shelf.now c.read_configuration.new.shelf
    (record { keeps = c.read_configuration.ensures.files; asks = c.read_configuration.ensures.asked; reaches = c.read_configuration.ensures.reached; unasked = c.read_configuration.ensures.unasked }))

pub returns-clause-asks : goal.returns-clause-asks
returns-clause-asks g c =
    rw c.conf.ensures (conf_asks g.F.Shelf.files g.F.Shelf.asked g.F.Shelf.reached (λ word. word.now) c.conf.result c.args.shelf.now c.read_configuration.new.shelf
    (record { keeps = c.read_configuration.ensures.files; asks = c.read_configuration.ensures.asked; reaches = c.read_configuration.ensures.reached; unasked = c.read_configuration.ensures.unasked }))

pub returns-clause-asked : goal.returns-clause-asked
returns-clause-asked g c =
    rw c.conf.ensures (conf_asked g.F.Shelf.files g.F.Shelf.asked g.F.Shelf.reached (λ word. word.now) c.conf.result c.over_source-answer.result c.args.shelf.now c.read_configuration.new.shelf
    (record { keeps = c.read_configuration.ensures.files; asks = c.read_configuration.ensures.asked; reaches = c.read_configuration.ensures.reached; unasked = c.read_configuration.ensures.unasked }))
