use Rattle.std.proofs.Common.{arith, ◌≡◌, ◌+◌, [], ◌∷◌, Err, refl, ℕ}
use Rattle.std.proofs.lemmas.Result.{err_from_is_err_and}
use Rattle.intake.specs.Files.{Conf, Other, Request, Script, Wanted}
use Rattle.refusals.specs.declared.refusal.TheConstants.{MAX_INPUT_BYTES}
use Rattle.refusals.specs.declared.role.Role.TheVariants.{Conf as OfConf}
use Rattle.program.specs.Intake.{IsConfLacking, names_of}
use Rattle.program.proofs.AskedFiles.{asked_until, until_conf}
use Rattle.program.proofs.FaultCounts.{after_shelf, shelf_counts}
use Rattle.program.proofs.Reports.{conf_stopped}
use Rattle.program.proofs.RestFiles.{all_asked, ends_asked, then_asked, unread, until_asked}
use Rattle.program.proofs.over_message.over_message.Goals as goal

-- ---- the configuration isn't read

pub returns-in_err-conf-clause-report : goal.returns-in_err-conf-clause-report
returns-in_err-conf-clause-report g c =
    let p = err_from_is_err_and c.from_residual.result c.from_residual.ensures.1 in
    let stop = c.in_err-conf.field-0.0 in
    let words = c.files-names.result in
    rw (p.1, p.2, c.files-names.ensures) (conf_stopped (g.C.OverMessage.tables c.args.command.now) (g.C.OverMessage.reports c.args.command.now) words (g.F.Shelf.files c.args.shelf.now) (c.args.source.now ≡ c.args.source.now) (g.S.Source.left c.args.source.now) (g.S.Source.left c.args.source.now) stop refl (rw c.needs.ensures at c.in_err-conf.ensures.refused))

pub returns-in_err-conf-clause-uses : goal.returns-in_err-conf-clause-uses
returns-in_err-conf-clause-uses g c =
    let p = err_from_is_err_and c.from_residual.result c.from_residual.ensures.1 in
    rw (p.1, p.2) (record {
      cause = shelf_counts ℕ (c.args.source.now ≡ c.args.source.now) (g.F.Shelf.faults c.args.shelf.now) (g.F.Shelf.faults c.args.shelf.now) (g.F.Shelf.faults c.read_needed.new.shelf) (g.S.Source.faults c.args.source.now)
          c.in_err-conf.field-0.0 refl c.in_err-conf.ensures.cause refl;
      later = c.in_err-conf.ensures.later;
      reads = unread g.S.Source.left g.S.Source.given g.S.Source.ended g.S.Source.idle g.S.Source.faults (MAX_INPUT_BYTES + 1) c.args.source.now;
    })

pub returns-in_err-conf-clause-asks : goal.returns-in_err-conf-clause-asks
returns-in_err-conf-clause-asks g c =
    let stop = c.in_err-conf.field-0.0 in
    let words = c.files-names.result in
    rw (c.files-names.ensures) (all_asked g.F.Shelf.files g.F.Shelf.asked g.F.Shelf.reached (names_of words) (Err stop) c.args.shelf.now c.read_needed.new.shelf
    (ends_asked g.F.Shelf.files g.F.Shelf.asked g.F.Shelf.reached (λ word. word.now) (names_of words) [] Conf words.conf refl c.args.shelf.now c.read_needed.new.shelf c.in_err-conf.ensures.asks
    (Request ∷ Wanted ∷ Script ∷ Other ∷ []) refl (Err stop) (λ n had. asked_until (g.F.Shelf.files c.args.shelf.now) words Conf (IsConfLacking (g.C.OverMessage.tables c.args.command.now)) OfConf stop (rw c.needs.ensures at c.in_err-conf.ensures.refused) (Conf ∷ []) until_conf (names_of words) n (g.F.Shelf.asked c.read_needed.new.shelf) had)))

pub returns-in_err-conf-clause-asked : goal.returns-in_err-conf-clause-asked
returns-in_err-conf-clause-asked g c =
    let p = err_from_is_err_and c.from_residual.result c.from_residual.ensures.1 in
    let stop = c.in_err-conf.field-0.0 in
    let words = c.files-names.result in
    rw (p.1, p.2, c.files-names.ensures) (until_asked g.F.Shelf.files g.F.Shelf.asked g.F.Shelf.reached (names_of words) (Err stop) c.args.shelf.now c.read_needed.new.shelf
    (ends_asked g.F.Shelf.files g.F.Shelf.asked g.F.Shelf.reached (λ word. word.now) (names_of words) [] Conf words.conf refl c.args.shelf.now c.read_needed.new.shelf c.in_err-conf.ensures.asks
    (Request ∷ Wanted ∷ Script ∷ Other ∷ []) refl (Err stop) (λ n had. asked_until (g.F.Shelf.files c.args.shelf.now) words Conf (IsConfLacking (g.C.OverMessage.tables c.args.command.now)) OfConf stop (rw c.needs.ensures at c.in_err-conf.ensures.refused) (Conf ∷ []) until_conf (names_of words) n (g.F.Shelf.asked c.read_needed.new.shelf) had)))

-- ---- it is read

pub over_request-answer-requires-clause-tables : goal.over_request-answer-requires-clause-tables
over_request-answer-requires-clause-tables g c =
    rw c.needs.ensures at c.in_ok-conf.ensures.ok.holds.tables

pub returns-clause-report : goal.returns-clause-report
returns-clause-report g c =
    let configured = rw c.needs.ensures at c.in_ok-conf.ensures.ok in
    rw (c.files-names.ensures) ((rw c.files-names.ensures at c.over_request-answer.ensures.report) (g.F.Shelf.files c.args.shelf.now) (record { kept = c.in_ok-conf.ensures.asks.keeps; configured = configured }))

pub returns-clause-uses : goal.returns-clause-uses
returns-clause-uses g c =
    record {
      cause = after_shelf (c.over_request-answer.new.source ≡ c.args.source.now) (g.F.Shelf.faults c.args.shelf.now) (g.F.Shelf.faults c.read_needed.new.shelf) (g.F.Shelf.faults c.over_request-answer.new.shelf)
          (g.S.Source.faults c.args.source.now) (g.S.Source.faults c.over_request-answer.new.source) c.over_request-answer.result c.in_ok-conf.ensures.cause c.over_request-answer.ensures.uses.cause;
      later = omega (arith, c.in_ok-conf.ensures.later, c.over_request-answer.ensures.uses.later);
      reads = c.over_request-answer.ensures.uses.reads;
    }

pub returns-clause-asks : goal.returns-clause-asks
returns-clause-asks g c =
    let words = c.files-names.result in
    rw (c.files-names.ensures) (all_asked g.F.Shelf.files g.F.Shelf.asked g.F.Shelf.reached (names_of words) c.over_request-answer.result c.args.shelf.now c.over_request-answer.new.shelf
    (then_asked g.F.Shelf.files g.F.Shelf.asked g.F.Shelf.reached (λ word. word.now) (names_of words) [] Conf words.conf refl c.args.shelf.now c.read_needed.new.shelf c.in_ok-conf.ensures.asks c.over_request-answer.result c.over_request-answer.new.shelf (rw c.files-names.ensures at c.over_request-answer.ensures.asks)))

pub returns-clause-asked : goal.returns-clause-asked
returns-clause-asked g c =
    let words = c.files-names.result in
    rw (c.files-names.ensures) (until_asked g.F.Shelf.files g.F.Shelf.asked g.F.Shelf.reached (names_of words) c.over_request-answer.result c.args.shelf.now c.over_request-answer.new.shelf
    (then_asked g.F.Shelf.files g.F.Shelf.asked g.F.Shelf.reached (λ word. word.now) (names_of words) [] Conf words.conf refl c.args.shelf.now c.read_needed.new.shelf c.in_ok-conf.ensures.asks c.over_request-answer.result c.over_request-answer.new.shelf (rw c.files-names.ensures at c.over_request-answer.ensures.asks)))
