use Rattle.std.proofs.Common.{◌≡◌, ◌+◌, ℕ, List, Result, Err, sym, ap, subst}
use Rattle.conf.specs.ConfMeaning.{meaning}
use Rattle.hms_io.specs.Reading.{LosesPrefix}
use Rattle.hms_io.specs.declared.read_write.FillError.{FillError}
use Rattle.intake.specs.Stops.{stop_of_fill}
use Rattle.commands.specs.Outcome.{IfOutcome}
use Rattle.program.specs.Commands.{Whole}
use Rattle.program.specs.Ends.{HasInput, Leaves}
use Rattle.program.proofs.Sources.{all_gone}
use Rattle.program.proofs.TextInputs.{text_outcome, text_unread}
use Rattle.program.proofs.over_text.over_source.Goals as goal

abbrev as_err : FillError → Result (List ℕ) FillError
as_err e = Err e

pub returns-in-Err-clause-report : goal.returns-in-Err-clause-report
returns-in-Err-clause-report g c =
    let conf = meaning c.args.conf.now in
    let command = c.args.command.now in
    let most = g.C.OverText.most command in
    let reports = g.C.OverText.reports command conf in
    let before = g.S.Source.left c.args.source.now in
    let left = g.S.Source.left c.fill.new.source in
    let at_most = text_unread reports most (c.limit-limit.ensures.longer conf) (c.fill.new.source ≡ c.args.source.now) before left c.in-Err.error
    (λ e. subst (λ (n : ℕ). LosesPrefix before left (n + 1)) c.limit-limit.ensures.limit (c.in-Err.ensures.too_long (ap as_err e))) in
    rw c.of_fill.ensures (subst (λ (n : ℕ). IfOutcome (Err (stop_of_fill n c.in-Err.error)) (HasInput reports (Leaves (Whole most) (c.fill.new.source ≡ c.args.source.now) before left) before))
    (sym c.limit-limit.ensures.limit) at_most)

pub answer-requires : goal.answer-requires
answer-requires g c = rw (c.bytes.ensures) (rw c.limit-limit.ensures.limit at c.in-Ok.ensures.within)

pub returns-clause-report : goal.returns-clause-report
returns-clause-report g c =
    text_outcome (g.C.OverText.reports c.args.command.now (meaning c.args.conf.now)) (g.C.OverText.most c.args.command.now) (c.fill.new.source ≡ c.args.source.now) c.in-Ok.input c.bytes.result.now
    (g.S.Source.left c.args.source.now) (g.S.Source.left c.fill.new.source) c.bytes.ensures c.in-Ok.ensures.whole c.answer.result c.answer.ensures.report c.answer.ensures.after

pub returns-in-Err-clause-reads : goal.returns-in-Err-clause-reads
returns-in-Err-clause-reads g c = rw (sym c.limit-limit.ensures.limit) (record { later = c.in-Err.ensures.later; few = c.in-Err.ensures.prefix; gives = c.in-Err.ensures.few; ends = c.in-Err.ensures.ended; idles = c.in-Err.ensures.idle })

pub returns-clause-reads : goal.returns-clause-reads
returns-clause-reads g c = record {
  later = c.in-Ok.ensures.later;
  few = all_gone _ (g.S.Source.left c.args.source.now) (g.S.Source.left c.fill.new.source) c.in-Ok.input c.in-Ok.ensures.whole (rw c.limit-limit.ensures.limit at c.in-Ok.ensures.within);
  gives = rw c.limit-limit.ensures.limit at c.in-Ok.ensures.few;
  ends = c.in-Ok.ensures.ended;
  idles = c.in-Ok.ensures.idle;
}
