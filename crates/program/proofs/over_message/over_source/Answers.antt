use Rattle.std.proofs.Common.{◌≡◌, ℕ, List, Result, Err, ap}
use Rattle.std.specs.Prelude.{option_map}
use Rattle.hms_io.specs.declared.read_write.FillError.{FillError}
use Rattle.msg_body.specs.Views.{message_of}
use Rattle.refusals.specs.declared.refusal.TheConstants.{MAX_INPUT_BYTES}
use Rattle.program.specs.tools.Parts.{values_of}
use Rattle.program.proofs.AskedFiles.{answer_late, fill_late}
use Rattle.program.proofs.Sources.{all_gone, fill_stop, input_outcome}
use Rattle.program.proofs.over_message.over_source.Goals as goal

abbrev as_err : FillError → Result (List ℕ) FillError
as_err e = Err e

pub returns-in-Err-clause-report : goal.returns-in-Err-clause-report
returns-in-Err-clause-report g c =
    rw c.of_fill.ensures (fill_stop (g.C.OverMessage.reports c.args.command.now) (values_of c.args.files) (option_map (λ view. message_of view.now) c.args.other) (c.fill.new.source ≡ c.args.source.now) (g.S.Source.left c.args.source.now)
    (g.S.Source.left c.fill.new.source) c.in-Err.error (λ e. c.in-Err.ensures.too_long (ap as_err e)))

pub returns-clause-report : goal.returns-clause-report
returns-clause-report g c =
    input_outcome (g.C.OverMessage.reports c.args.command.now) (values_of c.args.files) (option_map (λ view. message_of view.now) c.args.other) (c.fill.new.source ≡ c.args.source.now) c.in-Ok.input c.bytes.result.now
    (g.S.Source.left c.args.source.now) (g.S.Source.left c.fill.new.source) c.bytes.ensures c.in-Ok.ensures.whole c.over_input.result c.over_input.ensures.report c.over_input.ensures.after

pub returns-in-Err-clause-reads : goal.returns-in-Err-clause-reads
returns-in-Err-clause-reads g c = record { later = c.in-Err.ensures.later; few = c.in-Err.ensures.prefix; gives = c.in-Err.ensures.few; ends = c.in-Err.ensures.ended; idles = c.in-Err.ensures.idle }

pub returns-clause-reads : goal.returns-clause-reads
returns-clause-reads g c = record {
  later = c.in-Ok.ensures.later;
  few = all_gone _ (g.S.Source.left c.args.source.now) (g.S.Source.left c.fill.new.source) c.in-Ok.input c.in-Ok.ensures.whole c.in-Ok.ensures.within;
  gives = c.in-Ok.ensures.few;
  ends = c.in-Ok.ensures.ended;
  idles = c.in-Ok.ensures.idle;
}

pub returns-in-Err-clause-late : goal.returns-in-Err-clause-late
returns-in-Err-clause-late g c = rw c.of_fill.ensures (fill_late MAX_INPUT_BYTES c.in-Err.error)

pub returns-clause-late : goal.returns-clause-late
returns-clause-late g c = answer_late c.over_input.result c.over_input.ensures.after
