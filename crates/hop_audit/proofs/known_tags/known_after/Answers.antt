use Rattle.std.proofs.Common.{Some, ap, sym, ◌∙◌}
use Rattle.std.proofs.lemmas.Option.{slice_get-get_or}
use Rattle.hop_audit.specs.tools.Carried.{TellsTag}
use Rattle.hop_audit.proofs.JudgedHops.{zip_here}
use Rattle.hop_audit.proofs.known_tags.known_after.Goals as goal

pub loop-line-preserved : goal.loop-line-preserved
loop-line-preserved c conf was now labels knows tell =
    let here = zip_here (TellsTag conf was now) labels c.args.lines.now c.loop-line.line-index c.line-item.result tell
    (slice_get-get_or c.args.lines.now c.loop-line.line-index c.line-item.result c.loop-line-test.true ∙ ap Some (sym c.line-item.is)) in
    c.in_ok-add_told.ensures conf was now here.0 knows here.2 (c.loop-line.invariant conf was now labels knows tell)
