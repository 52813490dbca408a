use Rattle.std.proofs.Common.{◌∙◌, arith}
use Rattle.std.proofs.lemmas.Grind.{common_steps}
use Rattle.hms_io.proofs.Known.{appends_more, idle_kept}
use Rattle.hms_io.proofs.read_write.put_all.Goals as goal

pub writes-preserved : goal.writes-preserved
writes-preserved g c =
    let taken = c.in_ok-at.ensures in
    record {
      within = grind (arith, common_steps);
      kept = taken.cause.kept ∙ c.writes.invariant.kept;
      idle = idle_kept _ _ _ (λ none. grind (arith, common_steps, taken.some none)) taken.idle ∙ c.writes.invariant.idle;
      took = appends_more _ _ _ c.args.text.now c.writes.at _ c.writes.invariant.took taken.bytes;
    }
