use Rattle.std.proofs.Common.{◌≡◌, ℕ, List}
use Rattle.rewrite_script.specs.declared.rewrite.Rewrite.{Rewrite}
use Rattle.hop_audit.specs.tools.Compared.{AreCompared}
use Rattle.hop_audit.specs.tools.HopLines.{AreAddedSoFar, AreJudged}
use Rattle.hop_audit.proofs.hop_lines.add_label_lines.Given as goal

abbrev pub invariant-loop-mark : goal.invariant-loop-mark
invariant-loop-mark l =
    let context = l.initial.before.context in
    let other = l.initial.after.context.message in
    record {
      before : l.before ≡ l.initial.before;
      after : l.after ≡ l.initial.after;
      compared : AreCompared context other l.comparison.compared;
      added : (script : List Rewrite) (labels : List (List ℕ)) → AreJudged context l.hop.index script other labels l.marks l.hop.explained
          → AreAddedSoFar context l.hop.index script other labels l.mark-index l.initial.lines l.lines;
    }
