use Rattle.std.proofs.Common.{◌≡◌}
use Rattle.std.specs.Prelude.{option_map}
use Rattle.hop_audit.specs.tools.Compared.{AreCompared, AreComparedSoFar}
use Rattle.hop_audit.proofs.comparison.Comparison.of_components.Given as goal

abbrev pub invariant-loop-id : goal.invariant-loop-id
invariant-loop-id l =
    let context = l.initial.before.context in
    let other = l.initial.after.context.message in
    record {
      before : l.before ≡ l.initial.before;
      after : l.after ≡ l.initial.after;
      compared : AreCompared context other l.self.compared;
      so_far : AreComparedSoFar context other l.ids l.id-index (option_map (λ id. id.now) l.lacking);
    }
