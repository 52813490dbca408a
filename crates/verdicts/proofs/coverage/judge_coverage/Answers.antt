use Rattle.std.proofs.Common.{refl, sym, subst}
use Rattle.component_ids.specs.declared.id.ComponentId.{ComponentId}
use Rattle.verdicts.specs.Policies.{IsFirstUncovered}
use Rattle.verdicts.proofs.Uncovered.{found_first, none_found}
use Rattle.verdicts.proofs.coverage.judge_coverage.Goals as goal

pub returns-in_ok-lacking-in-Some : goal.returns-in_ok-lacking-in-Some
returns-in_ok-lacking-in-Some c = (
  refl,
  c.in_ok-lacking-in-Some.lacking,
  refl,
  subst (λ (id : ComponentId). IsFirstUncovered c.args.covered.now c.args.required.now id) (sym c.in_ok-lacking-in-Some.ensures)
      (found_first c.args.covered.now c.args.required.now c.in-Some.id.now (sym c.in-Some.ensures)),
)

pub returns-in-None : goal.returns-in-None
returns-in-None c = none_found c.args.covered.now c.args.required.now (sym c.in-None.ensures)
