use Rattle.std.proofs.Common.{List, drop, subst, sym}
use Rattle.std.specs.List.{All}
use Rattle.settings.specs.ValidSections.{IsValidPolicy}
use Rattle.settings.specs.declared.policy.Policy.{Policy}
use Rattle.verdicts.specs.Choice.{window_over}
use Rattle.verdicts.proofs.Windows.{so_far_short}
use Rattle.verdicts.proofs.choice.window_of.Goals as goal

pub returns-clause-short : goal.returns-clause-short
returns-clause-short c =
    let items = c.as_slice-policy-items.result.now in
    let each = subst (λ (ps : List Policy). All IsValidPolicy ps) (sym c.as_slice-policy-items.ensures) c.policies.ensures.valid.each in
    so_far_short items c.loop-policy.window (window_over (drop c.loop-policy.policy-index items)) each c.loop-policy.invariant
