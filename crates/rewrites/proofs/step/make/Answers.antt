use Rattle.std.proofs.Common.{IfOk, subst, sym}
use Rattle.component_values.specs.Context.{context_of}
use Rattle.rewrite_script.specs.declared.rewrite.Rewrite.{Rewrite}
use Rattle.rewrites.specs.Steps.{SpellsStep}
use Rattle.rewrites.proofs.step.make.Goals as goal

pub returns-in-Whole-clause-ok : goal.returns-in-Whole-clause-ok
returns-in-Whole-clause-ok c =
    subst (λ (s : Rewrite). IfOk c.make_whole.result (SpellsStep (context_of c.args.context.now) s)) (sym c.in-Whole.is) c.make_whole.ensures.ok
