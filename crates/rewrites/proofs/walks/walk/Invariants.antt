use Rattle.component_values.specs.Context.{context_of}
use Rattle.rewrites.specs.tools.Walked.{IsMadeAt}
use Rattle.rewrites.proofs.walks.walk.Given as goal

abbrev pub invariant-loop-index : goal.invariant-loop-index
invariant-loop-index g l = IsMadeAt g.W.Watcher.judges (context_of l.context) l.fn.watcher l.fn.steps l.index l.watcher l.made
