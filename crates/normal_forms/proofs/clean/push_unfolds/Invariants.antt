use Rattle.std.proofs.Common.{length}
use Rattle.normal_forms.specs.tools.Sides.{UnfoldsUpTo}
use Rattle.normal_forms.proofs.SideFolds.{IsSound}
use Rattle.normal_forms.proofs.clean.push_unfolds.Given as goal

abbrev pub invariant-folds : goal.invariant-folds
invariant-folds l = UnfoldsUpTo l.side l.index l.fn.raw l.done l.rest l.initial.steps l.steps × IsSound l.rest

abbrev pub decreases-folds : goal.decreases-folds
decreases-folds l = length l.rest
