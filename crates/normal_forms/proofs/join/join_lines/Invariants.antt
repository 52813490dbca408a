use Rattle.normal_forms.specs.tools.Sides.{JoinsFrom}
use Rattle.normal_forms.proofs.join.join_lines.Given as goal

abbrev pub invariant-lines : goal.invariant-lines
invariant-lines l = JoinsFrom l.side l.params l.initial.lines.items l.lines.items l.left l.initial.steps l.steps

abbrev pub decreases-lines : goal.decreases-lines
decreases-lines l = l.left
