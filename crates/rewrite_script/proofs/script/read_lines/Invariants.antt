use Rattle.std.proofs.Common.{length}
use Rattle.rewrite_script.specs.tools.Judged.{AreRead}
use Rattle.rewrite_script.proofs.script.read_lines.Given as goal

abbrev pub invariant-lines : goal.invariant-lines
invariant-lines l = AreRead l.text l.script l.rest

abbrev pub decreases-lines : goal.decreases-lines
decreases-lines l = length l.rest
