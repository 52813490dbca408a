use Rattle.std.proofs.Common.{◌≡◌, take}
use Rattle.rewrite_script.specs.Scripts.{script_text}
use Rattle.rewrite_script.proofs.print.print_script.Given as goal

abbrev pub invariant-loop-rewrite : goal.invariant-loop-rewrite
invariant-loop-rewrite l = l.text ≡ script_text (take l.rewrite-index l.script)
