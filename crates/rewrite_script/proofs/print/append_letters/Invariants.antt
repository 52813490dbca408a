use Rattle.std.proofs.Common.{◌≡◌, ◌++◌, map, take}
use Rattle.rewrite_script.specs.Lines.{blank_letter}
use Rattle.rewrite_script.proofs.print.append_letters.Given as goal

abbrev pub invariant-loop-blank : goal.invariant-loop-blank
invariant-loop-blank l = l.text ≡ l.initial.text ++ map blank_letter (take l.blank-index l.blanks)
