use Rattle.std.proofs.Common.{◌≡◌, map, take}
use Rattle.rewrite_script.specs.tools.LineWalk.{blank_of}
use Rattle.rewrite_script.proofs.argument.blanks_of_letters.Given as goal

abbrev pub invariant-loop-letter : goal.invariant-loop-letter
invariant-loop-letter l = l.blanks ≡ map blank_of (take l.letter-index l.letters)
