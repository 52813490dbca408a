use Rattle.std.proofs.Common.{◌≡◌}
use Rattle.sfv_read.specs.tools.DisplayWalk.{continuations_read, appended}
use Rattle.sfv_read.proofs.display_string.append_continuations.Given as goal

abbrev pub invariant-bytes : goal.invariant-bytes
invariant-bytes l = appended l.text (continuations_read l.left l.firsts l.rest) ≡ appended l.initial.text (continuations_read l.fn.count l.fn.firsts l.fn.bytes)

abbrev pub decreases-bytes : goal.decreases-bytes
decreases-bytes l = l.left
