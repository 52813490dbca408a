use Rattle.std.proofs.Common.{◌≡◌, ◌↔◌, length}
use Rattle.msg_head.specs.Values.{line_values}
use Rattle.normal_forms.proofs.agreement.have_same_values.Given as goal

abbrev pub invariant-lines : goal.invariant-lines
invariant-lines l =
    (length l.others ≡ length l.lines)
    × ((line_values l.fn.other ≡ line_values l.fn.one) ↔ (line_values l.others ≡ line_values l.lines))

abbrev pub decreases-lines : goal.decreases-lines
decreases-lines l = length l.lines
