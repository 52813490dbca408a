use Rattle.std.specs.Prelude.{map, reverse}
use Rattle.msg_body.specs.Views.{lines_on, message_of}
use Rattle.msg_head.specs.Views.{field_line_of}
use Rattle.normal_forms.specs.tools.Sides.{KeepsFrom}
use Rattle.normal_forms.proofs.side.kept_lines.Given as goal

abbrev pub invariant-lines : goal.invariant-lines
invariant-lines l =
    KeepsFrom l.side l.params (lines_on l.side (message_of l.message)) l.left (reverse (map field_line_of l.kept.items)) l.initial.steps l.steps

abbrev pub decreases-lines : goal.decreases-lines
decreases-lines l = l.left
