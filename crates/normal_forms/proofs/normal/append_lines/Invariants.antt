use Rattle.std.proofs.Common.{◌≡◌, ◌++◌, take}
use Rattle.std.specs.List.{flat_map}
use Rattle.msg_head.specs.Lines.{line_text}
use Rattle.normal_forms.proofs.normal.append_lines.Given as goal

abbrev pub invariant-loop-line : goal.invariant-loop-line
invariant-loop-line l = l.text ≡ l.initial.text ++ flat_map line_text (take l.line-index l.lines)
