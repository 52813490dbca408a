use Rattle.std.proofs.Common.{◌≡◌, take}
use Rattle.std.specs.Prelude.{map}
use Rattle.msg_head.specs.Views.{field_line_of}
use Rattle.normal_forms.specs.LineSteps.{Cleans}
use Rattle.normal_forms.specs.tools.Lines.{clean_line}
use Rattle.normal_forms.specs.tools.Sides.{Leads}
use Rattle.normal_forms.proofs.SideCleaned.{cleaned}
use Rattle.normal_forms.proofs.side.clean_lines.Given as goal

abbrev pub invariant-loop-index : goal.invariant-loop-index
invariant-loop-index l =
    Leads (Cleans l.side) (map field_line_of l.lines) (cleaned l.index (map field_line_of l.lines)) l.initial.steps l.steps
    × (l.clean.items ≡ map clean_line (take l.index (map field_line_of l.lines)))
