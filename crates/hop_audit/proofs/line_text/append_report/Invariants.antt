use Rattle.std.proofs.Common.{◌≡◌, ◌++◌, take}
use Rattle.hop_audit.specs.Lines.{report_text}
use Rattle.hop_audit.proofs.line_text.append_report.Given as goal

abbrev pub invariant-loop-line : goal.invariant-loop-line
invariant-loop-line l = l.text ≡ l.initial.text ++ report_text (take l.line-index l.lines)
