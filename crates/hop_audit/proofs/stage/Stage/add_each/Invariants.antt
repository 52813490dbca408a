use Rattle.std.proofs.Common.{◌≡◌}
use Rattle.hop_audit.proofs.ReportLines.{AreAddedFor}
use Rattle.hop_audit.proofs.stage.Stage.add_each.Given as goal

abbrev pub invariant-loop-place : goal.invariant-loop-place
invariant-loop-place g l = AreAddedFor l.fn.self l.index l.count l.place l.initial.lines l.lines × (l.self ≡ l.fn.self)
