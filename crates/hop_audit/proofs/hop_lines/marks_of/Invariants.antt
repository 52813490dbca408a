use Rattle.std.proofs.Common.{take}
use Rattle.signatures.specs.MessageSignatures.{AreSignaturesOf}
use Rattle.msg_body.specs.Messages.{Message}
use Rattle.hop_audit.specs.tools.Walked.{AreMarksOf}
use Rattle.hop_audit.proofs.hop_lines.marks_of.Given as goal

abbrev pub invariant-loop-label : goal.invariant-loop-label
invariant-loop-label l = (message : Message) → AreSignaturesOf message l.signatures → AreMarksOf message (take l.label-index l.labels) l.marks.items
