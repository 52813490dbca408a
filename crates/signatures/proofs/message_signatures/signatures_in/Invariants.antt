use Rattle.msg_body.specs.Messages.{Message}
use Rattle.signatures.specs.Fields.{AreFieldsOf}
use Rattle.std.proofs.Common.{drop}
use Rattle.signatures.specs.tools.Reading.{AreReadSoFar}
use Rattle.signatures.proofs.message_signatures.signatures_in.Given as goal

abbrev pub invariant-loop-label : goal.invariant-loop-label
invariant-loop-label l = (message : Message) → AreFieldsOf message l.fields → AreReadSoFar message l.signatures l.label-items (drop l.label-index l.label-items)
