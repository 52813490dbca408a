use Rattle.msg_head.specs.Views.{lines_of}
use Rattle.framing.proofs.ThereLaws.{named_there}
use Rattle.framing.proofs.named.NamedLines.find.Goals as goal

pub returns-clause-there : goal.returns-clause-there
returns-clause-there c = named_there c.of.result (lines_of c.args.head.now) c.args.name.now (rw c.lines_named.ensures at c.of.ensures)
