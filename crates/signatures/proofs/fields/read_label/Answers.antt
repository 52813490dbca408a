use Rattle.msg_body.specs.Views.{message_of}
use Rattle.signatures.proofs.fields.read_label.Goals as goal

pub returns-clause-in_range : goal.returns-clause-in_range
returns-clause-in_range c = c.label.ensures.in_range (message_of c.args.view.now) c.in-Ok.ensures

pub returns-clause-fault : goal.returns-clause-fault
returns-clause-fault c = c.label.ensures.fault (message_of c.args.view.now) c.in-Ok.ensures
