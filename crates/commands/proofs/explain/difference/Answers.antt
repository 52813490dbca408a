use Rattle.msg_body.specs.Views.{message_of}
use Rattle.commands.proofs.Explaining.{covered_read, difference_is}
use Rattle.commands.proofs.Rewriting.{not_read}
use Rattle.commands.proofs.explain.difference.Goals as goal

pub differing_outcome-outcome-requires-clause-within : goal.differing_outcome-outcome-requires-clause-within
differing_outcome-outcome-requires-clause-within c = covered_read (message_of c.args.message.now) c.args.label.now c.args.index c.in-Ok.read.params c.in-Ok.read.tag c.requires c.in-Ok.ensures.ok

pub returns-in-Ok : goal.returns-in-Ok
returns-in-Ok c =
    difference_is (message_of c.args.message.now) c.args.label.now c.args.index c.in-Ok.read.params c.in-Ok.read.tag c.differing_outcome-outcome.result c.in-Ok.ensures.ok c.differing_outcome-outcome.ensures

pub unreachable-requires : goal.unreachable-requires
unreachable-requires c =
    not_read (message_of c.args.message.now) c.args.label.now c.in-Err-Rule.field-0-0 c.in-Err-Rule.field-0-1 (rw c.in-Err-Rule.field-0-is at c.in-Err-Rule.ensures.fault)
    (c.requires.params, c.requires.tag, c.requires.signature)
