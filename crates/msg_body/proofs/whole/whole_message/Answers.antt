use Rattle.std.proofs.Common.{refl}
use Rattle.msg_body.specs.Views.{message_of}
use Rattle.msg_body.proofs.WholeTexts.{fault_answers, whole_answers, view_whole, view_trails, error_answers}
use Rattle.msg_body.proofs.whole.whole_message.Goals as goal

pub returns-then-used-text-clause-whole : goal.returns-then-used-text-clause-whole
returns-then-used-text-clause-whole c =
    view_whole c.args.reading c.args.text.now c.in-Ok-Whole.view c.in-Ok-Whole.used (rw c.in-Ok-Whole.field-0-is at c.in-Ok-Whole.ensures).whole c.if-used-text.true

pub returns-then-used-text-clause-fault : goal.returns-then-used-text-clause-fault
returns-then-used-text-clause-fault c = λ fault _.
    whole_answers c.args.reading c.args.text.now (message_of c.in-Ok-Whole.view) c.in-Ok-Whole.view fault
    (view_whole c.args.reading c.args.text.now c.in-Ok-Whole.view c.in-Ok-Whole.used (rw c.in-Ok-Whole.field-0-is at c.in-Ok-Whole.ensures).whole c.if-used-text.true)

pub returns-in-Ok-Whole-clause-fault : goal.returns-in-Ok-Whole-clause-fault
returns-in-Ok-Whole-clause-fault c = λ fault _.
    view_trails c.args.reading c.args.text.now c.in-Ok-Whole.view c.in-Ok-Whole.used (rw c.in-Ok-Whole.field-0-is at c.in-Ok-Whole.ensures).whole c.if-used-text.false fault

pub returns-in-Ok-Partial-clause-fault : goal.returns-in-Ok-Partial-clause-fault
returns-in-Ok-Partial-clause-fault c = λ fault _.
    fault_answers c.args.reading c.args.text.now _ fault (refl, (rw c.in-Ok-Partial.field-0-is at c.in-Ok-Partial.ensures).partial refl)

pub returns-clause-fault : goal.returns-clause-fault
returns-clause-fault c = error_answers c.args.reading c.args.text.now c.in-Err.error c.in-Err.ensures.fault
