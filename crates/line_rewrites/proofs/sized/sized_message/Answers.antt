use Rattle.std.proofs.Common.{Ok, ap, ◌∙◌}
use Rattle.line_rewrites.proofs.Sizes.{fault_answers, is_not_read, is_read, none_answers, none_partial, none_refused, whole_answers}
use Rattle.line_rewrites.proofs.sized.sized_message.Goals as goal

pub returns-then-is_sized-clause-fault : goal.returns-then-is_sized-clause-fault
returns-then-is_sized-clause-fault c =
    let whole = rw c.in-Ok-Whole.field-0-is at c.in-Ok-Whole.ensures.whole in
    whole_answers c.args.to_head c.args.text.now c.args.count c.in-Ok-Whole.message
    (is_read c.args.to_head c.args.text.now c.args.count c.in-Ok-Whole.message c.in-Ok-Whole.used c.is_sized.result whole c.is_sized.ensures c.if-is_sized.true)

pub returns-in-Ok-Whole-clause-fault : goal.returns-in-Ok-Whole-clause-fault
returns-in-Ok-Whole-clause-fault c =
    none_answers c.args.to_head c.args.text.now c.args.count
    (is_not_read c.args.to_head c.args.text.now c.args.count c.read_message.result c.in-Ok-Whole.message c.in-Ok-Whole.used c.is_sized.result c.read_message.ensures.found
    (c.in-Ok-Whole.is ∙ ap Ok c.in-Ok-Whole.field-0-is) c.is_sized.ensures c.if-is_sized.false)

pub returns-in-Ok-Partial-clause-fault : goal.returns-in-Ok-Partial-clause-fault
returns-in-Ok-Partial-clause-fault c =
    none_answers c.args.to_head c.args.text.now c.args.count
    (none_partial c.args.to_head c.args.text.now c.args.count c.read_message.result c.read_message.ensures.found (c.in-Ok-Partial.is ∙ ap Ok c.in-Ok-Partial.field-0-is))

pub returns-clause-fault : goal.returns-clause-fault
returns-clause-fault c =
    fault_answers c.args.to_head c.args.text.now c.args.count c.fault_of.result
    (λ refused. none_refused c.args.to_head c.args.text.now c.args.count c.read_message.result c.in-Err.error c.read_message.ensures.found c.in-Err.is (c.fault_of.ensures refused))
