use Rattle.recording.specs.Items.{body_of}
use Rattle.recording.proofs.ReadLaws.{first_err, item_err, first_item, last_line, next_item, shorter_rest}
use Rattle.recording.proofs.read.skip_items.Goals as goal

pub returns-in_err-last : goal.returns-in_err-last
returns-in_err-last c =
    first_err _ c.args.text.now c.from_residual.result c.in_err-last.field-0.0 c.from_residual.ensures.1 c.in_err-last.ensures.gives

pub items-init : goal.items-init
items-init c = first_item c.args.text.now c.in_ok-last.last c.in_ok-last.left.now c.in_ok-last.ensures.gives

pub returns-in_err-item : goal.returns-in_err-item
returns-in_err-item c =
    item_err _ c.args.text.now c.items.last c.items.left.now c.from_residual-in_err-item.result c.in_err-item.field-0.0 c.from_residual-in_err-item.ensures.1 c.items.invariant c.in_err-item.ensures.gives

pub returns-in-None : goal.returns-in-None
returns-in-None c =
    last_line c.args.text.now c.items.last c.items.left.now c.in_ok-item.rest.now c.items.invariant (rw c.in-None.is at c.in_ok-item.ensures.gives)

pub items-smaller : goal.items-smaller
items-smaller c =
    shorter_rest c.items.last c.items.left.now (body_of c.in-Some.body) c.in_ok-item.rest.now (rw c.in-Some.is at c.in_ok-item.ensures.gives)

pub items-preserved : goal.items-preserved
items-preserved c =
    next_item c.args.text.now c.items.last c.items.left.now c.in_ok-item.rest.now (body_of c.in-Some.body) c.moment_after-last.result c.items.invariant (rw c.in-Some.is at c.in_ok-item.ensures.gives) c.moment_after-last.ensures
