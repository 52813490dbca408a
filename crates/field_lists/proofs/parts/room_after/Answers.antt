use Rattle.field_lists.proofs.Sizes.{room_ends, room_next}
use Rattle.field_lists.proofs.parts.room_after.Goals as goal

pub fields-preserved : goal.fields-preserved
fields-preserved c =
    room_next c.args.fields.now c.fields.rest.now c.in-Some.after.now c.in-Some.field.now c.fields.left c.args.room c.in_ok-left.left c.fields.invariant c.in-Some.ensures.cases.0 c.in_ok-left.ensures

pub returns-in_err-left : goal.returns-in_err-left
returns-in_err-left c =
    rw c.from_residual.ensures (room_ends c.args.fields.now c.fields.rest.now c.in-Some.after.now c.in-Some.field.now c.fields.left c.args.room c.fields.invariant c.in-Some.ensures.cases.0 c.in_err-left.ensures)
