use Rattle.field_lists.specs.ToMessages.{is_in_chunks}
use Rattle.field_lists.specs.tools.Views.{control_of}
use Rattle.field_lists.proofs.Sizes.{room_fixed}
use Rattle.field_lists.proofs.parts.Parts.room_for_fields.Goals as goal

pub returns : goal.returns
returns c =
    let parts = c.args.self.now in
    let control = control_of parts.control in
    room_fixed control (is_in_chunks control parts.others.now parts.list.now) c.room_after_own.result c.room_after_coding-room.result c.room_after_coding-room.ensures c.room_after_own.ensures
