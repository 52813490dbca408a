use Rattle.std.proofs.Common.{sym, ◌∙◌}
use Rattle.field_lists.specs.ToMessages.{is_in_chunks}
use Rattle.field_lists.specs.tools.Views.{control_of}
use Rattle.field_lists.proofs.Sizes.{room_if_chunks, room_if_plain}
use Rattle.field_lists.proofs.parts.Parts.room_after_coding.Goals as goal

pub returns-then-is_in_chunks : goal.returns-then-is_in_chunks
returns-then-is_in_chunks c =
    let parts = c.args.self.now in
    room_if_chunks (is_in_chunks (control_of parts.control) parts.others.now parts.list.now) (sym c.is_in_chunks.ensures ∙ c.if-is_in_chunks.true)

pub returns : goal.returns
returns c =
    let parts = c.args.self.now in
    room_if_plain (is_in_chunks (control_of parts.control) parts.others.now parts.list.now) (sym c.is_in_chunks.ensures ∙ c.if-is_in_chunks.false)
