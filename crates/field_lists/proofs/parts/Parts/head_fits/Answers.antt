use Rattle.std.proofs.Common.{◌∙◌}
use Rattle.field_lists.specs.ToMessages.{is_in_chunks}
use Rattle.field_lists.specs.tools.Views.{control_of}
use Rattle.field_lists.proofs.Sizes.{head_fits_where, head_too_long}
use Rattle.field_lists.proofs.parts.Parts.head_fits.Goals as goal

pub returns-in-Some : goal.returns-in-Some
returns-in-Some c =
    let parts = c.args.self.now in
    let control = control_of parts.control in
    c.is_some.ensures ∙ head_fits_where control parts.others.now (is_in_chunks control parts.others.now parts.list.now) c.in-Some.room c.room_after.result c.in-Some.ensures c.room_after.ensures

pub returns-in-None : goal.returns-in-None
returns-in-None c =
    let parts = c.args.self.now in
    let control = control_of parts.control in
    head_too_long control parts.others.now (is_in_chunks control parts.others.now parts.list.now) c.in-None.ensures
