use Rattle.std.proofs.Common.{◌∙◌}
use Rattle.field_lists.proofs.Sizes.{trailers_fit_where}
use Rattle.field_lists.proofs.parts.trailers_fit.Goals as goal

pub returns : goal.returns
returns c = c.is_some.ensures ∙ trailers_fit_where c.room_after.result c.args.fields.now c.room_after.ensures
