use Rattle.std.proofs.Common.{true, false, refl, ◌∙◌}
use Rattle.field_lists.specs.tools.Allowed.{has_no_fragment}
use Rattle.field_lists.proofs.ControlAnswers.{is_path}
use Rattle.field_lists.proofs.control.is_path_text.Goals as goal

pub returns-then-starts_with : goal.returns-then-starts_with
returns-then-starts_with c = is_path c.args.text.now true c.has_no_fragment.result c.if-starts_with.ensures.test c.has_no_fragment.ensures

pub returns-else-starts_with : goal.returns-else-starts_with
returns-else-starts_with c = c.if-starts_with.false ∙ is_path c.args.text.now false (has_no_fragment c.args.text.now) c.if-starts_with.ensures.test refl
