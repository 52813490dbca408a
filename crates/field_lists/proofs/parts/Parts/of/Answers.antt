use Rattle.std.proofs.Common.{refl, sym, ◌∙◌}
use Rattle.field_lists.specs.tools.Views.{control_of}
use Rattle.field_lists.proofs.PartAnswers.{allowed_not, are_parts, none_of}
use Rattle.field_lists.proofs.parts.Parts.of.Goals as goal

pub returns-in_err-control-clause-none : goal.returns-in_err-control-clause-none
returns-in_err-control-clause-none c = rw c.from_residual.ensures (none_of c.args.list.now c.as_slice.result.now c.as_slice.ensures c.in_err-control.ensures.none)

pub returns-then-not-is_allowed-clause-none : goal.returns-then-not-is_allowed-clause-none
returns-then-not-is_allowed-clause-none c =
    allowed_not c.args.list.now c.as_slice.result.now (control_of c.in_ok-control.control) c.in_ok-control.others.now c.as_slice.ensures c.in_ok-control.ensures.some (sym c.if-not-is_allowed.true ∙ c.is_allowed.ensures)

pub returns-clause-some : goal.returns-clause-some
returns-clause-some c = (
  are_parts c.args.list.now c.as_slice.result.now (control_of c.in_ok-control.control) c.in_ok-control.others.now c.as_slice.ensures c.in_ok-control.ensures.some (sym c.if-not-is_allowed.false ∙ c.is_allowed.ensures),
  refl,
)
