use Rattle.std.proofs.Common.{ap, ◌∙◌}
use Rattle.recording.specs.declared.item.Role.{Role}
use Rattle.recording.specs.Items.{body_of, message, placed, stored}
use Rattle.recording.specs.tools.Ordered.{HasKind}
use Rattle.recording.proofs.HeldOrder.{not_message_item, not_of_role, role_apart, role_same, take_none, take_one, take_past}
use Rattle.recording.proofs.order.ItemsAhead.message.Goals as goal

pub returns-in_err-item-clause-none : goal.returns-in_err-item-clause-none
returns-in_err-item-clause-none c = rw c.from_residual.ensures (take_past (HasKind (message c.args.role)) c.args.self.now c.in_err-item.ensures)

pub returns-then-ne-clause-none : goal.returns-then-ne-clause-none
returns-then-ne-clause-none c =
    take_none (HasKind (message c.args.role)) c.args.self.now (placed c.in_ok-item.item) c.in_ok-item.ensures
    (not_of_role c.args.role c.in-Message.own c.in-Message.text c.in_ok-item.item.body c.in-Message.is (role_apart c.in-Message.own c.args.role c.ne.result c.ne.ensures c.if-ne.true))

pub returns-else-ne-clause-some : goal.returns-else-ne-clause-some
returns-else-ne-clause-some c =
    rw c.take.ensures (take_one c.args.self.now (placed c.in_ok-item.item) (stored (message c.args.role) c.in-Message.text.now) c.in_ok-item.ensures
    (ap body_of c.in-Message.is ∙ ap (λ (r : Role). stored (message r) c.in-Message.text.now) (role_same c.in-Message.own c.args.role c.ne.result c.ne.ensures c.if-ne.false)))

pub returns-in_default : goal.returns-in_default
returns-in_default c = record {
  some = tt;
  none = take_none (HasKind (message c.args.role)) c.args.self.now (placed c.in_ok-item.item) c.in_ok-item.ensures
      (not_message_item c.args.role c.in_ok-item.item.body c.in_default.not-Message);
}
