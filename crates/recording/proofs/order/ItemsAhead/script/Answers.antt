use Rattle.std.proofs.Common.{ap}
use Rattle.recording.specs.Items.{body_of, placed, script, stored}
use Rattle.recording.specs.tools.Ordered.{HasKind}
use Rattle.recording.proofs.HeldOrder.{not_script_item, take_none, take_one, take_past}
use Rattle.recording.proofs.order.ItemsAhead.script.Goals as goal

pub returns-in_err-item-clause-none : goal.returns-in_err-item-clause-none
returns-in_err-item-clause-none c = rw c.from_residual.ensures (take_past (HasKind script) c.args.self.now c.in_err-item.ensures)

pub returns-in-Script-clause-some : goal.returns-in-Script-clause-some
returns-in-Script-clause-some c =
    rw c.take.ensures (take_one c.args.self.now (placed c.in_ok-item.item) (stored script c.in-Script.text.now) c.in_ok-item.ensures (ap body_of c.in-Script.is))

pub returns-in_default : goal.returns-in_default
returns-in_default c = record {
  some = tt;
  none = take_none (HasKind script) c.args.self.now (placed c.in_ok-item.item) c.in_ok-item.ensures (not_script_item c.in_ok-item.item.body c.in_default.not-Script);
}
