use Rattle.std.proofs.Common.{ap}
use Rattle.recording.specs.Items.{body_of, moment, placed}
use Rattle.recording.specs.tools.Ordered.{IsMoment}
use Rattle.recording.proofs.HeldOrder.{not_moment, take_none, take_one, take_past}
use Rattle.recording.proofs.order.ItemsAhead.moment.Goals as goal

pub returns-in_err-item-clause-none : goal.returns-in_err-item-clause-none
returns-in_err-item-clause-none c = rw c.from_residual.ensures (take_past IsMoment c.args.self.now c.in_err-item.ensures)

pub returns-in-At-clause-some : goal.returns-in-At-clause-some
returns-in-At-clause-some c =
    rw c.take.ensures (take_one c.args.self.now (placed c.in_ok-item.item) (moment c.in-At.seconds) c.in_ok-item.ensures (ap body_of c.in-At.is))

pub returns-in_default : goal.returns-in_default
returns-in_default c = record {
  some = tt;
  none = take_none IsMoment c.args.self.now (placed c.in_ok-item.item) c.in_ok-item.ensures (not_moment c.in_ok-item.item.body c.in_default.not-At);
}
