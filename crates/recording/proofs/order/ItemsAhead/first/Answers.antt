use Rattle.recording.proofs.HeldOrder.{first_fails}
use Rattle.recording.proofs.order.ItemsAhead.first.Goals as goal

pub returns-in_err-text-clause-none : goal.returns-in_err-text-clause-none
returns-in_err-text-clause-none c =
    rw c.from_residual.ensures (first_fails c.args.self.now c.message.new.self c.message-related.new.self c.message-2.new.self c.message-related.result c.in_default.ensures.none
    record { some = c.message-related.ensures.some; none = c.message-related.ensures.none } c.in_err-text.ensures.none)
