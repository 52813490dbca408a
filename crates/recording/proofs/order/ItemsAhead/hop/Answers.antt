use Rattle.recording.specs.RecordedChains.{subject_meant}
use Rattle.recording.proofs.HeldOrder.{no_message, no_script}
use Rattle.recording.proofs.order.ItemsAhead.hop.Goals as goal

pub returns-in_err-script-clause-none : goal.returns-in_err-script-clause-none
returns-in_err-script-clause-none c =
    rw c.from_residual.ensures (no_script (subject_meant c.args.subject) c.moment-moment.result c.args.self.now c.moment-moment.new.self c.script.new.self c.requires.left
    record { some = c.moment-moment.ensures.some; none = c.moment-moment.ensures.none } c.in_err-script.ensures.none)

pub returns-in_err-message-clause-none : goal.returns-in_err-message-clause-none
returns-in_err-message-clause-none c =
    rw c.from_residual-in_err-message.ensures (no_message (subject_meant c.args.subject) c.moment-moment.result c.in_ok-script.script.now c.role_of.result c.args.self.now c.moment-moment.new.self c.script.new.self c.message.new.self
    record { some = c.moment-moment.ensures.some; none = c.moment-moment.ensures.none } c.in_ok-script.ensures.some c.role_of.ensures c.in_err-message.ensures.none)
