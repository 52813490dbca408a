use Rattle.std.proofs.Common.{refl}
use Rattle.recording.specs.declared.chain.OrderFault.TheVariants.{Order, TooManyHops}
use Rattle.hop_audit.proofs.order.chain_of.Goals as goal

pub returns-in-Err-Order : goal.returns-in-Err-Order
returns-in-Err-Order c =
    ((rw c.in-Err-Order.field-0-is at c.in-Err-Order.ensures.fault) (Order c.in-Err-Order.offset) (λ e. absurd (cc e))).only refl

pub returns-in-Err-TooManyHops : goal.returns-in-Err-TooManyHops
returns-in-Err-TooManyHops c =
    ((rw c.in-Err-TooManyHops.field-0-is at c.in-Err-TooManyHops.ensures.fault) TooManyHops (λ e. absurd (cc e))).only refl
