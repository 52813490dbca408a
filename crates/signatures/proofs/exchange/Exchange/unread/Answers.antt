use Rattle.signatures.specs.tools.Held.{held_context}
use Rattle.signatures.proofs.exchange.Exchange.unread.Goals as goal

pub invariant_of-result : goal.invariant_of-result
invariant_of-result c = record { fields_are = tt; values_are = c.new.ensures (held_context c.args.held); digest_is = tt }
