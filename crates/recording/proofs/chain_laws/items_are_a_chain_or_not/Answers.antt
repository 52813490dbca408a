use Rattle.recording.proofs.OneChain.{one_chain}
use Rattle.recording.proofs.OrderFaults.{chain_or_not, one_order_fault}
use Rattle.recording.proofs.chain_laws.items_are_a_chain_or_not.Goals as goal

pub returns : goal.returns
returns c = record { one = one_chain; either = chain_or_not; fault = one_order_fault }
