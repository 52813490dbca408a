-- What the code answers for the order of items. No public clause cites this module.
use Rattle.std.specs.Prelude.{⊤, ◌<◌, List, length, Result, Ok, Err}
use Rattle.hop_audit.specs.declared.fault.ChainFault.{ChainFault}
use Rattle.hop_audit.specs.declared.fault.ChainFault.TheVariants.{Memory, Order, TooManyHops}
use Rattle.recording.specs.declared.chain.RecordedChain.{RecordedChain as HeldChain}
use Rattle.recording.specs.declared.limits.TheConstants.{MAX_HOPS}
use Rattle.recording.specs.Chains.{IsOrderFault, OfChain}
use Rattle.recording.specs.Items.{PlacedItem}
use Rattle.recording.specs.RecordedChains.{IsHeldChain}

-- the chain, or why there is none
abbrev pub SaysOrder : List PlacedItem → Result HeldChain ChainFault → Type 0
SaysOrder items (Ok chain) = IsHeldChain items chain
SaysOrder items (Err Memory) = ⊤
SaysOrder items (Err (Order offset)) = IsOrderFault items offset
SaysOrder items (Err TooManyHops) = OfChain items (λ chain. MAX_HOPS < length chain.hops)
SaysOrder items (Err fault) = ⊥
