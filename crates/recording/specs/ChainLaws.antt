-- Laws of recorded chains.
use Rattle.std.specs.Prelude.{◌≡◌, ◌⊎◌, ℕ, List}
use Rattle.recording.specs.Chains.{RecordedChain, IsChain, IsOrderFault}
use Rattle.recording.specs.Items.{PlacedItem}
use Rattle.recording.specs.Recordings.{BeginWithMoment, bodies}

-- items are at most one chain
abbrev pub AreOneChain : Type 0
AreOneChain = (items : List PlacedItem) (chain other : RecordedChain)
    → IsChain items chain → IsChain items other → chain ≡ other

-- items are a chain, or not in its order, at one item
abbrev pub AreChainOrNot : Type 0
AreChainOrNot = (items : List PlacedItem) → BeginWithMoment (bodies items)
    → ((chain : RecordedChain) × IsChain items chain)
    ⊎ ((offset : ℕ) × IsOrderFault items offset)

-- they aren't in order at two items
abbrev pub HaveOneOrderFault : Type 0
HaveOneOrderFault = (items : List PlacedItem) (offset other : ℕ)
    → IsOrderFault items offset → IsOrderFault items other → offset ≡ other
