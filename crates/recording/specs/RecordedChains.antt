-- The chain that the code makes of items, and why there is none.
use Rattle.std.specs.Prelude.{◌≡◌, ℕ, ◌+◌, ◌<◌, ◌≤◌, Some, option_map, List, length, map, take, slice_get}
use Rattle.recording.specs.declared.chain.OrderFault.{OrderFault}
use Rattle.recording.specs.declared.chain.OrderFault.TheVariants.{Memory, Order, TooManyHops}
use Rattle.recording.specs.declared.chain.RecordedChain.{RecordedChain as HeldChain}
use Rattle.recording.specs.declared.chain.RecordedHop.{RecordedHop as HeldHop}
use Rattle.recording.specs.declared.chain.Subject.{Subject as HeldSubject}
use Rattle.recording.specs.declared.chain.Subject.TheVariants.{Requests, Responses}
use Rattle.recording.specs.declared.limits.TheConstants.{MAX_HOPS}
use Rattle.recording.specs.Chains.{Subject, requests, responses, RecordedHop, RecordedChain, moment_items, related_items, chain_items, IsChain, IsOrderFault, OfChain}
use Rattle.recording.specs.Items.{Body, PlacedItem}

-- what the messages of the chain are
abbrev pub subject_meant : HeldSubject → Subject
subject_meant Requests = requests
subject_meant (Responses related) = responses (option_map (λ text. text.now) related)

-- the hop that is meant
abbrev pub hop_meant : HeldHop → RecordedHop
hop_meant hop =
    record { moment = hop.moment; script = hop.script.now; message = hop.message.now }

-- the chain that is meant
abbrev pub chain_meant : HeldChain → RecordedChain
chain_meant chain = record {
  moment = chain.moment;
  subject = subject_meant chain.subject;
  first = chain.first.now;
  hops = map hop_meant chain.hops;
}

-- ---- places of items

-- the items of the chain up to and with those of so many hops
abbrev pub items_up_to : RecordedChain → ℕ → List Body
items_up_to chain count = chain_items (record chain { hops = take count chain.hops })

-- The index of the item of a hop's script, where the hop has this index, which counts from 0: it
-- comes after those before the hop and its moment. That of its message is the next.
abbrev pub script_index : RecordedChain → ℕ → RecordedHop → ℕ
script_index chain index hop =
    length (items_up_to chain index) + length (moment_items hop.moment)

-- the items are this chain, of which each part knows its index
pub record IsHeldChain (items : List PlacedItem) (chain : HeldChain) : Type 0 where
  pub is : IsChain items (chain_meant chain)
  pub few : length (chain_meant chain).hops ≤ MAX_HOPS
  pub first_is : chain.item ≡ length (related_items (chain_meant chain).subject) + 1
  pub hops_are : (index : ℕ) (hop : HeldHop) → slice_get chain.hops index ≡ Some hop
      → hop.item ≡ script_index (chain_meant chain) index (hop_meant hop)

-- ---- why items aren't a chain

-- the fact for which the fault is answered; being out of memory is none of them
abbrev pub IsOrderCause : List PlacedItem → OrderFault → Type 0
IsOrderCause items Memory = ⊥
IsOrderCause items (Order offset) = IsOrderFault items offset
IsOrderCause items TooManyHops = OfChain items (λ chain. MAX_HOPS < length chain.hops)
