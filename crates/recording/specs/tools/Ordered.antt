-- What the code takes of items one by one, and what it answers for their order. No public clause
-- cites this module.
use Rattle.std.specs.Prelude.{◌≡◌, ⊤, ℕ, ◌+◌, ◌-◌, ◌^◌, ◌<◌, ◌≤◌, Bool, true, false, Option, Some, List, [], ◌∷◌, ◌++◌, length, map, take, drop, slice_get, Result, Ok, Err}
use Rattle.std.specs.List.{flat_map}
use Rattle.recording.specs.declared.chain.OrderFault.{OrderFault}
use Rattle.recording.specs.declared.chain.OrderFault.TheVariants.{Memory, Order}
use Rattle.recording.specs.declared.chain.RecordedChain.{RecordedChain as HeldChain}
use Rattle.recording.specs.declared.chain.RecordedHop.{RecordedHop as HeldHop}
use Rattle.recording.specs.declared.limits.TheConstants.{MAX_HOPS}
use Rattle.recording.specs.Chains.{Subject, RecordedHop, RecordedChain, moment_items, related_items, message_item, hop_items, chain_items}
use Rattle.recording.specs.Items.{Body, Kind, PlacedItem, moment, stored}
use Rattle.recording.specs.RecordedChains.{IsHeldChain, IsOrderCause, hop_meant}
use Rattle.recording.specs.Recordings.{bodies}

-- the chain, or why there is none
abbrev pub SaysOrder : List PlacedItem → Result HeldChain OrderFault → Type 0
SaysOrder items (Ok chain) = IsHeldChain items chain
SaysOrder items (Err Memory) = ⊤
SaysOrder items (Err fault) = IsOrderCause items fault

-- ---- items that don't come in order

-- the items are those of hops
abbrev pub AreHops : Subject → List Body → Type 0
AreHops subject items =
    (hops : List RecordedHop) × (items ≡ flat_map (hop_items subject) hops)

-- the items are those of a chain after its moment
abbrev pub AreAfterMoment : List Body → Type 0
AreAfterMoment items = (subject : Subject) × (text : List ℕ) × (hops : List RecordedHop)
    × (items ≡ related_items subject ++ (message_item subject text
    ∷ flat_map (hop_items subject) hops))

-- the items are those of a chain
abbrev pub AreChain : List Body → Type 0
AreChain items = (chain : RecordedChain) × (items ≡ chain_items chain)

-- Items have an order of which the fact holds up to those that are left, but not with the next of
-- them; and where none is left, they end too early.
pub record Stops (AreInOrder : List Body → Type 0) (items left : List Body) : Type 0 where
  pub taken : List Body
  pub joined : items ≡ taken ++ left
  pub more : List Body
  pub begins : AreInOrder (taken ++ more)
  pub next : (body : Body) (others rest : List Body) → left ≡ body ∷ others
      → ¬ AreInOrder (taken ++ (body ∷ rest))
  pub end : left ≡ [] → ¬ AreInOrder taken

-- ---- items one by one

-- the items of a recording, and how many of them were taken
pub record HeldItems : Type 0 where
  pub items : List PlacedItem
  pub taken : ℕ

-- the next item and those after it, and the offset of the item that was taken last
pub record AreAhead (held : HeldItems) (next : Option PlacedItem) (later : List PlacedItem)
    (last : ℕ) : Type 0 where
  pub few : length held.items < 2 ^ 63
  pub within : held.taken ≤ length held.items
  pub next_is : slice_get held.items held.taken ≡ next
  pub later_are : drop (held.taken + 1) held.items ≡ later
  pub last_is : 0 < held.taken → (item : PlacedItem)
      × (slice_get held.items (held.taken - 1) ≡ Some item) × (last ≡ item.offset)

-- what the items say that weren't taken
abbrev pub bodies_left : HeldItems → List Body
bodies_left left = drop left.taken (bodies left.items)

-- a moment
abbrev pub IsMoment : Body → Type 0
IsMoment body = (seconds : ℕ) × (body ≡ moment seconds)

-- bytes of this kind
abbrev pub HasKind : Kind → Body → Type 0
HasKind kind body = (text : List ℕ) × (body ≡ stored kind text)

-- the item that says this is taken
pub record Takes (body : Body) (was now : HeldItems) : Type 0 where
  pub items : now.items ≡ was.items
  pub taken : now.taken ≡ was.taken + 1
  pub next : bodies_left was ≡ body ∷ bodies_left now

-- there is no next item that is such
abbrev pub LacksNext : (Body → Type 0) → List Body → Type 0
LacksNext IsSuch left =
    (body : Body) (others : List Body) → left ≡ body ∷ others → ¬ IsSuch body

-- nothing is taken, and there is no next item that is such
pub record TakesNone (IsSuch : Body → Type 0) (was now : HeldItems) : Type 0 where
  pub same : now ≡ was
  pub lacks : LacksNext IsSuch (bodies_left was)

-- the fault is that of the next item, or of the last, where none is left
pub record IsAfter (left : HeldItems) (fault : OrderFault) : Type 0 where
  pub index : ℕ
  pub item : PlacedItem
  pub there : slice_get left.items index ≡ Some item
  pub fault_is : fault ≡ Order item.offset
  pub next : left.taken < length left.items → index ≡ left.taken
  pub last : length left.items ≤ left.taken → index + 1 ≡ length left.items

-- the items aren't in order where they stop
pub record StopsAt (AreInOrder : List Body → Type 0) (was now : HeldItems) : Type 0 where
  pub items : now.items ≡ was.items
  pub stops : Stops AreInOrder (bodies_left was) (bodies_left now)

-- the items of the request that is answered, if any, and of the first message are taken
pub record TakesFirst (subject : Subject) (text : List ℕ) (was now : HeldItems) : Type 0 where
  pub items : now.items ≡ was.items
  pub first : bodies_left was
      ≡ related_items subject ++ (message_item subject text ∷ bodies_left now)
  pub taken : now.taken ≡ was.taken + length (related_items subject) + 1

-- the items of the hop are taken
pub record IsNextHop (subject : Subject) (hop : HeldHop) (was now : HeldItems) : Type 0 where
  pub items : now.items ≡ was.items
  pub first : bodies_left was ≡ hop_items subject (hop_meant hop) ++ bodies_left now
  pub item : hop.item ≡ was.taken + length (moment_items hop.moment)
  pub taken : now.taken ≡ hop.item + 2

-- the items of some hops are taken: these, and more where they are too many
pub record AreHopsOf (subject : Subject) (hops : List HeldHop) (is_long : Bool)
    (was now : HeldItems) : Type 0 where
  pub items : now.items ≡ was.items
  pub all : List RecordedHop
  pub are : bodies_left was ≡ flat_map (hop_items subject) all ++ bodies_left now
  pub taken : now.taken ≡ was.taken + length (flat_map (hop_items subject) all)
  pub kept : map hop_meant hops ≡ take MAX_HOPS all
  pub places : (index : ℕ) (hop : HeldHop) → slice_get hops index ≡ Some hop
      → hop.item ≡ was.taken + length (flat_map (hop_items subject) (take index all))
      + length (moment_items hop.moment)
  pub long : is_long ≡ true → MAX_HOPS < length all
  pub few : is_long ≡ false → length all ≤ MAX_HOPS

-- the items of all hops are taken, or they aren't in order, or it is out of memory
abbrev pub SaysHops : Subject → HeldItems → HeldItems → Result (List HeldHop × Bool) OrderFault
    → Type 0
SaysHops subject was now (Ok (hops, is_long)) =
    AreHopsOf subject hops is_long was now × (bodies_left now ≡ [])
SaysHops subject was now (Err Memory) = ⊤
SaysHops subject was now (Err fault) = StopsAt (AreHops subject) was now × IsAfter now fault
