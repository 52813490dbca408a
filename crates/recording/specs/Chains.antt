-- The order of a recorded chain: a message at a moment, and then for each hop a script and the
-- message that came out.
use Rattle.std.specs.Prelude.{◌≡◌, ℕ, ◌+◌, Option, Some, None, List, [], ◌∷◌, ◌++◌, length, take, slice_get}
use Rattle.std.specs.List.{flat_map}
use Rattle.recording.specs.declared.item.Role.{Role}
use Rattle.recording.specs.declared.item.Role.TheVariants.{Request, Response, Related}
use Rattle.recording.specs.Items.{Body, moment, stored, message, script, PlacedItem}
use Rattle.recording.specs.Recordings.{bodies}

-- what the messages of a chain are: requests, or responses, with the request that they answer where
-- it is recorded
pub data Subject : Type 0 where
  requests : Subject
  responses : Option (List ℕ) → Subject

-- the role of a chain's messages
abbrev pub role_of : Subject → Role
role_of requests = Request
role_of (responses related) = Response

-- a hop as it is recorded: a moment, where it has one, the script, and the message that came out
pub record RecordedHop : Type 0 where
  pub moment : Option ℕ
  pub script : List ℕ
  pub message : List ℕ

-- a chain as it is recorded: a moment, what its messages are, the first one, and the hops
pub record RecordedChain : Type 0 where
  pub moment : ℕ
  pub subject : Subject
  pub first : List ℕ
  pub hops : List RecordedHop

-- ---- the items

-- the item of a moment, where there is one
abbrev pub moment_items : Option ℕ → List Body
moment_items None = []
moment_items (Some seconds) = moment seconds ∷ []

-- the item of the request that the messages answer, where it is recorded
abbrev pub related_items : Subject → List Body
related_items requests = []
related_items (responses None) = []
related_items (responses (Some text)) = stored (message Related) text ∷ []

-- the item of a message of the chain
abbrev pub message_item : Subject → List ℕ → Body
message_item requests text = stored (message Request) text
message_item (responses related) text = stored (message Response) text

-- the items of a hop
abbrev pub hop_items : Subject → RecordedHop → List Body
hop_items subject hop = moment_items hop.moment
    ++ (stored script hop.script ∷ message_item subject hop.message ∷ [])

-- the items of a chain, in their order
abbrev pub chain_items : RecordedChain → List Body
chain_items chain = moment chain.moment ∷ (related_items chain.subject
    ++ (message_item chain.subject chain.first ∷ flat_map (hop_items chain.subject) chain.hops))

-- the items are those of the chain
abbrev pub IsChain : List PlacedItem → RecordedChain → Type 0
IsChain items chain = bodies items ≡ chain_items chain

-- the items are those of a chain of which the fact holds
abbrev pub OfChain : List PlacedItem → (RecordedChain → Type 0) → Type 0
OfChain items Fact = (chain : RecordedChain) × IsChain items chain × Fact chain

-- ---- items in another order

-- some chain begins with items that say this
abbrev pub BeginsChain : List PlacedItem → Type 0
BeginsChain items =
    (more : List Body) × (chain : RecordedChain) × (bodies items ++ more ≡ chain_items chain)

-- The items are those of no chain. The offset is that of the first item up to and with which they
-- begin none, or of the last, where they only end too early.
pub record IsOrderFault (items : List PlacedItem) (offset : ℕ) : Type 0 where
  pub none : (chain : RecordedChain) → ¬ IsChain items chain
  pub index : ℕ
  pub item : PlacedItem
  pub there : slice_get items index ≡ Some item
  pub place : offset ≡ item.offset
  pub begins : BeginsChain (take index items)
  pub last : BeginsChain (take (index + 1) items) → index + 1 ≡ length items
