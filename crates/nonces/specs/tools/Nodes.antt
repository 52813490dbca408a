-- Nodes of a book and what they hold. No public clause cites this.
use Rattle.std.specs.Prelude.{◌≡◌, ◌<◌, ℕ, zero, suc, Bool, true, false, Option, Some, None, List, [], ◌∷◌, ◌++◌, length, map, cond, slice_index_or, slice_set}
use Rattle.nonces.specs.Books.{Entry, is_of}
use Rattle.nonces.specs.Buckets.{IsLeastPowerOfTwo, bucket_of, is_in_bucket}
use Rattle.nonces.specs.tools.Links.{IsChainOf, IsListOf}
use Rattle.nonces.specs.declared.arrays.Node.{Node}

-- ---- what is held

-- what nodes hold: an entry or none, and a link to a node of the same list
pub record Held : Type 0 where
  pub entries : List (Option Entry)
  pub links : List (Option ℕ)

-- the entries
abbrev pub entries_in : List (Option Entry) → List Entry
entries_in [] = []
entries_in (None ∷ rest) = entries_in rest
entries_in (Some entry ∷ rest) = entry ∷ entries_in rest

abbrev pub entries_of : Held → List Entry
entries_of held = entries_in held.entries

abbrev pub link_at : Held → ℕ → Option ℕ
link_at held index = slice_index_or held.links index None

-- an entry is at the index and passes the test
abbrev pub Holds : (Entry → Bool) → List (Option Entry) → ℕ → Type 0
Holds test entries index =
    (entry : Entry) × (slice_index_or entries index None ≡ Some entry) × (test entry ≡ true)

-- no entry is at the index
abbrev pub IsSpare : List (Option Entry) → ℕ → Type 0
IsSpare entries index = (index < length entries) × (slice_index_or entries index None ≡ None)

abbrev pub holds_of : List ℕ → List ℕ → Option Entry → Bool
holds_of keyid nonce None = false
holds_of keyid nonce (Some entry) = is_of keyid nonce entry

-- nothing, where the entry passes the test
abbrev pub let_go : (Entry → Bool) → Option Entry → Option Entry
let_go test None = None
let_go test (Some entry) = cond (test entry) None (Some entry)

-- an entry was put into a free node, which is linked to another
pub record IsPut (old new : Held) (index : ℕ) (entry : Entry) (after : Option ℕ) : Type 0 where
  pub spare : IsSpare old.entries index
  pub entries : new.entries ≡ slice_set old.entries index (Some entry)
  pub link : link_at new index ≡ after
  pub links : (i : ℕ) → (i ≡ index → ⊥) → link_at new i ≡ link_at old i

-- ---- nodes

-- what is at an index that no node has
abbrev pub no_node : Node
no_node = record { entry = None; bucket = 0; next = None; previous = None; after = None }

abbrev pub node_at : List Node → ℕ → Node
node_at nodes index = slice_index_or nodes index no_node

abbrev pub entry_in : Node → Option Entry
entry_in node = node.entry

abbrev pub after_in : Node → Option ℕ
after_in node = node.after

abbrev pub held_of : List Node → Held
held_of nodes = record { entries = map entry_in nodes; links = map after_in nodes }

abbrev pub next_at : List Node → ℕ → Option ℕ
next_at nodes index = (node_at nodes index).next

abbrev pub previous_at : List Node → ℕ → Option ℕ
previous_at nodes index = (node_at nodes index).previous

abbrev pub after_at : List Node → ℕ → Option ℕ
after_at nodes index = (node_at nodes index).after

-- the index of the last of so many nodes
abbrev pub last_of : ℕ → Option ℕ
last_of zero = None
last_of (suc count) = Some count

-- so many free nodes, each linked to the one before it
abbrev pub free_nodes : ℕ → List Node
free_nodes zero = []
free_nodes (suc count) = free_nodes count ++ record no_node { after = last_of count } ∷ []

-- the nodes with another one in the place of one, where there is one
abbrev pub changed_at : List Node → Option ℕ → (Node → Node) → List Node
changed_at nodes None change = nodes
changed_at nodes (Some index) change = slice_set nodes index (change (node_at nodes index))

-- the nodes with another link to the next, where there is a node
abbrev pub with_next : List Node → Option ℕ → Option ℕ → List Node
with_next nodes from next = changed_at nodes from (λ node. record node { next = next })

-- the nodes with another link to the previous, where there is a node
abbrev pub with_previous : List Node → Option ℕ → Option ℕ → List Node
with_previous nodes from previous =
    changed_at nodes from (λ node. record node { previous = previous })

-- the heads with another one, where no node is before it
abbrev pub with_head : List (Option ℕ) → ℕ → Option ℕ → Option ℕ → List (Option ℕ)
with_head heads bucket None head = slice_set heads bucket head
with_head heads bucket (Some previous) head = heads

-- the chain from this head has exactly the nodes whose entries are in the bucket, of so many
abbrev pub IsBucket : List Node → ℕ → Option ℕ → ℕ → Type 0
IsBucket nodes buckets head bucket =
    IsChainOf (next_at nodes) (previous_at nodes) head
    (Holds (is_in_bucket buckets bucket) (map entry_in nodes))

-- each node knows the bucket of its entry
abbrev pub KnowsBucket : List Node → ℕ → Type 0
KnowsBucket nodes buckets =
    (index : ℕ) (entry : Entry) → slice_index_or (map entry_in nodes) index None ≡ Some entry
    → (node_at nodes index).bucket ≡ bucket_of buckets entry.keyid entry.nonce

-- what holds of the nodes, the heads of their chains, the first free node and how many entries
-- there are
pub record IsStore (nodes : List Node) (heads : List (Option ℕ)) (free : Option ℕ) (len : ℕ)
    : Type 0 where
  pub chains : (bucket : ℕ) → bucket < length heads
      → IsBucket nodes (length heads) (slice_index_or heads bucket None) bucket
  pub spare : IsListOf (after_at nodes) free (IsSpare (map entry_in nodes))
  pub own : KnowsBucket nodes (length heads)
  pub count : IsLeastPowerOfTwo (length nodes) (length heads)
  pub some : 0 < length heads
  pub counted : len ≡ length (entries_in (map entry_in nodes))
