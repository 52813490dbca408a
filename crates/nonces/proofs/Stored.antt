-- Nodes in chains and in the free list: what holds goes on to hold where an entry is added or is
-- let go of.
use Rattle.std.proofs.Common.{◌≡◌, ◌<◌, ◌≤◌, ℕ, zero, suc, ◌+◌, ◌-◌, Bool, true, false, cond, nat_eq, nat_lt, ◌⊎◌, inl, inr, ◌↔◌, Option, Some, None, IfSome, List, [], ◌∷◌, ◌++◌, length, map, set, get_or, replicate, refl, sym, ◌∙◌, ap, subst, arith}
use Rattle.std.specs.List.{count_by}
use Rattle.std.proofs.lemmas.Bool.{cases_Bool, eq-eqb, eqb-true, eqb-false, false≢true, ltb-false, ltb-true, ne_eqb}
use Rattle.std.proofs.lemmas.Grind.{get_or-set_at}
use Rattle.std.proofs.lemmas.List.{get_or-replicate, get_or-set_other, get_or-set_same, get_or_at, get_or_past, length-map, length-replicate, length-set, map-append, map-set, replicate-append-replicate}
use Rattle.std.proofs.lemmas.Nat.{mod_below}
use Rattle.std.proofs.Math.ListN.{get_or-append, get_or-map}
use Rattle.std.proofs.Math.Seq.{map-set_same}
use Rattle.nonces.specs.Books.{Entry, is_of, is_seen}
use Rattle.nonces.specs.Buckets.{IsLeastPowerOfTwo, bucket_of, is_in_bucket}
use Rattle.nonces.specs.declared.arrays.Node.{Node}
use Rattle.nonces.specs.tools.Links.{IsIn, IsLinked, IsListOf}
use Rattle.nonces.specs.tools.Nodes.{Held, Holds, IsBucket, IsSpare, IsStore, KnowsBucket, after_at, after_in, changed_at, entries_in, entries_of, entry_in, free_nodes, held_of, holds_of, last_of, link_at, next_at, no_node, node_at, previous_at, with_head, with_next, with_previous}
use Rattle.nonces.proofs.Entries.{all_held, at_seen, below_length, fits_count, holds_alike, holds_less, holds_more, holds_same, length_in, length_out, same_or_not, seen_at, spare_less, spare_more}
use Rattle.nonces.proofs.Held.{of_itself}
use Rattle.nonces.proofs.Linked.{empty_list, first_member, head_without, next_member, no_member, none_of, popped_list, previous_member, pushed_chain, pushed_list, redirect, redirect_here, redirect_other, stays_chain, stays_list, unlinked_chain}

-- ---- nodes of which one changes

pub map_changed : {X : Type 0} (f : Node → X) (change : Node → Node) → ((n : Node) → f (change n) ≡ f n) → (nodes : List Node) (from : Option ℕ) → map f (changed_at nodes from change) ≡ map f nodes
map_changed f change same nodes None = refl
map_changed f change same nodes (Some i) = map-set_same f nodes i (change (node_at nodes i)) no_node (same (node_at nodes i))

pub length_changed : (change : Node → Node) (nodes : List Node) (from : Option ℕ) → length (changed_at nodes from change) ≡ length nodes
length_changed change nodes None = refl
length_changed change nodes (Some i) = length-set nodes i (change (node_at nodes i))

pub node_changed : {X : Type 0} (f : Node → X) (change : Node → Node) → ((n : Node) → f (change n) ≡ f n) → (nodes : List Node) (from : Option ℕ) (j : ℕ) → f (node_at (changed_at nodes from change) j) ≡ f (node_at nodes j)
node_changed f change same nodes from j =
    sym (get_or-map f (changed_at nodes from change) j no_node)
    ∙ ap (λ l. get_or l j (f no_node)) (map_changed f change same nodes from)
    ∙ get_or-map f nodes j no_node

pub redirected : (f : Node → Option ℕ) (change : Node → Node) (to : Option ℕ) → ((n : Node) → f (change n) ≡ to) → (nodes : List Node) (from : Option ℕ) → IfSome from (λ i. i < length nodes) → (j : ℕ)
    → f (node_at (changed_at nodes from change) j) ≡ redirect (λ k. f (node_at nodes k)) from to j
redirected f change to is nodes None lt j = refl
redirected f change to is nodes (Some i) lt j = elim (cases_Bool (nat_eq i j)) [
  | inl same ↦ rw same (ap f (get_or-set_at nodes i j (change (node_at nodes i)) no_node (sym (eqb-true i j same)) lt) ∙ is (node_at nodes i))
  | inr other ↦ rw other (ap f (get_or-set_other nodes i j (change (node_at nodes i)) no_node (λ same. eqb-false i j other (sym same))))
]

redirect_alike : (f g : ℕ → Option ℕ) (from to : Option ℕ) (j : ℕ) → f j ≡ g j → redirect f from to j ≡ redirect g from to j
redirect_alike f g None to j same = same
redirect_alike f g (Some i) to j same = ap (λ x. cond (nat_eq i j) to x) same

some_same : (i j : ℕ) → Some i ≡ Some j → j ≡ i
some_same i j same = cc

if_some : (o : Option ℕ) (P : ℕ → Type 0) → ((z : ℕ) → o ≡ Some z → P z) → IfSome o P
if_some None P each = tt
if_some (Some z) P each = each z refl

-- ---- heads of which one changes

head_here : (heads : List (Option ℕ)) (k : ℕ) (o next : Option ℕ) → k < length heads → get_or (with_head heads k o next) k None ≡ head_without o next (get_or heads k None)
head_here heads k None next lt = get_or-set_same heads k next None lt
head_here heads k (Some i) next lt = refl

head_other : (heads : List (Option ℕ)) (k j : ℕ) (o next : Option ℕ) → (k ≡ j → ⊥) → get_or (with_head heads k o next) j None ≡ get_or heads j None
head_other heads k j None next other = get_or-set_other heads k j next None (λ same. other (sym same))
head_other heads k j (Some i) next other = refl

length_head : (heads : List (Option ℕ)) (k : ℕ) (o next : Option ℕ) → length (with_head heads k o next) ≡ length heads
length_head heads k None next = length-set heads k next
length_head heads k (Some i) next = refl

-- ---- buckets

one_bucket : (b k l : ℕ) (os : List (Option Entry)) (i : ℕ) → Holds (is_in_bucket b k) os i → Holds (is_in_bucket b l) os i → k ≡ l
one_bucket b k l os i one two =
    let same : one.0 ≡ two.0 = (let x = one.1 in let y = two.1 in cc) in
    sym (eqb-true (bucket_of b one.0.keyid one.0.nonce) k one.2)
    ∙ ap (λ e. bucket_of b e.keyid e.nonce) same
    ∙ eqb-true (bucket_of b two.0.keyid two.0.nonce) l two.2

pub own_bucket : (nodes : List Node) (heads : List (Option ℕ)) (free : Option ℕ) (len i : ℕ) → IsStore nodes heads free len
    → Holds (λ _. true) (map entry_in nodes) i
    → ((node_at nodes i).bucket < length heads) × Holds (is_in_bucket (length heads) (node_at nodes i).bucket) (map entry_in nodes) i
own_bucket nodes heads free len i store held =
    let e = held.0 in
    let own = store.own i e held.1 in (
      subst (λ k. k < length heads) (sym own) (mod_below _ (length heads) store.some),
      (e, held.1, eq-eqb (bucket_of (length heads) e.keyid e.nonce) (node_at nodes i).bucket (sym own)),
    )

pub neighbours : (nodes : List Node) (heads : List (Option ℕ)) (free : Option ℕ) (len i : ℕ) → IsStore nodes heads free len
    → Holds (λ _. true) (map entry_in nodes) i
    → (i < length nodes) × IfSome (previous_at nodes i) (λ z. z < length nodes) × IfSome (next_at nodes i) (λ z. z < length nodes)
neighbours nodes heads free len i store held =
    let os = map entry_in nodes in
    let own = own_bucket nodes heads free len i store held in
    let k = (node_at nodes i).bucket in
    let chain = store.chains k own.0 in
    let member = Holds (is_in_bucket (length heads) k) os in
    let within : (z : ℕ) → member z → z < length nodes = λ z there.
    subst (λ n. z < n) (length-map nodes entry_in) (below_length os z there.0 there.1) in (
      within i own.1,
      if_some (previous_at nodes i) (λ z. z < length nodes) (
          λ z is. within z (previous_member (next_at nodes) (previous_at nodes) (get_or heads k None) member i z own.1 is chain)
          ),
      if_some (next_at nodes i) (λ z. z < length nodes) (
          λ z is. within z (next_member (next_at nodes) (get_or heads k None) member i z own.1 is chain.list)
          ),
    )

-- ---- an entry is let go of

-- the nodes without the entry of one, which becomes the first free node
abbrev pub released_nodes : List Node → ℕ → Option ℕ → List Node
released_nodes nodes i free =
    changed_at
    (with_previous (with_next nodes (previous_at nodes i) (next_at nodes i)) (next_at nodes i) (previous_at nodes i))
    (Some i)
    (λ node. record node { entry = None; after = free })

pub released_entries : (nodes : List Node) (i : ℕ) (free : Option ℕ) → map entry_in (released_nodes nodes i free) ≡ set (map entry_in nodes) i None
released_entries nodes i free =
    let one = with_next nodes (previous_at nodes i) (next_at nodes i) in
    let two = with_previous one (next_at nodes i) (previous_at nodes i) in
    map-set entry_in two i (record (node_at two i) { entry = None; after = free })
    ∙ ap (λ l. set l i None) (
    map_changed entry_in (λ node. record node { previous = previous_at nodes i }) (λ _. refl) one (next_at nodes i)
    ∙ map_changed entry_in (λ node. record node { next = next_at nodes i }) (λ _. refl) nodes (previous_at nodes i)
    )

-- a part of a node that neither its links in the chain nor its release change
released_part : {X : Type 0} (f : Node → X) (nodes : List Node) (i : ℕ) (free : Option ℕ) (j : ℕ)
    → ((n : Node) → f (record n { entry = None; after = free }) ≡ f n)
    → ((n : Node) → f (record n { previous = previous_at nodes i }) ≡ f n)
    → ((n : Node) → f (record n { next = next_at nodes i }) ≡ f n)
    → f (node_at (released_nodes nodes i free) j) ≡ f (node_at nodes j)
released_part f nodes i free j same_free same_previous same_next =
    let one = with_next nodes (previous_at nodes i) (next_at nodes i) in
    let two = with_previous one (next_at nodes i) (previous_at nodes i) in
    node_changed f (λ node. record node { entry = None; after = free }) same_free two (Some i) j
    ∙ node_changed f (λ node. record node { previous = previous_at nodes i }) same_previous one (next_at nodes i) j
    ∙ node_changed f (λ node. record node { next = next_at nodes i }) same_next nodes (previous_at nodes i) j

pub released_after : (nodes : List Node) (i : ℕ) (free : Option ℕ) (j : ℕ) → i < length nodes → after_at (released_nodes nodes i free) j ≡ redirect (after_at nodes) (Some i) free j
released_after nodes i free j lt =
    let one = with_next nodes (previous_at nodes i) (next_at nodes i) in
    let two = with_previous one (next_at nodes i) (previous_at nodes i) in
    let same : length two ≡ length nodes =
    length_changed (λ node. record node { previous = previous_at nodes i }) one (next_at nodes i)
    ∙ length_changed (λ node. record node { next = next_at nodes i }) nodes (previous_at nodes i) in
    redirected (λ n. n.after) (λ node. record node { entry = None; after = free }) free (λ _. refl) two (Some i)
    (subst (λ n. i < n) (sym same) lt) j
    ∙ redirect_alike (after_at two) (after_at nodes) (Some i) free j (
    node_changed (λ n. n.after) (λ node. record node { previous = previous_at nodes i }) (λ _. refl) one (next_at nodes i) j
    ∙ node_changed (λ n. n.after) (λ node. record node { next = next_at nodes i }) (λ _. refl) nodes (previous_at nodes i) j
    )

released_next : (nodes : List Node) (i : ℕ) (free : Option ℕ) (j : ℕ) → IfSome (previous_at nodes i) (λ z. z < length nodes)
    → next_at (released_nodes nodes i free) j ≡ redirect (next_at nodes) (previous_at nodes i) (next_at nodes i) j
released_next nodes i free j lt =
    let one = with_next nodes (previous_at nodes i) (next_at nodes i) in
    let two = with_previous one (next_at nodes i) (previous_at nodes i) in
    node_changed (λ n. n.next) (λ node. record node { entry = None; after = free }) (λ _. refl) two (Some i) j
    ∙ node_changed (λ n. n.next) (λ node. record node { previous = previous_at nodes i }) (λ _. refl) one (next_at nodes i) j
    ∙ redirected (λ n. n.next) (λ node. record node { next = next_at nodes i }) (next_at nodes i) (λ _. refl) nodes
    (previous_at nodes i) lt j

released_previous : (nodes : List Node) (i : ℕ) (free : Option ℕ) (j : ℕ) → IfSome (next_at nodes i) (λ z. z < length nodes)
    → previous_at (released_nodes nodes i free) j ≡ redirect (previous_at nodes) (next_at nodes i) (previous_at nodes i) j
released_previous nodes i free j lt =
    let one = with_next nodes (previous_at nodes i) (next_at nodes i) in
    let two = with_previous one (next_at nodes i) (previous_at nodes i) in
    let same : length one ≡ length nodes =
    length_changed (λ node. record node { next = next_at nodes i }) nodes (previous_at nodes i) in
    node_changed (λ n. n.previous) (λ node. record node { entry = None; after = free }) (λ _. refl) two (Some i) j
    ∙ redirected (λ n. n.previous) (λ node. record node { previous = previous_at nodes i }) (previous_at nodes i) (λ _. refl) one
    (next_at nodes i) (subst (λ n. IfSome (next_at nodes i) (λ z. z < n)) (sym same) lt) j
    ∙ redirect_alike (previous_at one) (previous_at nodes) (next_at nodes i) (previous_at nodes i) j (
    node_changed (λ n. n.previous) (λ node. record node { next = next_at nodes i }) (λ _. refl) nodes (previous_at nodes i) j
    )

released_length : (nodes : List Node) (i : ℕ) (free : Option ℕ) → length (released_nodes nodes i free) ≡ length nodes
released_length nodes i free =
    let one = with_next nodes (previous_at nodes i) (next_at nodes i) in
    let two = with_previous one (next_at nodes i) (previous_at nodes i) in
    length_changed (λ node. record node { entry = None; after = free }) two (Some i)
    ∙ length_changed (λ node. record node { previous = previous_at nodes i }) one (next_at nodes i)
    ∙ length_changed (λ node. record node { next = next_at nodes i }) nodes (previous_at nodes i)

released_bucket : (nodes : List Node) (heads : List (Option ℕ)) (free : Option ℕ) (len i : ℕ) → IsStore nodes heads free len
    → Holds (λ _. true) (map entry_in nodes) i
    → (l : ℕ) → l < length heads
    → IsBucket (released_nodes nodes i free) (length heads)
    (get_or (with_head heads (node_at nodes i).bucket (previous_at nodes i) (next_at nodes i)) l None) l
released_bucket nodes heads free len i store held l lt =
    let os = map entry_in nodes in
    let new = released_nodes nodes i free in
    let b = length heads in
    let k = (node_at nodes i).bucket in
    let own = own_bucket nodes heads free len i store held in
    let near = neighbours nodes heads free len i store held in
    let within = below_length os i held.0 held.1 in
    let nexts = λ (j : ℕ). released_next nodes i free j near.1 in
    let previouses = λ (j : ℕ). released_previous nodes i free j near.2 in
    elim (same_or_not k l) [
      | inl same ↦
          let mine =
          unlinked_chain (next_at nodes) (next_at new) (previous_at nodes) (previous_at new) (get_or heads k None) (Holds (is_in_bucket b k) os)
          (Holds (is_in_bucket b k) (map entry_in new)) i own.1 (λ j _. nexts j) (λ j _. previouses j) (
          λ j.
          subst (λ l. (Holds (is_in_bucket b k) os j × (j ≡ i → ⊥)) ↔ Holds (is_in_bucket b k) l j)
          (sym (released_entries nodes i free)) (holds_less (is_in_bucket b k) os i j within)
          ) (store.chains k own.0) in
          subst (λ l. IsBucket new b (get_or (with_head heads k (previous_at nodes i) (next_at nodes i)) l None) l) same (
          subst (λ h. IsBucket new b h k) (sym (head_here heads k (previous_at nodes i) (next_at nodes i) own.0)) mine
          )
      | inr other ↦
          let chain = store.chains l lt in
          let mine = store.chains k own.0 in
          let apart : (j : ℕ) → Holds (is_in_bucket b l) os j → Holds (is_in_bucket b k) os j → ⊥ = λ j two one. other (one_bucket b k l os j one two) in
          let theirs =
          stays_chain (next_at nodes) (next_at new) (previous_at nodes) (previous_at new) (get_or heads l None) (Holds (is_in_bucket b l) os)
          (Holds (is_in_bucket b l) (map entry_in new)) (
          λ j there.
          nexts j
          ∙ redirect_other (next_at nodes) (previous_at nodes i) (next_at nodes i) j (
          λ to. apart j there (previous_member (next_at nodes) (previous_at nodes) (get_or heads k None) (Holds (is_in_bucket b k) os) i j own.1 to mine)
          )
          ) (
          λ j there.
          previouses j
          ∙ redirect_other (previous_at nodes) (next_at nodes i) (previous_at nodes i) j (
          λ to. apart j there (next_member (next_at nodes) (get_or heads k None) (Holds (is_in_bucket b k) os) i j own.1 to mine.list)
          )
          ) (
          λ j.
          subst (λ l2. Holds (is_in_bucket b l) os j ↔ Holds (is_in_bucket b l) l2 j)
          (sym (released_entries nodes i free)) (holds_same (is_in_bucket b l) os i j within (λ there. apart i there own.1))
          ) chain in
          subst (λ h. IsBucket new b h l) (sym (head_other heads k l (previous_at nodes i) (next_at nodes i) other)) theirs
    ]

pub released : (nodes : List Node) (heads : List (Option ℕ)) (free : Option ℕ) (len i : ℕ) → IsStore nodes heads free len
    → Holds (λ _. true) (map entry_in nodes) i
    → IsStore (released_nodes nodes i free)
    (with_head heads (node_at nodes i).bucket (previous_at nodes i) (next_at nodes i)) (Some i) (len - 1)
released nodes heads free len i store held =
    let os = map entry_in nodes in
    let new = released_nodes nodes i free in
    let k = (node_at nodes i).bucket in
    let heads_new = with_head heads k (previous_at nodes i) (next_at nodes i) in
    let b : length heads ≡ length heads_new = sym (length_head heads k (previous_at nodes i) (next_at nodes i)) in
    let near = neighbours nodes heads free len i store held in
    let within = below_length os i held.0 held.1 in
    let is : map entry_in new ≡ set os i None = released_entries nodes i free in
    record {
      chains = subst (λ n. (l : ℕ) → l < n → IsBucket new n (get_or heads_new l None) l) b (released_bucket nodes heads free len i store held);
      spare =
          pushed_list (after_at nodes) (after_at new) free (IsSpare os) (IsSpare (map entry_in new)) i
          (λ spare. (let none = spare.1 in let some = held.1 in cc))
          (released_after nodes i free i near.0 ∙ redirect_here (after_at nodes) (Some i) free i refl) (
          λ j spare.
          released_after nodes i free j near.0
          ∙ redirect_other (after_at nodes) (Some i) free j (
          λ same. (
          let at : j ≡ i = some_same i j same in
          let none = subst (λ k. get_or os k None ≡ None) at spare.1 in
          let some = held.1 in
          cc
          )
          )
          ) (λ j. subst (λ l. ((i ≡ j) ⊎ IsSpare os j) ↔ IsSpare l j) (sym is) (spare_more os i j within)) store.spare;
      own = subst (KnowsBucket new) b (
          λ j e at.
          let old = subst (λ l. get_or l j None ≡ Some e) is at in
          let other : j ≡ i → ⊥ = λ same. (
          let some = subst (λ k. get_or (set os i None) k None ≡ Some e) same old in
          let none = get_or-set_same os i None None within in
          cc
          ) in
          released_part (λ n. n.bucket) nodes i free j (λ _. refl) (λ _. refl) (λ _. refl)
          ∙ store.own j e (sym (get_or-set_other os i j None None other) ∙ old)
          );
      count = rw (released_length nodes i free, ← b) store.count;
      some = rw (← b) store.some;
      counted = rw is (omega (arith, store.counted, length_out os i held.0 held.1));
    }

-- ---- an entry is added

-- the nodes with another in the place of one, which goes to the front of its chain
abbrev pub added_nodes : List Node → ℕ → Node → List Node
added_nodes nodes i node = with_previous (set nodes i node) node.next (Some i)

pub added_entries : (nodes : List Node) (i : ℕ) (node : Node) → map entry_in (added_nodes nodes i node) ≡ set (map entry_in nodes) i node.entry
added_entries nodes i node =
    map_changed entry_in (λ n. record n { previous = Some i }) (λ _. refl) (set nodes i node) node.next ∙ map-set entry_in nodes i node

pub added_other : {X : Type 0} (f : Node → X) (nodes : List Node) (i : ℕ) (node : Node) (j : ℕ)
    → ((n : Node) → f (record n { previous = Some i }) ≡ f n) → (j ≡ i → ⊥)
    → f (node_at (added_nodes nodes i node) j) ≡ f (node_at nodes j)
added_other f nodes i node j same other =
    node_changed f (λ n. record n { previous = Some i }) same (set nodes i node) node.next j
    ∙ ap f (get_or-set_other nodes i j node no_node other)

pub added_here : {X : Type 0} (f : Node → X) (nodes : List Node) (i : ℕ) (node : Node)
    → ((n : Node) → f (record n { previous = Some i }) ≡ f n) → i < length nodes
    → f (node_at (added_nodes nodes i node) i) ≡ f node
added_here f nodes i node same lt =
    node_changed f (λ n. record n { previous = Some i }) same (set nodes i node) node.next i
    ∙ ap f (get_or-set_same nodes i node no_node lt)

added_previous : (nodes : List Node) (i : ℕ) (node : Node) (j : ℕ) → IfSome node.next (λ z. z < length nodes)
    → previous_at (added_nodes nodes i node) j ≡ redirect (previous_at (set nodes i node)) node.next (Some i) j
added_previous nodes i node j lt =
    redirected (λ n. n.previous) (λ n. record n { previous = Some i }) (Some i) (λ _. refl) (set nodes i node) node.next
    (subst (λ n. IfSome node.next (λ z. z < n)) (sym (length-set nodes i node)) lt) j

added_length : (nodes : List Node) (i : ℕ) (node : Node) → length (added_nodes nodes i node) ≡ length nodes
added_length nodes i node =
    length_changed (λ n. record n { previous = Some i }) (set nodes i node) node.next ∙ length-set nodes i node

-- the node that an entry goes to
abbrev pub new_node : List (Option ℕ) → Entry → Option ℕ → Node
new_node heads entry after =
    let bucket = bucket_of (length heads) entry.keyid entry.nonce in
    record { entry = Some entry; bucket = bucket; next = get_or heads bucket None; previous = None; after = after }

-- the bucket, and the first node of its chain
pub entry_bucket : (nodes : List Node) (heads : List (Option ℕ)) (free : Option ℕ) (len : ℕ) (entry : Entry) → IsStore nodes heads free len
    → (bucket_of (length heads) entry.keyid entry.nonce < length heads)
    × IfSome (get_or heads (bucket_of (length heads) entry.keyid entry.nonce) None) (λ z. z < length nodes)
entry_bucket nodes heads free len entry store =
    let k = bucket_of (length heads) entry.keyid entry.nonce in
    let os = map entry_in nodes in
    let below : k < length heads = mod_below _ (length heads) store.some in (
      below,
      if_some (get_or heads k None) (λ z. z < length nodes) (
          λ z is.
          let there = first_member (next_at nodes) (get_or heads k None) (Holds (is_in_bucket (length heads) k) os) z is (store.chains k below).list in
          subst (λ n. z < n) (length-map nodes entry_in) (below_length os z there.0 there.1)
          ),
    )

-- the first free node
pub first_spare : (nodes : List Node) (heads : List (Option ℕ)) (free : Option ℕ) (len i : ℕ) → IsStore nodes heads free len → free ≡ Some i
    → IsSpare (map entry_in nodes) i × (i < length nodes)
first_spare nodes heads free len i store first =
    let spare = first_member (after_at nodes) free (IsSpare (map entry_in nodes)) i first store.spare in
    (spare, subst (λ n. i < n) (length-map nodes entry_in) spare.0)

pub not_spare : (test : Entry → Bool) (os : List (Option Entry)) (i j : ℕ) → IsSpare os i → Holds test os j → j ≡ i → ⊥
not_spare test os i j spare held same =
    let none = spare.1 in
    let some = subst (λ k. get_or os k None ≡ Some held.0) same held.1 in
    cc

added_bucket : (nodes : List Node) (heads : List (Option ℕ)) (free : Option ℕ) (len i : ℕ) (entry : Entry) (after : Option ℕ) → IsStore nodes heads free len
    → free ≡ Some i → (l : ℕ) → l < length heads
    → IsBucket (added_nodes nodes i (new_node heads entry after)) (length heads)
    (get_or (set heads (bucket_of (length heads) entry.keyid entry.nonce) (Some i)) l None) l
added_bucket nodes heads free len i entry after store first l lt =
    let os = map entry_in nodes in
    let node = new_node heads entry after in
    let new = added_nodes nodes i node in
    let b = length heads in
    let k = bucket_of b entry.keyid entry.nonce in
    let own = entry_bucket nodes heads free len entry store in
    let spare = first_spare nodes heads free len i store first in
    let mine = store.chains k own.0 in
    let head = get_or heads k None in
    let away : (test : Entry → Bool) (j : ℕ) → Holds test os j → j ≡ i → ⊥ = λ test j. not_spare test os i j spare.0 in
    let previouses : (j : ℕ) → (j ≡ i → ⊥) → previous_at new j ≡ redirect (previous_at nodes) head (Some i) j = λ j other.
    added_previous nodes i node j own.1
    ∙ redirect_alike (previous_at (set nodes i node)) (previous_at nodes) head (Some i) j
    (ap (λ n. n.previous) (get_or-set_other nodes i j node no_node other)) in
    let in_chain : (j : ℕ) → head ≡ Some j → Holds (is_in_bucket b k) os j = λ j is.
    first_member (next_at nodes) head (Holds (is_in_bucket b k) os) j is mine.list in
    elim (same_or_not k l) [
      | inl same ↦
          let chain =
          pushed_chain (next_at nodes) (next_at new) (previous_at nodes) (previous_at new) head (Holds (is_in_bucket b k) os)
          (Holds (is_in_bucket b k) (map entry_in new)) i (λ there. away (is_in_bucket b k) i there refl)
          (added_here (λ n. n.next) nodes i node (λ _. refl) spare.1)
          (λ j there. added_other (λ n. n.next) nodes i node j (λ _. refl) (away (is_in_bucket b k) j there)) (
          added_previous nodes i node i own.1
          ∙ redirect_other (previous_at (set nodes i node)) head (Some i) i (λ is. away (is_in_bucket b k) i (in_chain i is) refl)
          ∙ ap (λ n. n.previous) (get_or-set_same nodes i node no_node spare.1)
          ) (λ j there. previouses j (away (is_in_bucket b k) j there)) (
          λ j.
          subst (λ l. ((i ≡ j) ⊎ Holds (is_in_bucket b k) os j) ↔ Holds (is_in_bucket b k) l j)
          (sym (added_entries nodes i node)) (holds_more (is_in_bucket b k) os i j entry spare.0 (eq-eqb k k refl))
          ) mine in
          subst (λ l. IsBucket new b (get_or (set heads k (Some i)) l None) l) same (
          subst (λ h. IsBucket new b h k) (sym (get_or-set_same heads k (Some i) None own.0)) chain
          )
      | inr other ↦
          let chain =
          stays_chain (next_at nodes) (next_at new) (previous_at nodes) (previous_at new) (get_or heads l None) (Holds (is_in_bucket b l) os)
          (Holds (is_in_bucket b l) (map entry_in new))
          (λ j there. added_other (λ n. n.next) nodes i node j (λ _. refl) (away (is_in_bucket b l) j there)) (
          λ j there.
          previouses j (away (is_in_bucket b l) j there)
          ∙ redirect_other (previous_at nodes) head (Some i) j (λ is. other (one_bucket b k l os j (in_chain j is) there))
          ) (
          λ j.
          subst (λ l2. Holds (is_in_bucket b l) os j ↔ Holds (is_in_bucket b l) l2 j)
          (sym (added_entries nodes i node)) (holds_alike (is_in_bucket b l) os i j entry spare.0 (ne_eqb k l other))
          ) (store.chains l lt) in
          subst (λ h. IsBucket new b h l) (sym (get_or-set_other heads k l (Some i) None (λ same. other (sym same)))) chain
    ]

pub added : (nodes : List Node) (heads : List (Option ℕ)) (free : Option ℕ) (len i : ℕ) (entry : Entry) (after : Option ℕ) → IsStore nodes heads free len
    → free ≡ Some i
    → IsStore (added_nodes nodes i (new_node heads entry after))
    (set heads (bucket_of (length heads) entry.keyid entry.nonce) (Some i)) (after_at nodes i) (len + 1)
added nodes heads free len i entry after store first =
    let os = map entry_in nodes in
    let node = new_node heads entry after in
    let new = added_nodes nodes i node in
    let k = bucket_of (length heads) entry.keyid entry.nonce in
    let heads_new = set heads k (Some i) in
    let b : length heads ≡ length heads_new = sym (length-set heads k (Some i)) in
    let spare = first_spare nodes heads free len i store first in
    let is : map entry_in new ≡ set os i (Some entry) = added_entries nodes i node in
    record {
      chains =
          subst (λ n. (l : ℕ) → l < n → IsBucket new n (get_or heads_new l None) l) b
          (added_bucket nodes heads free len i entry after store first);
      spare =
          popped_list (after_at nodes) (after_at new) free (IsSpare os) (IsSpare (map entry_in new)) i first
          (λ j _ other. added_other (λ n. n.after) nodes i node j (λ _. refl) other)
          (λ j. subst (λ l. (IsSpare os j × (j ≡ i → ⊥)) ↔ IsSpare l j) (sym is) (spare_less os i j entry spare.0.0)) store.spare;
      own = subst (KnowsBucket new) b (
          λ j e at.
          let old = subst (λ l. get_or l j None ≡ Some e) is at in
          elim (same_or_not j i) [
            | inl same ↦
                let at_i = subst (λ k. get_or (set os i (Some entry)) k None ≡ Some e) same old in
                let here = get_or-set_same os i (Some entry) None spare.0.0 in
                let one : entry ≡ e = cc in
                ap (λ m. (node_at new m).bucket) same
                ∙ added_here (λ n. n.bucket) nodes i node (λ _. refl) spare.1
                ∙ ap (λ x. bucket_of (length heads) x.keyid x.nonce) one
            | inr other ↦
                added_other (λ n. n.bucket) nodes i node j (λ _. refl) other
                ∙ store.own j e (sym (get_or-set_other os i j (Some entry) None other) ∙ old)
          ]
          );
      count = rw (added_length nodes i node, ← b) store.count;
      some = rw (← b) store.some;
      counted = rw is (omega (arith, store.counted, length_in os i entry spare.0.0 spare.0.1));
    }

-- where no node is free, each holds an entry
pub no_spare : (nodes : List Node) (heads : List (Option ℕ)) (len : ℕ) → IsStore nodes heads None len
    → length (map entry_in nodes) ≤ length (entries_in (map entry_in nodes))
no_spare nodes heads len store =
    all_held (map entry_in nodes) (λ i. no_member (after_at nodes) (IsSpare (map entry_in nodes)) i store.spare)

-- ---- no entry yet

pub free_entries : (n : ℕ) → map entry_in (free_nodes n) ≡ replicate n None
free_entries zero = refl
free_entries (suc n) =
    map-append entry_in (free_nodes n) (record no_node { after = last_of n } ∷ [])
    ∙ ap (λ l. l ++ None ∷ []) (free_entries n)
    ∙ replicate-append-replicate n 1 None
    ∙ ap (λ k. replicate k None) (let e : n + 1 ≡ suc n = omega arith in e)

free_length : (n : ℕ) → length (free_nodes n) ≡ n
free_length n =
    sym (length-map (free_nodes n) entry_in) ∙ ap length (free_entries n) ∙ length-replicate n None

pub none_there : {X : Type 0} (n i : ℕ) → get_or (replicate {A = Option X} n None) i None ≡ None
none_there {X = X} n i = elim (cases_Bool (nat_lt i n)) [
  | inl below ↦ get_or-replicate n i None None (ltb-true i n below)
  | inr past ↦ get_or_past (replicate n None) i None (omega (arith, length-replicate {A = Option X} n None, ltb-false i n past))
]

none_held : (test : Entry → Bool) (n i : ℕ) → Holds test (map entry_in (free_nodes n)) i → ⊥
none_held test n i held =
    let at = subst (λ l. get_or l i None ≡ Some held.0) (free_entries n) held.1 in
    let none = none_there {X = Entry} n i in
    cc

free_list : (n : ℕ) → IsListOf (after_at (free_nodes n)) (last_of n) (λ i. i < n)
free_list zero = empty_list (after_at []) (λ i. i < 0) (λ i lt. absurd (omega (arith, lt)))
free_list (suc n) =
    let last = record no_node { after = last_of n } in
    pushed_list (after_at (free_nodes n)) (after_at (free_nodes (suc n))) (last_of n) (λ i. i < n) (λ i. i < suc n) n
    (λ lt. omega (arith, lt))
    (ap (λ x. x.after) (get_or_at (free_nodes n) last [] no_node n (free_length n)))
    (λ j lt. ap (λ x. x.after) (get_or-append (free_nodes n) (last ∷ []) no_node j (subst (λ m. j < m) (sym (free_length n)) lt)))
    (
    λ j. (
      λ there. elim there [ inl same ↦ omega (arith, same) | inr lt ↦ omega (arith, lt) ],
      λ lt. elim (same_or_not n j) [
        | inl same ↦ inl same
        | inr other ↦ inr (let e : j < n = omega (arith, lt, other) in e)
      ],
    )
    )
    (free_list n)

pub no_entries : (n : ℕ) → entries_in (replicate n None) ≡ []
no_entries zero = refl
no_entries (suc n) = no_entries n

pub opened : (n b : ℕ) → 1 ≤ n → IsLeastPowerOfTwo n b → IsStore (free_nodes n) (replicate b None) (Some (n - 1)) 0
opened zero b some power = absurd (omega (arith, some))
opened (suc n) b some power =
    let nodes = free_nodes (suc n) in
    let os = map entry_in nodes in
    let heads = replicate {A = Option ℕ} b None in
    let last : Some n ≡ Some (suc n - 1) = ap (λ k. Some k) (let e : n ≡ suc n - 1 = omega arith in e) in
    record {
      chains = λ l lt.
          let test = is_in_bucket (length heads) l in
          let none = λ (j : ℕ) (there : Holds test os j). none_held test (suc n) j there in
          subst (λ h. IsBucket nodes (length heads) h l) (sym (none_there {X = ℕ} b l))
          (record { list = record { places = []; linked = refl; distinct = tt; exact = λ j. (λ there. absurd there, none j) }; back = tt });
      spare =
          subst (λ h. IsListOf (after_at nodes) h (IsSpare os)) last (
          stays_list (after_at nodes) (after_at nodes) (Some n) (λ i. i < suc n) (IsSpare os) (λ _ _. refl) (
          λ j. (
            λ lt. (
              subst (λ m. j < m) (sym (ap length (free_entries (suc n)) ∙ length-replicate (suc n) None)) lt,
              ap (λ l. get_or l j None) (free_entries (suc n)) ∙ none_there (suc n) j,
            ),
            λ spare. subst (λ m. j < m) (ap length (free_entries (suc n)) ∙ length-replicate (suc n) None) spare.0,
          )
          ) (free_list (suc n))
          );
      own = λ j e at. absurd (none_held (λ _. true) (suc n) j (e, at, refl));
      count =
          subst (λ k. IsLeastPowerOfTwo k (length heads)) (sym (free_length (suc n)))
          (subst (IsLeastPowerOfTwo (suc n)) (sym (length-replicate {A = Option ℕ} b None)) power);
      some = omega (arith, some, power.reaches, length-replicate {A = Option ℕ} b None);
      counted = rw (free_entries (suc n)) (sym (ap length (no_entries (suc n))));
    }

-- ---- what is held

pub link_of : (nodes : List Node) (j : ℕ) → link_at (held_of nodes) j ≡ after_at nodes j
link_of nodes j = get_or-map after_in nodes j no_node

pub released_links : (nodes : List Node) (i : ℕ) (free : Option ℕ) (j : ℕ) → i < length nodes → (j ≡ i → ⊥)
    → link_at (held_of (released_nodes nodes i free)) j ≡ link_at (held_of nodes) j
released_links nodes i free j lt other =
    link_of (released_nodes nodes i free) j
    ∙ released_after nodes i free j lt
    ∙ redirect_other (after_at nodes) (Some i) free j (λ same. other (some_same i j same))
    ∙ sym (link_of nodes j)

pub added_link : (nodes : List Node) (i : ℕ) (node : Node) → i < length nodes → link_at (held_of (added_nodes nodes i node)) i ≡ node.after
added_link nodes i node lt = link_of (added_nodes nodes i node) i ∙ added_here (λ n. n.after) nodes i node (λ _. refl) lt

pub added_links : (nodes : List Node) (i : ℕ) (node : Node) (j : ℕ) → (j ≡ i → ⊥) → link_at (held_of (added_nodes nodes i node)) j ≡ link_at (held_of nodes) j
added_links nodes i node j other =
    link_of (added_nodes nodes i node) j
    ∙ added_other (λ n. n.after) nodes i node j (λ _. refl) other
    ∙ sym (link_of nodes j)

-- ---- a node is linked to another

abbrev pub with_after : Option ℕ → Node → Node
with_after after node = record node { after = after }

-- the nodes with another link of one
abbrev pub relinked_nodes : List Node → ℕ → Option ℕ → List Node
relinked_nodes nodes i after = changed_at nodes (Some i) (with_after after)

pub relinked_entries : (nodes : List Node) (i : ℕ) (after : Option ℕ) → map entry_in (relinked_nodes nodes i after) ≡ map entry_in nodes
relinked_entries nodes i after = map_changed entry_in (with_after after) (λ _. refl) nodes (Some i)

relinked_after : (nodes : List Node) (i : ℕ) (after : Option ℕ) (j : ℕ) → i < length nodes
    → after_at (relinked_nodes nodes i after) j ≡ redirect (after_at nodes) (Some i) after j
relinked_after nodes i after j lt = redirected (λ n. n.after) (with_after after) after (λ _. refl) nodes (Some i) lt j

pub relinked_link : (nodes : List Node) (i : ℕ) (after : Option ℕ) → i < length nodes → link_at (held_of (relinked_nodes nodes i after)) i ≡ after
relinked_link nodes i after lt =
    link_of (relinked_nodes nodes i after) i
    ∙ relinked_after nodes i after i lt
    ∙ redirect_here (after_at nodes) (Some i) after i refl

pub relinked_links : (nodes : List Node) (i : ℕ) (after : Option ℕ) (j : ℕ) → i < length nodes → (j ≡ i → ⊥)
    → link_at (held_of (relinked_nodes nodes i after)) j ≡ link_at (held_of nodes) j
relinked_links nodes i after j lt other =
    link_of (relinked_nodes nodes i after) j
    ∙ relinked_after nodes i after j lt
    ∙ redirect_other (after_at nodes) (Some i) after j (λ same. other (some_same i j same))
    ∙ sym (link_of nodes j)

pub held_below : (nodes : List Node) (i : ℕ) → Holds (λ _. true) (map entry_in nodes) i → i < length nodes
held_below nodes i held =
    subst (λ n. i < n) (length-map nodes entry_in) (below_length (map entry_in nodes) i held.0 held.1)

pub relinked : (nodes : List Node) (heads : List (Option ℕ)) (free : Option ℕ) (len i : ℕ) (after : Option ℕ) → IsStore nodes heads free len
    → Holds (λ _. true) (map entry_in nodes) i → IsStore (relinked_nodes nodes i after) heads free len
relinked nodes heads free len i after store held =
    let os = map entry_in nodes in
    let new = relinked_nodes nodes i after in
    let change = with_after after in
    let within = held_below nodes i held in
    let is : map entry_in new ≡ os = relinked_entries nodes i after in
    record {
      chains = λ l lt.
          stays_chain (next_at nodes) (next_at new) (previous_at nodes) (previous_at new) (get_or heads l None)
          (Holds (is_in_bucket (length heads) l) os) (Holds (is_in_bucket (length heads) l) (map entry_in new))
          (λ j _. node_changed (λ n. n.next) change (λ _. refl) nodes (Some i) j)
          (λ j _. node_changed (λ n. n.previous) change (λ _. refl) nodes (Some i) j) (
          λ j.
          subst (λ l2. Holds (is_in_bucket (length heads) l) os j ↔ Holds (is_in_bucket (length heads) l) l2 j) (sym is)
          (λ there. there, λ there. there)
          ) (store.chains l lt);
      spare =
          stays_list (after_at nodes) (after_at new) free (IsSpare os) (IsSpare (map entry_in new)) (
          λ j spare.
          relinked_after nodes i after j within
          ∙ redirect_other (after_at nodes) (Some i) after j (
          λ same. (
          let none = subst (λ k. get_or os k None ≡ None) (some_same i j same) spare.1 in
          let some = held.1 in
          cc
          )
          )
          ) (λ j. subst (λ l. IsSpare os j ↔ IsSpare l j) (sym is) (λ there. there, λ there. there)) store.spare;
      own = λ j e at.
          node_changed (λ n. n.bucket) change (λ _. refl) nodes (Some i) j
          ∙ store.own j e (subst (λ l. get_or l j None ≡ Some e) is at);
      count = subst (λ n. IsLeastPowerOfTwo n (length heads)) (sym (length_changed change nodes (Some i))) store.count;
      some = store.some;
      counted = store.counted ∙ ap (λ l. length (entries_in l)) (sym is);
    }

-- ---- a chain is walked

-- the links that are left of the chain of a bucket, in which a keyid and a nonce are looked for
pub record IsWalk (nodes : List Node) (buckets bucket : ℕ) (keyid nonce : List ℕ) (link : Option ℕ) (from steps : ℕ) : Type 0 where
  pub rest : List ℕ
  pub linked : IsLinked (next_at nodes) link rest
  pub each : (i : ℕ) → IsIn i rest → Holds (is_in_bucket buckets bucket) (map entry_in nodes) i
  pub cost : steps + length rest ≤ from + count_by (is_in_bucket buckets bucket) (entries_in (map entry_in nodes)) + 1
  pub rises : from < steps
  pub seen : is_seen keyid nonce (entries_in (map entry_in nodes)) ≡ true
      → (i : ℕ) × IsIn i rest × Holds (is_of keyid nonce) (map entry_in nodes) i

pub walk_begins : (nodes : List Node) (heads : List (Option ℕ)) (free : Option ℕ) (len bucket : ℕ) (keyid nonce : List ℕ) (from : ℕ) → IsStore nodes heads free len
    → bucket ≡ bucket_of (length heads) keyid nonce
    → IsWalk nodes (length heads) bucket keyid nonce (get_or heads bucket None) from (from + 1)
walk_begins nodes heads free len bucket keyid nonce from store is =
    let b = length heads in
    let os = map entry_in nodes in
    let below : bucket < b = subst (λ k. k < b) (sym is) (mod_below _ b store.some) in
    let list = (store.chains bucket below).list in
    let fits = fits_count (is_in_bucket b bucket) list.places os list.distinct (λ i there. (list.exact i).0 there) in
    record {
      rest = list.places;
      linked = list.linked;
      each = λ i there. (list.exact i).0 there;
      cost = omega (arith, fits);
      rises = omega arith;
      seen = λ seen.
          let one = seen_at (is_of keyid nonce) os seen in
          let entry = one.1.0 in
          let same = of_itself keyid nonce entry one.1.2 in
          let in_bucket : bucket_of b entry.keyid entry.nonce ≡ bucket =
          ap (λ k. bucket_of b k entry.nonce) same.0 ∙ ap (λ n. bucket_of b keyid n) same.1 ∙ sym is in (
            one.0,
            (list.exact one.0).1 (entry, one.1.1, eq-eqb (bucket_of b entry.keyid entry.nonce) bucket in_bucket),
            one.1,
          );
    }

found_in : (nodes : List Node) (i : ℕ) (keyid nonce : List ℕ) (o : Option Entry) → get_or (map entry_in nodes) i None ≡ o → holds_of keyid nonce o ≡ true
    → Holds (is_of keyid nonce) (map entry_in nodes) i
found_in nodes i keyid nonce None at is = absurd (false≢true is)
found_in nodes i keyid nonce (Some e) at is = (e, at, is)

pub walk_finds : (nodes : List Node) (keyid nonce : List ℕ) (i : ℕ) → holds_of keyid nonce (node_at nodes i).entry ≡ true
    → is_seen keyid nonce (entries_in (map entry_in nodes)) ≡ true
walk_finds nodes keyid nonce i is =
    at_seen (is_of keyid nonce) (map entry_in nodes) i (
    found_in nodes i keyid nonce (node_at nodes i).entry (get_or-map entry_in nodes i no_node) is
    )

walk_next : (nodes : List Node) (link : Option ℕ) (rest : List ℕ) (i : ℕ) → IsLinked (next_at nodes) link rest → link ≡ Some i
    → (more : List ℕ) × (rest ≡ i ∷ more) × IsLinked (next_at nodes) (next_at nodes i) more
walk_next nodes link [] i linked is = absurd (let none = linked in cc)
walk_next nodes link (x ∷ more) i linked is =
    let same : x ≡ i = (let one = linked.0 in cc) in
    (more, ap (λ k. k ∷ more) same, subst (λ k. IsLinked (next_at nodes) (next_at nodes k) more) same linked.1)

pub walk_goes : (nodes : List Node) (buckets bucket : ℕ) (keyid nonce : List ℕ) (link : Option ℕ) (from steps i : ℕ)
    → IsWalk nodes buckets bucket keyid nonce link from steps → link ≡ Some i → holds_of keyid nonce (node_at nodes i).entry ≡ false
    → IsWalk nodes buckets bucket keyid nonce (next_at nodes i) from (steps + 1)
walk_goes nodes buckets bucket keyid nonce link from steps i walk is fails =
    let next = walk_next nodes link walk.rest i walk.linked is in
    record {
      rest = next.0;
      linked = next.2;
      each = λ j there. walk.each j (subst (IsIn j) (sym next.1) (inr there));
      cost = omega (arith, walk.cost, ap length next.1);
      rises = omega (arith, walk.rises);
      seen = λ seen.
          let one = walk.seen seen in
          let later : IsIn one.0 next.0 = elim (subst (IsIn one.0) next.1 one.1) [
            | inl here ↦ absurd (
                let at : get_or (map entry_in nodes) i None ≡ Some one.2.0 = subst (λ k. get_or (map entry_in nodes) k None ≡ Some one.2.0) (sym here) one.2.1 in
                let entry : (node_at nodes i).entry ≡ Some one.2.0 = sym (get_or-map entry_in nodes i no_node) ∙ at in
                false≢true (sym fails ∙ ap (holds_of keyid nonce) entry ∙ one.2.2)
                )
            | inr there ↦ there
          ] in
          (one.0, later, one.2);
    }

pub walk_ends : (nodes : List Node) (buckets bucket : ℕ) (keyid nonce : List ℕ) (link : Option ℕ) (from steps : ℕ)
    → IsWalk nodes buckets bucket keyid nonce link from steps → link ≡ None
    → is_seen keyid nonce (entries_in (map entry_in nodes)) ≡ false
walk_ends nodes buckets bucket keyid nonce link from steps walk is = elim (cases_Bool (is_seen keyid nonce (entries_in (map entry_in nodes)))) [
  | inl seen ↦ absurd (
      let one = walk.seen seen in
      none_of (next_at nodes) walk.rest one.0 (subst (λ l. IsLinked (next_at nodes) l walk.rest) is walk.linked) one.1
      )
  | inr fails ↦ fails
]

pub walk_within : (nodes : List Node) (buckets bucket : ℕ) (keyid nonce : List ℕ) (link : Option ℕ) (from steps i : ℕ)
    → IsWalk nodes buckets bucket keyid nonce link from steps → link ≡ Some i
    → (i < length nodes) × (steps < from + count_by (is_in_bucket buckets bucket) (entries_in (map entry_in nodes)) + 1)
walk_within nodes buckets bucket keyid nonce link from steps i walk is =
    let next = walk_next nodes link walk.rest i walk.linked is in
    let here = walk.each i (subst (IsIn i) (sym next.1) (inl refl)) in (
      subst (λ n. i < n) (length-map nodes entry_in) (below_length (map entry_in nodes) i here.0 here.1),
      omega (arith, walk.cost, ap length next.1),
    )

-- ---- how many buckets there are

pub least_same : (n a b : ℕ) → IsLeastPowerOfTwo n a → IsLeastPowerOfTwo n b → a ≡ b
least_same n a b one two =
    let below : a ≤ b = subst (λ k. a ≤ k) (sym two.power) (one.first two.exponent (subst (λ k. n ≤ k) two.power two.reaches)) in
    let above : b ≤ a = subst (λ k. b ≤ k) (sym one.power) (two.first one.exponent (subst (λ k. n ≤ k) one.power one.reaches)) in
    omega (arith, below, above)

-- what is paid for a walk, by the entries that share the bucket
pub walk_cost : (nodes : List Node) (heads : List (Option ℕ)) (free : Option ℕ) (len : ℕ) (held : Held) → held_of nodes ≡ held → IsStore nodes heads free len
    → (bucket : ℕ) (keyid nonce : List ℕ) → bucket ≡ bucket_of (length heads) keyid nonce
    → (steps from : ℕ) → steps ≤ from + count_by (is_in_bucket (length heads) bucket) (entries_in (map entry_in nodes)) + 1
    → (buckets : ℕ) → IsLeastPowerOfTwo (length held.entries) buckets
    → steps ≤ from + count_by (is_in_bucket buckets (bucket_of buckets keyid nonce)) (entries_of held) + 1
walk_cost nodes heads free len held view store bucket keyid nonce is steps from bound buckets least =
    let nodes_least : IsLeastPowerOfTwo (length nodes) buckets =
    subst (λ k. IsLeastPowerOfTwo k buckets) (ap (λ h. length h.entries) (sym view) ∙ length-map nodes entry_in) least in
    let same : length heads ≡ buckets = least_same (length nodes) (length heads) buckets store.count nodes_least in
    subst (λ h. steps ≤ from + count_by (is_in_bucket buckets (bucket_of buckets keyid nonce)) (entries_of h) + 1) view (
    subst (λ b. steps ≤ from + count_by (is_in_bucket b (bucket_of b keyid nonce)) (entries_in (map entry_in nodes)) + 1) same (
    subst (λ k. steps ≤ from + count_by (is_in_bucket (length heads) k) (entries_in (map entry_in nodes)) + 1) is bound
    )
    )
