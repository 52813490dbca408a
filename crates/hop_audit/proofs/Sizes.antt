-- The items of a recording are no longer than an item may be.
use Rattle.std.proofs.Common.{◌≡◌, ◌<◌, ◌≤◌, ◌+◌, ◌*◌, ℕ, zero, suc, List, [], ◌∷◌, ◌++◌, length, map, take, drop, Option, Some, None, refl, sym, subst, ◌∙◌, arith}
use Rattle.std.specs.Prelude.{IfSome, slice_get}
use Rattle.std.specs.List.{All, flat_map}
use Rattle.std.proofs.lemmas.List.{take_at, drop_at, length-append, length-map, length-take}
use Rattle.std.proofs.lemmas.List.Elements.{All-same, All-take, All-drop, All-head, All-tail}
use Rattle.std.proofs.lemmas.Option.{slice_get-map, slice_get_within}
use Rattle.msg_body.specs.declared.limits.TheConstants.{MAX_MESSAGE_BYTES}
use Rattle.nonces.specs.declared.limits.TheConstants.{MAX_MOMENT}
use Rattle.byte_grammar.specs.Numbers.{IsNumber}
use Rattle.recording.specs.Items.{Body, IsShort, PlacedItem, message, moment, number_of, script, stored}
use Rattle.recording.specs.Recordings.{AreItems, bodies}
use Rattle.recording.specs.declared.chain.RecordedChain.{RecordedChain as HeldChain}
use Rattle.recording.specs.declared.chain.RecordedHop.{RecordedHop as HeldHop}
use Rattle.recording.specs.declared.limits.TheConstants.{MAX_HOPS}
use Rattle.recording.specs.Chains.{RecordedChain, RecordedHop, Subject, requests, responses, hop_items, message_item, moment_items, related_items}
use Rattle.hop_audit.specs.tools.Judged.{IsHeldFor, IsSizedHop, IsSizedSubject}
use Rattle.recording.specs.RecordedChains.{IsHeldChain, chain_meant, hop_meant, items_up_to}

-- ---- parts of a list

all_first : {X : Type 0} (P : X → Type 0) (xs ys : List X) → All P (xs ++ ys) → All P xs
all_first P xs ys all = All-same P xs (take (length xs) (xs ++ ys)) (sym (take_at xs ys (length xs) refl)) (All-take P (length xs) (xs ++ ys) all)

all_rest : {X : Type 0} (P : X → Type 0) (xs ys : List X) → All P (xs ++ ys) → All P ys
all_rest P xs ys all = All-same P ys (drop (length xs) (xs ++ ys)) (sym (drop_at xs ys (length xs) refl)) (All-drop P (length xs) (xs ++ ys) all)

-- ---- items

-- a moment isn't greater than one may be, and no text longer than a message may be
abbrev IsSized : Body → Type 0
IsSized (moment seconds) = seconds ≤ MAX_MOMENT
IsSized (stored kind text) = length text ≤ MAX_MESSAGE_BYTES

sized : (item : Body) → IsNumber (number_of item) → IsShort item → IsSized item
sized (moment seconds) number short = omega arith
sized (stored kind text) number short = short

sized_items : (items : List Body) → All (λ item. IsNumber (number_of item)) items → All IsShort items → All IsSized items
sized_items items numbers short = λ k d within. sized _ (numbers k d within) (short k d within)

sized_message : (subject : Subject) (text : List ℕ) → IsSized (message_item subject text) → length text ≤ MAX_MESSAGE_BYTES
sized_message requests text is = is
sized_message (responses related) text is = is

sized_subject : (subject : Subject) → All IsSized (related_items subject) → IsSizedSubject subject
sized_subject requests all = tt
sized_subject (responses None) all = tt
sized_subject (responses (Some text)) all = All-head IsSized (stored (message _) text) [] all

sized_moment : (o : Option ℕ) → All IsSized (moment_items o) → IfSome o (λ seconds. seconds ≤ MAX_MOMENT)
sized_moment None all = tt
sized_moment (Some seconds) all = All-head IsSized (moment seconds) [] all

-- ---- hops

hop_sized : (subject : Subject) (hops : List RecordedHop) (k : ℕ) (hop : RecordedHop) → All IsSized (flat_map (hop_items subject) hops) → slice_get hops k ≡ Some hop
    → All IsSized (hop_items subject hop)
hop_sized subject [] k hop all there = absurd (cc there)
hop_sized subject (h ∷ hops) zero hop all there =
    let same : h ≡ hop = cc in
    subst (λ (x : RecordedHop). All IsSized (hop_items subject x)) same (all_first IsSized (hop_items subject h) (flat_map (hop_items subject) hops) all)
hop_sized subject (h ∷ hops) (suc k) hop all there =
    hop_sized subject hops k hop (all_rest IsSized (hop_items subject h) (flat_map (hop_items subject) hops) all) there

-- a hop has at most three items
few_moments : (o : Option ℕ) → length (moment_items o) ≤ 1
few_moments None = omega arith
few_moments (Some seconds) = omega arith

few_items : (subject : Subject) (hops : List RecordedHop) → length (flat_map (hop_items subject) hops) ≤ 3 * length hops
few_items subject [] = omega arith
few_items subject (hop ∷ hops) =
    let own : length (hop_items subject hop) ≡ length (moment_items hop.moment) + 2 =
    length-append (moment_items hop.moment) (stored script hop.script ∷ message_item subject hop.message ∷ []) in
    omega (arith, own, few_moments hop.moment, few_items subject hops, length-append (hop_items subject hop) (flat_map (hop_items subject) hops))

few_related : (subject : Subject) → length (related_items subject) ≤ 1
few_related requests = omega arith
few_related (responses None) = omega arith
few_related (responses (Some text)) = omega arith

few_before : (chain : RecordedChain) (k : ℕ) → length (items_up_to chain k) ≤ 3 + 3 * k
few_before chain k =
    let hops : List RecordedHop = take k chain.hops in
    let rest : List Body = message_item chain.subject chain.first ∷ flat_map (hop_items chain.subject) hops in
    omega (arith, length-append (related_items chain.subject) rest, few_related chain.subject, few_items chain.subject hops, length-take k chain.hops)

item_small : (items : List PlacedItem) (chain : HeldChain) (k : ℕ) (hop : HeldHop) → IsHeldChain items chain → slice_get chain.hops k ≡ Some hop → hop.item < 3 * MAX_HOPS + 3
item_small items chain k hop held there =
    let at = held.hops_are k hop there in
    let few = held.few in
    omega (arith, at, few, few_before (chain_meant chain) k, few_moments hop.moment, slice_get_within chain.hops k hop there, length-map chain.hops hop_meant)

held_hop_sized : (subject : Subject) (hops : List HeldHop) (k : ℕ) (hop : HeldHop) → hop.item < 3 * MAX_HOPS + 3
    → All IsSized (flat_map (hop_items subject) (map hop_meant hops)) → slice_get hops k ≡ Some hop → IsSizedHop hop
held_hop_sized subject hops k hop small all there =
    let own = hop_sized subject (map hop_meant hops) k (hop_meant hop) all (slice_get-map hop_meant hops k ∙ rw there refl) in
    let rest : List Body = stored script hop.script.now ∷ message_item subject hop.message.now ∷ [] in
    record {
      item = small;
      moment = sized_moment hop.moment (all_first IsSized (moment_items hop.moment) rest own);
      message = sized_message subject hop.message.now (All-head IsSized (message_item subject hop.message.now) []
          (All-tail IsSized (stored script hop.script.now) (message_item subject hop.message.now ∷ []) (all_rest IsSized (moment_items hop.moment) rest own)));
    }

-- ---- chains

pub held_for : (items : List PlacedItem) (chain : HeldChain) → IsHeldChain items chain → AreItems (bodies items) → All IsShort (bodies items) → IsHeldFor chain
held_for items chain held are short =
    let recorded : RecordedChain = chain_meant chain in
    let rest : List Body = message_item recorded.subject recorded.first ∷ flat_map (hop_items recorded.subject) recorded.hops in
    let all : All IsSized (moment recorded.moment ∷ (related_items recorded.subject ++ rest)) =
    subst (λ (bs : List Body). All IsSized bs) held.is (sized_items (bodies items) are.numbers short) in
    let others = All-tail IsSized (moment recorded.moment) (related_items recorded.subject ++ rest) all in
    let messages = all_rest IsSized (related_items recorded.subject) rest others in
    record {
      items = items;
      held = held;
      now = All-head IsSized (moment recorded.moment) (related_items recorded.subject ++ rest) all;
      related = sized_subject recorded.subject (all_first IsSized (related_items recorded.subject) rest others);
      first = sized_message recorded.subject recorded.first (All-head IsSized (message_item recorded.subject recorded.first) (flat_map (hop_items recorded.subject) recorded.hops) messages);
      hops = λ index hop there. held_hop_sized recorded.subject chain.hops index hop (item_small items chain index hop held there)
          (All-tail IsSized (message_item recorded.subject recorded.first) (flat_map (hop_items recorded.subject) recorded.hops) messages) there;
    }
