-- Items are one chain: equal items are those of equal parts, and where each part is.
use Rattle.std.proofs.Common.{◌≡◌, ◌<◌, ◌+◌, ℕ, zero, suc, Option, Some, None, List, [], ◌∷◌, ◌++◌, length, take, drop, refl, sym, ap, ◌∙◌, arith}
use Rattle.std.specs.Prelude.{slice_get}
use Rattle.std.specs.List.{flat_map}
use Rattle.std.proofs.lemmas.List.{append-nil, append_assoc, length-append, take-append-drop, drop_more, take_more}
use Rattle.std.proofs.lemmas.Option.{slice_get_within, get_or_from_slice_get}
use Rattle.recording.specs.Items.{Body, moment, stored, script}
use Rattle.recording.specs.Chains.{Subject, requests, responses, RecordedHop, RecordedChain, moment_items, related_items, message_item, hop_items, chain_items}
use Rattle.recording.specs.RecordedChains.{items_up_to, script_index}
use Rattle.recording.specs.ChainLaws.{AreOneChain}

-- ---- one hop

pub same_message : (subject : Subject) (text other : List ℕ) → message_item subject text ≡ message_item subject other → text ≡ other
same_message requests text other e = cc
same_message (responses related) text other e = cc

-- hops at the head of equal items are the same, and so is what comes after them
pub same_hop : (subject : Subject) (m n : Option ℕ) (t u a b : List ℕ) (x y : List Body)
    → (moment_items m ++ (stored script t ∷ message_item subject a ∷ [])) ++ x ≡ (moment_items n ++ (stored script u ∷ message_item subject b ∷ [])) ++ y
    → (m ≡ n) × (t ≡ u) × (a ≡ b) × (x ≡ y)
same_hop subject None None t u a b x y e =
    let same : message_item subject a ≡ message_item subject b = cc in
    (refl, cc, same_message subject a b same, cc)
same_hop subject None (Some n) t u a b x y e = absurd (cc)
same_hop subject (Some m) None t u a b x y e = absurd (cc)
same_hop subject (Some m) (Some n) t u a b x y e =
    let same : message_item subject a ≡ message_item subject b = cc in
    (cc, cc, same_message subject a b same, cc)

pub no_items : (subject : Subject) (m : Option ℕ) (t a : List ℕ) (x : List Body) → ¬ ((moment_items m ++ (stored script t ∷ message_item subject a ∷ [])) ++ x ≡ [])
no_items subject None t a x e = cc
no_items subject (Some m) t a x e = cc

-- ---- hops

-- the hop at the head of the items is the first, and the items after it are those of the others
pub hop_first : (subject : Subject) (hop : RecordedHop) (rest : List Body) (hops : List RecordedHop)
    → hop_items subject hop ++ rest ≡ flat_map (hop_items subject) hops
    → (more : List RecordedHop) × (hops ≡ hop ∷ more) × (rest ≡ flat_map (hop_items subject) more)
hop_first subject hop rest [] e = absurd (no_items subject hop.moment hop.script hop.message rest e)
hop_first subject hop rest (own ∷ more) e =
    let p = same_hop subject hop.moment own.moment hop.script own.script hop.message own.message rest (flat_map (hop_items subject) more) e in
    let same : own ≡ hop = λ i. record { moment = sym p.0 i; script = sym p.1 i; message = sym p.2 i } in
    (more, ap (λ (h : RecordedHop). h ∷ more) same, p.3)

-- the same of some hops at the head
pub hops_first : (subject : Subject) (done : List RecordedHop) (rest : List Body) (hops : List RecordedHop)
    → flat_map (hop_items subject) done ++ rest ≡ flat_map (hop_items subject) hops
    → (more : List RecordedHop) × (hops ≡ done ++ more) × (rest ≡ flat_map (hop_items subject) more)
hops_first subject [] rest hops e = (hops, refl, e)
hops_first subject (hop ∷ done) rest hops e =
    let a = hop_first subject hop (flat_map (hop_items subject) done ++ rest) hops
    (sym (append_assoc (hop_items subject hop) (flat_map (hop_items subject) done) rest) ∙ e) in
    let b = hops_first subject done rest a.0 (a.2) in
    (b.0, a.1 ∙ ap (λ (hs : List RecordedHop). hop ∷ hs) b.1, b.2)

pub no_hops : (subject : Subject) (hops : List RecordedHop) → [] ≡ flat_map (hop_items subject) hops → hops ≡ []
no_hops subject [] e = refl
no_hops subject (hop ∷ hops) e = absurd (no_items subject hop.moment hop.script hop.message (flat_map (hop_items subject) hops) (sym e))

pub same_hops : (subject : Subject) (hops others : List RecordedHop) → flat_map (hop_items subject) hops ≡ flat_map (hop_items subject) others → hops ≡ others
same_hops subject hops others e =
    let p = hops_first subject hops [] others (append-nil (flat_map (hop_items subject) hops) ∙ e) in
    sym (p.1 ∙ ap (λ (hs : List RecordedHop). hops ++ hs) (no_hops subject p.0 p.2) ∙ append-nil hops)

pub hops_items-append : (subject : Subject) (hops others : List RecordedHop)
    → flat_map (hop_items subject) (hops ++ others) ≡ flat_map (hop_items subject) hops ++ flat_map (hop_items subject) others
hops_items-append subject [] others = refl
hops_items-append subject (hop ∷ hops) others =
    ap (λ (x : List Body). hop_items subject hop ++ x) (hops_items-append subject hops others)
    ∙ sym (append_assoc (hop_items subject hop) (flat_map (hop_items subject) hops) (flat_map (hop_items subject) others))

-- ---- chains

-- what the messages are and the first one are the same in equal items
pub same_first : (subject own : Subject) (a b : List ℕ) (x y : List Body)
    → related_items subject ++ (message_item subject a ∷ x) ≡ related_items own ++ (message_item own b ∷ y)
    → (subject ≡ own) × (a ≡ b) × (x ≡ y)
same_first requests requests a b x y e = (refl, cc, cc)
same_first requests (responses None) a b x y e = absurd (cc)
same_first requests (responses (Some t)) a b x y e = absurd (cc)
same_first (responses None) requests a b x y e = absurd (cc)
same_first (responses None) (responses None) a b x y e = (refl, cc, cc)
same_first (responses None) (responses (Some t)) a b x y e = absurd (cc)
same_first (responses (Some s)) requests a b x y e = absurd (cc)
same_first (responses (Some s)) (responses None) a b x y e = absurd (cc)
same_first (responses (Some s)) (responses (Some t)) a b x y e =
    let same : s ≡ t = cc in
    (ap (λ (text : List ℕ). responses (Some text)) same, cc, cc)

-- items with such a head are those of a chain with this head
pub same_head : (seconds : ℕ) (subject : Subject) (first : List ℕ) (x : List Body) (chain : RecordedChain)
    → moment seconds ∷ (related_items subject ++ (message_item subject first ∷ x)) ≡ chain_items chain
    → (seconds ≡ chain.moment) × (subject ≡ chain.subject) × (first ≡ chain.first) × (x ≡ flat_map (hop_items chain.subject) chain.hops)
same_head seconds subject first x chain e =
    let rest : related_items subject ++ (message_item subject first ∷ x) ≡ related_items chain.subject ++ (message_item chain.subject chain.first ∷ flat_map (hop_items chain.subject) chain.hops) = cc in
    let p = same_first subject chain.subject first chain.first x (flat_map (hop_items chain.subject) chain.hops) rest in
    (cc, p.0, p.1, p.2)

-- chains of equal items are equal
pub same_chain : (chain other : RecordedChain) → chain_items chain ≡ chain_items other → chain ≡ other
same_chain chain other e =
    let p = same_head chain.moment chain.subject chain.first (flat_map (hop_items chain.subject) chain.hops) other e in
    let hops = same_hops chain.subject chain.hops other.hops (p.3 ∙ ap (λ (s : Subject). flat_map (hop_items s) other.hops) (sym p.1)) in
    λ i. record { moment = p.0 i; subject = p.1 i; first = p.2 i; hops = hops i }

pub one_chain : AreOneChain
one_chain items chain other is also = same_chain chain other (sym is ∙ also)

-- ---- places of items

pub slice_get_at : {X : Type 0} (before : List X) (x : X) (more : List X) → slice_get (before ++ (x ∷ more)) (length before) ≡ Some x
slice_get_at [] x more = refl
slice_get_at (y ∷ before) x more = slice_get_at before x more

pub slice_get-append_left : {X : Type 0} (xs ys : List X) (i : ℕ) → i < length xs → slice_get (xs ++ ys) i ≡ slice_get xs i
slice_get-append_left [] ys i within = absurd (omega arith)
slice_get-append_left (x ∷ xs) ys zero within = refl
slice_get-append_left (x ∷ xs) ys (suc i) within = slice_get-append_left xs ys i (omega arith)

-- what is left of a list from the place of an element
pub drop_some : {X : Type 0} (xs : List X) (i : ℕ) (x : X) → slice_get xs i ≡ Some x → drop i xs ≡ x ∷ drop (i + 1) xs
drop_some xs i x there =
    drop_more xs i x (slice_get_within xs i x there) ∙ ap (λ y. y ∷ drop (i + 1) xs) (get_or_from_slice_get xs i x x there)

pub split_some : {X : Type 0} (xs : List X) (i : ℕ) (x : X) → slice_get xs i ≡ Some x → xs ≡ take i xs ++ (x ∷ drop (i + 1) xs)
split_some xs i x there = sym (take-append-drop i xs) ∙ ap (λ ys. take i xs ++ ys) (drop_some xs i x there)

pub hop_items-length : (subject : Subject) (hop : RecordedHop) → length (hop_items subject hop) ≡ length (moment_items hop.moment) + 2
hop_items-length subject hop = length-append (moment_items hop.moment) (stored script hop.script ∷ message_item subject hop.message ∷ [])

-- the items of a chain are those before a hop, its own, and those of the hops after it
pub items_around_hop : (chain : RecordedChain) (k : ℕ) (hop : RecordedHop) → slice_get chain.hops k ≡ Some hop
    → chain_items chain ≡ items_up_to chain k ++ (hop_items chain.subject hop ++ flat_map (hop_items chain.subject) (drop (k + 1) chain.hops))
items_around_hop chain k hop there =
    let H = λ (hops : List RecordedHop). flat_map (hop_items chain.subject) hops in
    let hops : H chain.hops ≡ H (take k chain.hops) ++ H (hop ∷ drop (k + 1) chain.hops) =
    ap H (split_some chain.hops k hop there) ∙ hops_items-append chain.subject (take k chain.hops) (hop ∷ drop (k + 1) chain.hops) in
    ap (λ (x : List Body). moment chain.moment ∷ (related_items chain.subject ++ (message_item chain.subject chain.first ∷ x))) hops
    ∙ ap (λ (x : List Body). moment chain.moment ∷ x) (sym (append_assoc (related_items chain.subject) (message_item chain.subject chain.first ∷ H (take k chain.hops)) (H (hop ∷ drop (k + 1) chain.hops))))

-- so the script and the message of a hop are at these places
pub script_there : (chain : RecordedChain) (k : ℕ) (hop : RecordedHop) → slice_get chain.hops k ≡ Some hop
    → slice_get (chain_items chain) (script_index chain k hop) ≡ Some (stored script hop.script)
script_there chain k hop there =
    let before = items_up_to chain k ++ moment_items hop.moment in
    let more = message_item chain.subject hop.message ∷ flat_map (hop_items chain.subject) (drop (k + 1) chain.hops) in
    let split : chain_items chain ≡ before ++ (stored script hop.script ∷ more) =
    items_around_hop chain k hop there
    ∙ ap (λ (x : List Body). items_up_to chain k ++ x) (append_assoc (moment_items hop.moment) (stored script hop.script ∷ message_item chain.subject hop.message ∷ []) (flat_map (hop_items chain.subject) (drop (k + 1) chain.hops)))
    ∙ sym (append_assoc (items_up_to chain k) (moment_items hop.moment) (stored script hop.script ∷ more)) in
    ap (λ (x : List Body). slice_get x (script_index chain k hop)) split
    ∙ ap (λ (n : ℕ). slice_get (before ++ (stored script hop.script ∷ more)) n) (sym (length-append (items_up_to chain k) (moment_items hop.moment)))
    ∙ slice_get_at before (stored script hop.script) more

pub message_there : (chain : RecordedChain) (k : ℕ) (hop : RecordedHop) → slice_get chain.hops k ≡ Some hop
    → slice_get (chain_items chain) (script_index chain k hop + 1) ≡ Some (message_item chain.subject hop.message)
message_there chain k hop there =
    let before = items_up_to chain k ++ (moment_items hop.moment ++ (stored script hop.script ∷ [])) in
    let more = flat_map (hop_items chain.subject) (drop (k + 1) chain.hops) in
    let item = message_item chain.subject hop.message in
    let own : hop_items chain.subject hop ++ more ≡ (moment_items hop.moment ++ (stored script hop.script ∷ [])) ++ (item ∷ more) =
    append_assoc (moment_items hop.moment) (stored script hop.script ∷ item ∷ []) more
    ∙ sym (append_assoc (moment_items hop.moment) (stored script hop.script ∷ []) (item ∷ more)) in
    let split : chain_items chain ≡ before ++ (item ∷ more) =
    items_around_hop chain k hop there ∙ ap (λ (x : List Body). items_up_to chain k ++ x) own
    ∙ sym (append_assoc (items_up_to chain k) (moment_items hop.moment ++ (stored script hop.script ∷ [])) (item ∷ more)) in
    let size : length before ≡ script_index chain k hop + 1 =
    omega (arith, length-append (items_up_to chain k) (moment_items hop.moment ++ (stored script hop.script ∷ [])), length-append (moment_items hop.moment) (stored script hop.script ∷ [])) in
    ap (λ (x : List Body). slice_get x (script_index chain k hop + 1)) split
    ∙ ap (λ (n : ℕ). slice_get (before ++ (item ∷ more)) n) (sym size)
    ∙ slice_get_at before item more

-- from hop to hop
pub items_up_to-more : (chain : RecordedChain) (k : ℕ) (hop : RecordedHop) → slice_get chain.hops k ≡ Some hop
    → length (items_up_to chain (k + 1)) ≡ script_index chain k hop + 2
items_up_to-more chain k hop there =
    let H = λ (hops : List RecordedHop). flat_map (hop_items chain.subject) hops in
    let taken : take (k + 1) chain.hops ≡ take k chain.hops ++ (hop ∷ []) =
    take_more chain.hops k hop (slice_get_within chain.hops k hop there) ∙ ap (λ (h : RecordedHop). take k chain.hops ++ (h ∷ [])) (get_or_from_slice_get chain.hops k hop hop there) in
    let hops : H (take (k + 1) chain.hops) ≡ H (take k chain.hops) ++ (hop_items chain.subject hop ++ []) = ap H taken ∙ hops_items-append chain.subject (take k chain.hops) (hop ∷ []) in
    omega (
      arith,
      ap (λ (x : List Body). length x) hops,
      length-append (H (take k chain.hops)) (hop_items chain.subject hop ++ []),
      length-append (hop_items chain.subject hop) [],
      hop_items-length chain.subject hop,
      length-append (related_items chain.subject) (message_item chain.subject chain.first ∷ H (take k chain.hops)),
      length-append (related_items chain.subject) (message_item chain.subject chain.first ∷ H (take (k + 1) chain.hops)),
    )
