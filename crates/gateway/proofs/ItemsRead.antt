-- The items that a text begins with, and one more.
use Rattle.std.proofs.Common.{◌≡◌, ◌≤◌, ◌+◌, inl, inr, ℕ, List, [], ◌∷◌, ◌++◌, length, codes, drop, take, get_or, append_assoc, append-nil, refl, sym, ap, subst, ◌∙◌, arith}
use Rattle.std.proofs.lemmas.Grind.{flat_map-append}
use Rattle.std.proofs.lemmas.List.{drop_at, get_or_append_left, length-append, map-append, take_at}
use Rattle.std.proofs.Math.Seq.{get_or-append_seam}
use Rattle.std.proofs.lemmas.List.Elements.{All-drop, All-head, All-same, All-take}
use Rattle.std.specs.List.{All, flat_map}
use Rattle.std.specs.List.Sorted.{IsNonDecreasing}
use Rattle.byte_grammar.specs.Numbers.{IsNumber}
use Rattle.recording.specs.Items.{Body, IsShort, PlacedItem, body_text, moment, moment_in, number_of, stored}
use Rattle.recording.specs.Readers.{BeginsWithItems, IsLastMoment, IsOpen}
use Rattle.recording.specs.Recordings.{ArePlaced, BeginWithMoment, bodies, items_text, moments}
use Rattle.gateway.proofs.ServedSoFar.{Begins}

-- ---- parts of a list

all_first : {X : Type 0} (P : X → Type 0) (xs ys : List X) → All P (xs ++ ys) → All P xs
all_first P xs ys all = All-same P xs (take (length xs) (xs ++ ys)) (sym (take_at xs ys (length xs) refl)) (All-take P (length xs) (xs ++ ys) all)

all_last : {X : Type 0} (P : X → Type 0) (xs : List X) (x : X) → All P (xs ++ x ∷ []) → P x
all_last P xs x all = All-head P x [] (All-same P (x ∷ []) (drop (length xs) (xs ++ x ∷ [])) (sym (drop_at xs (x ∷ []) (length xs) refl)) (All-drop P (length xs) (xs ++ x ∷ []) all))

ordered_first : (xs ys : List ℕ) → IsNonDecreasing (xs ++ ys) → IsNonDecreasing xs
ordered_first xs ys h i j d le lt =
    let a : get_or (xs ++ ys) i d ≡ get_or xs i d = get_or_append_left xs ys d i (omega arith) in
    let b : get_or (xs ++ ys) j d ≡ get_or xs j d = get_or_append_left xs ys d j lt in
    omega (arith, h i j d le (omega (arith, length-append xs ys)))

-- the last of a list that doesn't fall is no less than the one before it
ordered_last : (xs : List ℕ) (a b : ℕ) → IsNonDecreasing ((xs ++ a ∷ []) ++ b ∷ []) → a ≤ b
ordered_last xs a b h =
    let size = length-append (xs ++ a ∷ []) (b ∷ []) in
    let inner = length-append xs (a ∷ []) in
    let first : get_or ((xs ++ a ∷ []) ++ b ∷ []) (length xs) 0 ≡ a = get_or_append_left (xs ++ a ∷ []) (b ∷ []) 0 (length xs) (omega arith) ∙ get_or-append_seam xs a [] 0 in
    let last : get_or ((xs ++ a ∷ []) ++ b ∷ []) (length (xs ++ a ∷ [])) 0 ≡ b = get_or-append_seam (xs ++ a ∷ []) b [] 0 in
    omega (arith, h (length xs) (length (xs ++ a ∷ [])) 0 (omega arith) (omega arith), first, last)

-- ---- one more item

bodies_more : (items : List PlacedItem) (next : PlacedItem) → bodies (items ++ next ∷ []) ≡ bodies items ++ next.body ∷ []
bodies_more items next = map-append (λ (item : PlacedItem). item.body) items (next ∷ [])

moments_more : (items : List PlacedItem) (next : PlacedItem) → moments (bodies (items ++ next ∷ [])) ≡ moments (bodies items) ++ moment_in next.body
moments_more items next = ap moments (bodies_more items next) ∙ flat_map-append moment_in (bodies items) (next.body ∷ []) ∙ ap (λ (l : List ℕ). moments (bodies items) ++ l) (append-nil (moment_in next.body))

text_more : (items : List PlacedItem) (next : PlacedItem) → items_text (bodies (items ++ next ∷ [])) ≡ items_text (bodies items) ++ body_text next.body
text_more items next =
    let texts : flat_map body_text (bodies (items ++ next ∷ [])) ≡ flat_map body_text (bodies items) ++ body_text next.body =
    ap (flat_map body_text) (bodies_more items next) ∙ flat_map-append body_text (bodies items) (next.body ∷ []) ∙ ap (λ (l : List ℕ). flat_map body_text (bodies items) ++ l) (append-nil (body_text next.body)) in
    ap (λ (l : List ℕ). codes "hms-recording 1\n" ++ l) texts ∙ sym (append_assoc (codes "hms-recording 1\n") (flat_map body_text (bodies items)) (body_text next.body))

placed_first : (offset : ℕ) (items more : List PlacedItem) → ArePlaced offset (items ++ more) → ArePlaced offset items
placed_first offset [] more placed = tt
placed_first offset (item ∷ items) more placed = (placed.0, placed_first (offset + length (body_text item.body)) items more placed.1)

-- a text that begins with one more item begins with those before it, of which there is one
begins_before : (text : List ℕ) (first : PlacedItem) (items : List PlacedItem) (next : PlacedItem) (rest : List ℕ) → BeginsWithItems text ((first ∷ items) ++ next ∷ []) rest
    → BeginsWithItems text (first ∷ items) (body_text next.body ++ rest)
begins_before text first items next rest b =
    let all = first ∷ items in
    record {
      are = record { begin = begin first.body (bodies items) (bodies (items ++ next ∷ [])) b.are.begin; numbers = all_first (λ (x : Body). IsNumber (number_of x)) (bodies all) (next.body ∷ []) (subst (All (λ (x : Body). IsNumber (number_of x))) (bodies_more all next) b.are.numbers) };
      allowed = record {
        short = all_first IsShort (bodies all) (next.body ∷ []) (subst (All IsShort) (bodies_more all next) b.allowed.short);
        in_order = ordered_first (moments (bodies all)) (moment_in next.body) (subst IsNonDecreasing (moments_more all next) b.allowed.in_order);
      };
      placed = placed_first (length (codes "hms-recording 1\n")) all (next ∷ []) b.placed;
      joined = b.joined ∙ ap (λ (l : List ℕ). l ++ rest) (text_more all next) ∙ append_assoc (items_text (bodies all)) (body_text next.body) rest;
    }
  where
    begin : (body : Body) (others more : List Body) → BeginWithMoment (body ∷ more) → BeginWithMoment (body ∷ others)
    begin (moment seconds) others more b = b
    begin (stored kind text) others more b = b

-- where there is no further item, there is none after one that is there either
pub open_more : (items : List PlacedItem) (last : PlacedItem) (text : List ℕ) → IsOpen items text → IsOpen (items ++ last ∷ []) text
open_more items last text o = record { no_item = λ next rest b. o.no_item last (body_text next.body ++ rest) (shorter items next rest b); no_fault = o.no_fault }
  where
    shorter : (items : List PlacedItem) (next : PlacedItem) (rest : List ℕ) → BeginsWithItems text ((items ++ last ∷ []) ++ next ∷ []) rest → BeginsWithItems text (items ++ last ∷ []) (body_text next.body ++ rest)
    shorter [] next rest b = begins_before text last [] next rest b
    shorter (first ∷ items) next rest b = begins_before text first (items ++ last ∷ []) next rest b

-- ---- more text

pub begins_more : (text more : List ℕ) (items : List PlacedItem) → Begins text items → Begins (text ++ more) items
begins_more text more items (inl none) = inl none
begins_more text more items (inr b) =
    let rest = b.0 ++ more in
    inr (rest, record { are = b.1.are; allowed = b.1.allowed; placed = b.1.placed; joined = ap (λ (l : List ℕ). l ++ more) b.1.joined ∙ append_assoc (items_text (bodies items)) b.0 more })

pub begins_shorter : (text : List ℕ) (items : List PlacedItem) (next : PlacedItem) → Begins text (items ++ next ∷ []) → Begins text items
begins_shorter text [] next b = inl refl
begins_shorter text (first ∷ items) next (inl none) = absurd (cc none)
begins_shorter text (first ∷ items) next (inr b) = inr (body_text next.body ++ b.0, begins_before text first items next b.0 b.1)

-- a text that begins with an item isn't empty
pub not_empty : (text : List ℕ) (items : List PlacedItem) (next : PlacedItem) → Begins text (items ++ next ∷ []) → text ≡ [] → ⊥
not_empty text items next (inl none) empty = omega (arith, ap (λ (l : List PlacedItem). length l) none, length-append items (next ∷ []))
not_empty text items next (inr b) empty =
    omega (arith, ap (λ (l : List ℕ). length l) (sym empty ∙ b.1.joined), length-append (items_text (bodies (items ++ next ∷ []))) b.0, length-append (codes "hms-recording 1\n") (flat_map body_text (bodies (items ++ next ∷ []))))

-- ---- the item that was read last

-- its number and its length, and no moment before it is later
pub record IsAllowed (items : List PlacedItem) (body : Body) : Type 0 where
  pub number : IsNumber (number_of body)
  pub short : IsShort body
  pub in_order : IsNonDecreasing (moments (bodies items) ++ moment_in body)

pub last_allowed : (text : List ℕ) (items : List PlacedItem) (next : PlacedItem) → Begins text (items ++ next ∷ []) → IsAllowed items next.body
last_allowed text items next (inl none) = absurd (omega (arith, ap (λ (l : List PlacedItem). length l) none, length-append items (next ∷ [])))
last_allowed text items next (inr b) = record {
  number = all_last (λ (x : Body). IsNumber (number_of x)) (bodies items) next.body (subst (All (λ (x : Body). IsNumber (number_of x))) (bodies_more items next) b.1.are.numbers);
  short = all_last IsShort (bodies items) next.body (subst (All IsShort) (bodies_more items next) b.1.allowed.short);
  in_order = subst IsNonDecreasing (moments_more items next) b.1.allowed.in_order;
}

-- ---- the last moment

pub last_is_below : (earlier : List ℕ) (all : List ℕ) (last seconds : ℕ) → 0 ∷ all ≡ earlier ++ last ∷ [] → IsNonDecreasing (all ++ seconds ∷ []) → last ≤ seconds
last_is_below [] all last seconds is order =
    let zero_is : 0 ≡ last = cc in
    omega (arith, zero_is)
last_is_below (first ∷ earlier) all last seconds is order =
    let same : all ≡ earlier ++ last ∷ [] = cc in
    ordered_last earlier last seconds (subst (λ (l : List ℕ). IsNonDecreasing (l ++ seconds ∷ [])) same order)

-- the last moment after an item
abbrev pub later : ℕ → Body → ℕ
later last (moment seconds) = seconds
later last (stored kind text) = last

pub last_more : (items : List PlacedItem) (next : PlacedItem) (last : ℕ) → IsLastMoment (moments (bodies items)) last → IsLastMoment (moments (bodies (items ++ next ∷ []))) (later last next.body)
last_more items next last l = subst (λ (m : List ℕ). IsLastMoment m (later last next.body)) (sym (moments_more items next)) (more next.body)
  where
    more : (body : Body) → IsLastMoment (moments (bodies items) ++ moment_in body) (later last body)
    more (moment seconds) = (0 ∷ moments (bodies items), refl)
    more (stored kind text) = (l.0, ap (λ (m : List ℕ). 0 ∷ m) (append-nil (moments (bodies items))) ∙ l.1)
