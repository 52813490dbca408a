-- The items of a recording as they are read one at a time from its text.
use Rattle.std.proofs.Common.{◌≡◌, ℕ, ◌+◌, ◌-◌, ◌^◌, ◌≤◌, ◌<◌, List, [], ◌∷◌, ◌++◌, length, drop, Option, Some, None, Result, Ok, Err, refl, sym, ap, subst, ◌∙◌, append_assoc, arith, codes}
use Rattle.std.proofs.lemmas.List.{append-nil, length-append, length-drop, length-map}
use Rattle.std.specs.List.{flat_map}
use Rattle.recording.specs.declared.read.Stop.{Stop}
use Rattle.recording.specs.declared.item.Role.TheVariants.{Request, Response, Related}
use Rattle.recording.specs.Items.{Body, moment, stored, message, script, PlacedItem, body_text}
use Rattle.recording.specs.Recordings.{SpellsRecording, bodies, items_text}
use Rattle.recording.specs.tools.Running.{moment_after, last_moment}
use Rattle.recording.specs.tools.RecordingWalk.{with_items, and_on, item_step, walk, recording_step}
use Rattle.recording.specs.tools.RecordingViews.{place, items_read, items_from, items_in, AreLeft}
use Rattle.recording.proofs.AllowedLaws.{allowed_after}
use Rattle.recording.proofs.WalkLaws.{step_some}
use Rattle.recording.proofs.LoopLaws.{walk_step, walk_end, walk_items, walk_stops}
use Rattle.recording.proofs.ReadLaws.{all_read}
use Rattle.recording.proofs.RecordingLaws.{HasItems, place_bodies, place_placed, spells}

-- ---- the text

-- after the line that names the format the items are read, and the last line
items_walked : (text : List ℕ) (items : List Body) → HasItems text items → walk 0 (drop 16 text) ≡ Ok (items, [])
items_walked text items h =
    let others : List ℕ = flat_map body_text items ++ codes "end\n" in
    let whole : text ≡ codes "hms-recording 1\n" ++ others = h.0.joined ∙ append_assoc (codes "hms-recording 1\n") (flat_map body_text items) (codes "end\n") in
    ap (λ (y : List ℕ). walk 0 (drop 16 y)) whole
    ∙ walk_items 0 items (codes "end\n") h.0.are.numbers (allowed_after items h.1)
    ∙ ap (with_items items) (ap (walk (last_moment 0 items)) (sym (append-nil (codes "end\n"))) ∙ walk_end (last_moment 0 items) [])
    ∙ ap (λ (y : List Body). Ok (y, [])) (append-nil items)

pub spells_in : (text : List ℕ) (items : List Body) → HasItems text items → SpellsRecording text (items_in text)
spells_in text items h =
    let same : place 16 items ≡ items_in text = ap (λ (r : Result (List Body × List ℕ) Stop). place 16 (items_read r)) (sym (items_walked text items h)) in
    subst (SpellsRecording text) same (spells text (place 16 items) (place_placed 16 items) (subst (HasItems text) (sym (place_bodies 16 items)) h))

-- the same of a recording of some items
pub spelled_in : (text : List ℕ) → (items : List PlacedItem) × SpellsRecording text items → SpellsRecording text (items_in text)
spelled_in text s = spells_in text (bodies s.0) (s.1.form, s.1.allowed)

-- each item has bytes
some_bytes : (b : Body) → 0 < length (body_text b)
some_bytes (moment n) = omega arith
some_bytes (stored (message Request) d) = omega arith
some_bytes (stored (message Response) d) = omega arith
some_bytes (stored (message Related) d) = omega arith
some_bytes (stored script d) = omega arith

few_bodies : (items : List Body) → length items ≤ length (flat_map body_text items)
few_bodies [] = omega arith
few_bodies (b ∷ items) = omega (arith, few_bodies items, some_bytes b, length-append (body_text b) (flat_map body_text items))

-- a text has fewer items than bytes
few_items : (text : List ℕ) (items : List PlacedItem) → SpellsRecording text items → length items < length text
few_items text items s =
    let own = bodies items in
    omega (
      arith,
      length-map items (λ (i : PlacedItem). i.body),
      few_bodies own,
      ap (λ (y : List ℕ). length y) s.form.joined,
      length-append (items_text own) (codes "end\n"),
      length-append (codes "hms-recording 1\n") (flat_map body_text own),
    )

pub few_left : (text left : List ℕ) → SpellsRecording text (items_in text) → left ≡ drop 16 text → length text < 2 ^ 63 → length (items_from (length text - length left) 0 left) < 2 ^ 63
few_left text left s same room =
    let own = bodies (items_in text) in
    let long : 16 ≤ length text =
    omega (arith, ap (λ (y : List ℕ). length y) s.form.joined, length-append (items_text own) (codes "end\n"), length-append (codes "hms-recording 1\n") (flat_map body_text own)) in
    let size : length text - length left ≡ 16 = omega (arith, ap (λ (y : List ℕ). length y) same, length-drop 16 text, long) in
    let view : items_from (length text - length left) 0 left ≡ items_in text = ap (λ (n : ℕ). items_from n 0 left) size ∙ ap (λ (y : List ℕ). items_from 16 0 y) same in
    omega (arith, few_items text (items_in text) s, ap (λ (y : List PlacedItem). length y) view, room)

-- the reader came to the end
pub recorded : (text rest : List ℕ) → (items : List Body) × (recording_step text ≡ Ok (items, rest)) → length rest < 1 → (items : List PlacedItem) × SpellsRecording text items
recorded text rest read none = (items_in text, spells_in text read.0 (all_read text read.0 rest read.1 none))

pub all_left : (text : List ℕ) (items : List PlacedItem) → SpellsRecording text items → AreLeft text 0 (drop 16 text)
all_left text items s = record { within = omega (arith, length-drop 16 text); items = bodies items; are = items_walked text (bodies items) (s.form, s.allowed) }

-- ---- item by item

read_of : (last : ℕ) (left : List ℕ) (r : Result (Option Body × List ℕ) Stop) → item_step last left ≡ r → walk last left ≡ and_on r (λ b rest. walk (moment_after last b) rest)
read_of last left r e = walk_step last left ∙ ap (λ (r : Result (Option Body × List ℕ) Stop). and_on r (λ b rest. walk (moment_after last b) rest)) e

ok_pair : (x y : List Body × List ℕ) → ◌≡◌ {A = Result (List Body × List ℕ) Stop} (Ok x) (Ok y) → x ≡ y
ok_pair x y e = cc

read_more : (b : Body) (r : Result (List Body × List ℕ) Stop) (items : List Body) → with_items (b ∷ []) r ≡ Ok (items, []) → (r ≡ Ok (items_read r, [])) × (items_read (with_items (b ∷ []) r) ≡ b ∷ items_read r)
read_more b (Ok x) items e = let pair = ok_pair (b ∷ x.0, x.1) (items, []) e in (ap (λ (y : List Body × List ℕ). Ok (x.0, y.1)) pair, refl)
read_more b (Err s) items e = absurd (cc e)

module _ (text : List ℕ) (last : ℕ) (left : List ℕ) (a : AreLeft text last left) where
  module _ (b : Body) (rest : List ℕ) (e : item_step last left ≡ Ok (Some b, rest)) where
    more : (walk (moment_after last b) rest ≡ Ok (items_read (walk (moment_after last b) rest), [])) × (items_read (with_items (b ∷ []) (walk (moment_after last b) rest)) ≡ b ∷ items_read (walk (moment_after last b) rest))
    more = read_more b (walk (moment_after last b) rest) a.items (sym (read_of last left (Ok (Some b, rest)) e) ∙ a.are)

    pub next_left : AreLeft text (moment_after last b) rest
    next_left = let s = step_some last left b rest e in record { within = omega (arith, s.3, a.within); items = items_read (walk (moment_after last b) rest); are = more.0 }

    pub next_given : items_from (length text - length left) last left ≡ record { offset = length text - length left; body = b } ∷ items_from (length text - length rest) (moment_after last b) rest
    next_given =
        let s = step_some last left b rest e in
        let size : (length text - length left) + length (body_text b) ≡ length text - length rest = omega (arith, ap (λ (y : List ℕ). length y) s.0, length-append (body_text b) rest, a.within) in
        ap (λ (r : Result (List Body × List ℕ) Stop). place (length text - length left) (items_read r)) (read_of last left (Ok (Some b, rest)) e)
        ∙ ap (place (length text - length left)) more.1
        ∙ ap (λ (o : ℕ). record { offset = length text - length left; body = b } ∷ place o (items_read (walk (moment_after last b) rest))) size

  pub none_left : (rest : List ℕ) → item_step last left ≡ Ok (None, rest) → items_from (length text - length left) last left ≡ []
  none_left rest e = ap (λ (r : Result (List Body × List ℕ) Stop). place (length text - length left) (items_read r)) (read_of last left (Ok (None, rest)) e)

  pub never_stops : (s : Stop) → item_step last left ≡ Err s → ⊥
  never_stops s e = apart (sym (walk_stops last left s e) ∙ a.are)
    where
      apart : ◌≡◌ {A = Result (List Body × List ℕ) Stop} (Err s) (Ok (a.items, [])) → ⊥
      apart e = absurd (cc e)
