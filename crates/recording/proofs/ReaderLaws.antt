-- What is next after items of a text, as the readers of the bytes after them say it.
use Rattle.std.proofs.Common.{◌≡◌, ℕ, ◌+◌, ◌-◌, List, [], ◌∷◌, ◌++◌, length, Option, Some, None, Result, Ok, Err, refl, sym, ap, subst, ◌∙◌, append_assoc, arith, codes}
use Rattle.std.proofs.lemmas.List.{append-nil, append_cancel_left, length-append, map-append}
use Rattle.std.proofs.lemmas.List.Elements.{All-nil, All-cons, All-head, All-tail, All-push}
use Rattle.std.specs.List.{All, flat_map}
use Rattle.recording.specs.declared.read.Stop.{Stop}
use Rattle.byte_grammar.specs.Numbers.{IsNumber}
use Rattle.recording.specs.Items.{Body, moment, stored, PlacedItem, body_text}
use Rattle.recording.specs.Recordings.{AreItems, AreAllowed, ArePlaced, SpellsRecording, bodies, items_text, moments}
use Rattle.recording.specs.Readers.{BeginsWithItems, IsLastMoment}
use Rattle.recording.specs.tools.Running.{moment_after, IsAllowedAfter, last_moment}
use Rattle.recording.specs.tools.RecordingWalk.{with_items, and_on, mapped_step, item_step, walk, first_step, recording_step}
use Rattle.recording.proofs.AllowedLaws.{allowed_of, allowed_after, is_last, last_moment_is, last_snoc, allowed_snoc, allowed_last}
use Rattle.recording.proofs.FormLaws.{is_number_of}
use Rattle.recording.proofs.LeftLaws.{begin_snoc, text_snoc}
use Rattle.recording.proofs.LoopLaws.{walk_step, walk_stops}
use Rattle.recording.proofs.NextLaws.{pair_is}
use Rattle.recording.proofs.WalkLaws.{step_some, step_item, step_end}
use Rattle.recording.proofs.WholeLaws.{first_is, recording_items}

-- ---- one more item

pub bodies_snoc : (items : List PlacedItem) (next : PlacedItem) → bodies (items ++ next ∷ []) ≡ bodies items ++ next.body ∷ []
bodies_snoc items next = map-append (λ (item : PlacedItem). item.body) items (next ∷ [])

placed_snoc : (offset : ℕ) (items : List PlacedItem) (next : PlacedItem) → ArePlaced offset items → next.offset ≡ offset + length (flat_map body_text (bodies items)) → ArePlaced offset (items ++ next ∷ [])
placed_snoc offset [] next p e = (e ∙ omega arith, tt)
placed_snoc offset (item ∷ items) next p e = (
  p.0,
  placed_snoc (offset + length (body_text item.body)) items next p.1 (omega (arith, e, length-append (body_text item.body) (flat_map body_text (bodies items)))),
)

number_last : (items : List Body) (item : Body) → All is_number_of (items ++ item ∷ []) → is_number_of item
number_last [] item all = All-head is_number_of item [] all
number_last (b ∷ items) item all = number_last items item (All-tail is_number_of b (items ++ item ∷ []) all)

items_text_snoc : (items : List Body) (item : Body) (rest : List ℕ) → items_text (items ++ item ∷ []) ++ rest ≡ items_text items ++ (body_text item ++ rest)
items_text_snoc items item rest =
    let magic = codes "hms-recording 1\n" in
    ap (λ (y : List ℕ). (magic ++ y) ++ rest) (text_snoc items item)
    ∙ ap (λ (y : List ℕ). y ++ rest) (sym (append_assoc magic (flat_map body_text items) (body_text item)))
    ∙ append_assoc (items_text items) (body_text item) rest

-- the last line is no item
not_both : (end : List ℕ) (body : Body) (rest : List ℕ) → ◌≡◌ {A = Result (Option Body × List ℕ) Stop} (Ok (None, end)) (Ok (Some body, rest)) → ⊥
not_both end body rest e = apart (ap (λ (x : Option Body × List ℕ). x.0) (pair_is (None, end) (Some body, rest) e))
  where
    apart : ◌≡◌ {A = Option Body} None (Some body) → ⊥
    apart e = absurd (cc e)

-- where the line of what is held after items is
pub held_at : (text : List ℕ) (items : List Body) (held : List ℕ) → text ≡ items_text items ++ held → length text - length held ≡ 16 + length (flat_map body_text items)
held_at text items held e = omega (arith, ap (λ (y : List ℕ). length y) e, length-append (items_text items) held, length-append (codes "hms-recording 1\n") (flat_map body_text items))

-- ---- after items

module _ (text : List ℕ) (items : List PlacedItem) (held : List ℕ) (last : ℕ) (b : BeginsWithItems text items held) (m : IsLastMoment (moments (bodies items)) last) where
  last_is : last ≡ last_moment 0 (bodies items)
  last_is = last_moment_is (bodies items) last m

  walked : recording_step text ≡ with_items (bodies items) (walk last held)
  walked =
      ap recording_step b.joined
      ∙ recording_items (bodies items) held b.are (allowed_after (bodies items) b.allowed)
      ∙ ap (λ (n : ℕ). with_items (bodies items) (walk n held)) (sym last_is)

  pub stops_held : (s : Stop) → item_step last held ≡ Err s → recording_step text ≡ Err s
  stops_held s e = walked ∙ ap (with_items (bodies items)) (walk_stops last held s e)

  pub ends_held : (rest : List ℕ) → item_step last held ≡ Ok (None, rest) → recording_step text ≡ Ok (bodies items, rest)
  ends_held rest e =
      walked
      ∙ ap (with_items (bodies items)) (walk_step last held ∙ ap (λ (r : Result (Option Body × List ℕ) Stop). and_on r (λ body rest. walk (moment_after last body) rest)) e)
      ∙ ap (λ (y : List Body). Ok (y, rest)) (append-nil (bodies items))

  -- a further item is read
  next_held : (next : PlacedItem) (rest : List ℕ) → BeginsWithItems text (items ++ next ∷ []) rest → item_step last held ≡ Ok (Some next.body, rest)
  next_held next rest more =
      let own = bodies items in
      let all = bodies_snoc items next in
      let joined : items_text own ++ held ≡ items_text own ++ (body_text next.body ++ rest) = sym b.joined ∙ more.joined ∙ ap (λ (y : List Body). items_text y ++ rest) all ∙ items_text_snoc own next.body rest in
      let text_is : held ≡ body_text next.body ++ rest = append_cancel_left (items_text own) held (body_text next.body ++ rest) joined in
      let are : AreItems (own ++ next.body ∷ []) = subst (λ (y : List Body). AreItems y) all more.are in
      let allowed : AreAllowed (own ++ next.body ∷ []) = subst (λ (y : List Body). AreAllowed y) all more.allowed in
      let after : IsAllowedAfter last next.body = subst (λ (n : ℕ). IsAllowedAfter n next.body) (sym last_is) (allowed_last 0 own next.body (allowed_after (own ++ next.body ∷ []) allowed)) in
      ap (item_step last) text_is ∙ step_item last next.body rest (number_last own next.body are.numbers) after

  pub none_stopped : (s : Stop) → item_step last held ≡ Err s → (next : PlacedItem) (rest : List ℕ) → ¬ BeginsWithItems text (items ++ next ∷ []) rest
  none_stopped s e next rest more = let both = sym e ∙ next_held next rest more in absurd (cc both)

  pub none_ended : (end : List ℕ) → item_step last held ≡ Ok (None, end) → (next : PlacedItem) (rest : List ℕ) → ¬ BeginsWithItems text (items ++ next ∷ []) rest
  none_ended end e next rest more = not_both end next.body rest (sym e ∙ next_held next rest more)

  -- the item that is read is a further one
  pub one_more : (body : Body) (rest : List ℕ) (offset : ℕ) → item_step last held ≡ Ok (Some body, rest) → offset ≡ length text - length held → BeginsWithItems text (items ++ record { offset = offset; body = body } ∷ []) rest
  one_more body rest offset e place =
      let own = bodies items in
      let next : PlacedItem = record { offset = offset; body = body } in
      let all = sym (bodies_snoc items next) in
      let s = step_some last held body rest e in
      let after : IsAllowedAfter (last_moment 0 own) body = subst (λ (n : ℕ). IsAllowedAfter n body) last_is s.2 in
      record {
        are = subst (λ (y : List Body). AreItems y) all (record { begin = begin_snoc own body b.are.begin; numbers = All-push is_number_of own body b.are.numbers s.1 });
        allowed = subst (λ (y : List Body). AreAllowed y) all (allowed_of (own ++ body ∷ []) (allowed_snoc 0 own body (allowed_after own b.allowed) after));
        placed = placed_snoc 16 items next b.placed (place ∙ held_at text own held b.joined);
        joined = b.joined ∙ ap (λ (y : List ℕ). items_text own ++ y) s.0 ∙ sym (items_text_snoc own body rest) ∙ ap (λ (y : List Body). items_text y ++ rest) all;
      }

  pub moment_more : (next : PlacedItem) → IsLastMoment (moments (bodies (items ++ next ∷ []))) (moment_after last next.body)
  moment_more next =
      let own = bodies items in
      let value : last_moment 0 (own ++ next.body ∷ []) ≡ moment_after last next.body = last_snoc 0 own next.body ∙ ap (λ (n : ℕ). moment_after n next.body) (sym last_is) in
      let moved : IsLastMoment (moments (own ++ next.body ∷ [])) (moment_after last next.body) = subst (λ (n : ℕ). IsLastMoment (moments (own ++ next.body ∷ [])) n) value (is_last (own ++ next.body ∷ [])) in
      subst (λ (y : List Body). IsLastMoment (moments y) (moment_after last next.body)) (sym (bodies_snoc items next)) moved

-- a recording has no further item
pub none_spelled : (text : List ℕ) (items : List PlacedItem) (front held : List ℕ) → SpellsRecording front items → text ≡ front ++ held → (next : PlacedItem) (rest : List ℕ) → ¬ BeginsWithItems text (items ++ next ∷ []) rest
none_spelled text items front held s e =
    let own = bodies items in
    let after : List ℕ = codes "end\n" ++ held in
    let b : BeginsWithItems text items after = record { are = s.form.are; allowed = s.allowed; placed = s.placed; joined = e ∙ ap (λ (y : List ℕ). y ++ held) s.form.joined ∙ append_assoc (items_text own) (codes "end\n") held } in
    none_ended text items after (last_moment 0 own) b (is_last own) held (step_end (last_moment 0 own) held)

-- ---- the first item

pub stops_first : (text : List ℕ) (s : Stop) → first_step text ≡ Err s → recording_step text ≡ Err s
unfolding recording_step
stops_first text s e = ap (λ (r : Result (ℕ × List ℕ) Stop). and_on (mapped_step (λ (n : ℕ × List ℕ). (Some (moment n.0), n.1)) r) (λ item rest. walk (moment_after 0 item) rest)) e

pub none_first : (text : List ℕ) (s : Stop) → first_step text ≡ Err s → (next : PlacedItem) (rest : List ℕ) → ¬ BeginsWithItems text (next ∷ []) rest
none_first text s e next rest b = at next.body b.are b.joined
  where
    at : (body : Body) → AreItems (body ∷ []) → text ≡ items_text (body ∷ []) ++ rest → ⊥
    at (stored kind d) are joined = are.begin
    at (moment n) are joined =
        let line : List ℕ = body_text (moment n) in
        let magic = codes "hms-recording 1\n" in
        let is : text ≡ magic ++ (line ++ rest) = joined ∙ ap (λ (y : List ℕ). (magic ++ y) ++ rest) (append-nil line) ∙ append_assoc magic line rest in
        let both = sym e ∙ ap first_step is ∙ first_is n rest (All-head is_number_of (moment n) [] are.numbers) in
        absurd (cc both)

pub one_first : (text rest : List ℕ) (n : ℕ) → IsNumber n → text ≡ codes "hms-recording 1\n" ++ (body_text (moment n) ++ rest) → BeginsWithItems text (record { offset = 16; body = moment n } ∷ []) rest
one_first text rest n is e =
    let line : List ℕ = body_text (moment n) in
    let magic = codes "hms-recording 1\n" in
    record {
      are = record { begin = tt; numbers = All-cons is_number_of (moment n) [] is (All-nil is_number_of) };
      allowed = allowed_of (moment n ∷ []) (omega arith, tt);
      placed = (refl, tt);
      joined = e ∙ sym (append_assoc magic line rest) ∙ ap (λ (y : List ℕ). (magic ++ y) ++ rest) (sym (append-nil line));
    }
