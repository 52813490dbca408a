-- What going over the bytes that are held says.
use Rattle.std.proofs.Common.{◌≡◌, ◌≢◌, ◌⊎◌, inl, inr, cond, ℕ, zero, suc, ◌+◌, ◌-◌, ◌≤◌, Bool, true, false, List, [], ◌∷◌, ◌++◌, length, drop, Some, None, Result, Ok, Err, refl, sym, ap, subst, ◌∙◌, append_assoc, arith, codes}
use Rattle.std.proofs.Math.Dec.{eqb-suc-zero}
use Rattle.std.proofs.lemmas.Option.{none-some}
use Rattle.std.proofs.lemmas.List.{length-append, length-drop}
use Rattle.recording.specs.declared.fault.RecordingFault.{RecordingFault}
use Rattle.recording.specs.declared.fault.RecordingFault.TheVariants.{Syntax}
use Rattle.recording.specs.declared.item_fault.ItemFault.{ItemFault}
use Rattle.recording.specs.declared.item_fault.ItemFault.TheVariants.{Memory, Failed, Recording, TooManyItems}
use Rattle.recording.specs.declared.read.Stop.{Stop}
use Rattle.recording.specs.declared.read.Stop.TheVariants as stop
use Rattle.recording.specs.declared.reader.FoundItem.{FoundItem}
use Rattle.recording.specs.declared.reader.ItemReader.TheInside.{Inside}
use Rattle.recording.specs.declared.reader.ReaderStage.{ReaderStage}
use Rattle.recording.specs.declared.reader.ReaderStage.TheVariants.{Begin, Items, LastLine, End, Refused}
use Rattle.byte_grammar.specs.Numbers.{IsNumber}
use Rattle.recording.specs.Items.{Body, moment, PlacedItem, body_text, number_of}
use Rattle.recording.specs.Recordings.{SpellsRecording, bodies, items_text, moments}
use Rattle.recording.specs.Readers.{ReaderState, BeginsWithItems, IsLastMoment, HasRead, IsFaultFrom, IsFaultSoFar}
use Rattle.recording.specs.tools.ReaderSteps.{IsFound, IsFirstFound, IsHeldAt, IsReading, FindsNothing, Reaches, ReadsHeld, AnswersHeld, fault_at, reached, refused}
use Rattle.recording.specs.tools.KeptBytes.{KeptBytes}
use Rattle.recording.specs.tools.ReaderViews.{IsBegun, IsItemHeld, item_at, item_of}
use Rattle.recording.specs.tools.Running.{last_moment}
use Rattle.recording.specs.tools.RecordingWalk.{item_step, first_step, recording_step}
use Rattle.recording.proofs.AllowedLaws.{is_last}
use Rattle.recording.proofs.NextLaws.{next_says}
use Rattle.recording.proofs.ReadLaws.{rest_left}
use Rattle.recording.proofs.ReaderLaws.{stops_held, ends_held, none_stopped, one_more, moment_more, none_spelled, stops_first, none_first, one_first}
use Rattle.recording.proofs.StaysLaws.{stop_fault, stop_stays, rest_stays}
use Rattle.recording.proofs.WalkLaws.{step_some, step_end}

-- ---- where the reader is

-- a recording, and what comes after it, begin with its items
spelled_begins : (text : List ℕ) (items : List PlacedItem) (front held : List ℕ) → SpellsRecording front items → text ≡ front ++ held → BeginsWithItems text items (codes "end\n" ++ held)
spelled_begins text items front held s e = record {
  are = s.form.are;
  allowed = s.allowed;
  placed = s.placed;
  joined = e ∙ ap (λ (y : List ℕ). y ++ held) s.form.joined ∙ append_assoc (items_text (bodies items)) (codes "end\n") held;
}

pub begun_at : (stage : ReaderStage) (items : List PlacedItem) (text held : List ℕ) → IsHeldAt stage items text held → (items ≡ []) ⊎ ((rest : List ℕ) × BeginsWithItems text items rest)
begun_at Begin items text held h = inl h.0
begun_at Items items text held h = inr (held, h)
begun_at LastLine items text held h = inr (codes "end\n" ++ held, spelled_begins text items h.0 held h.1 h.2)
begun_at End items text held h = absurd h
begun_at (Refused fault) items text held h = absurd h

-- where it refuses, it has read the same items
pub refused_has : (state : ReaderState) (items : List PlacedItem) (text : List ℕ) (fault : ItemFault) → IsReading state items text → HasRead (refused state fault) items text
refused_has state items text fault r = record { given = r.given; count = r.count; moment = r.moment; read = begun_at state.stage items text state.held r.held }

at_stage : (state : ReaderState) (stage : ReaderStage) (items : List PlacedItem) (text : List ℕ) → state.stage ≡ stage → IsReading state items text → IsHeldAt stage items text state.held
at_stage state stage items text e r = subst (λ (s : ReaderStage). IsHeldAt s items text state.held) e r.held

-- ---- faults

stopped_answer : (state : ReaderState) (items : List PlacedItem) (text : List ℕ) (s : Stop) → IsReading state items text → recording_step text ≡ Err s → s ≢ stop.Left 0
    → ((next : PlacedItem) (rest : List ℕ) → ¬ BeginsWithItems text (items ++ next ∷ []) rest) → AnswersHeld items text state (Err (Recording (fault_at state.given s)))
stopped_answer state items text s r e some none =
    let fault = fault_at (length text) s in
    let here : AnswersHeld items text state (Err (Recording fault)) = (
      record { begins = begun_at state.stage items text state.held r.held; last = none; is = stop_fault text s e },
      stop_stays text s e some,
      refused_has state items text (Recording fault) r,
    ) in
    subst (λ (n : ℕ). AnswersHeld items text state (Err (Recording (fault_at n s)))) (sym r.given) here

pub first_stops : (old : ReaderState) (s : Stop) → old.stage ≡ Begin → first_step old.held ≡ Err s → s ≢ stop.Left 0 → ReadsHeld old old (Err (Recording (fault_at old.given s)))
first_stops old s stage e some = λ items text r.
    let h = at_stage old Begin items text stage r in
    let first : first_step text ≡ Err s = ap first_step (sym h.1) ∙ e in
    let none : (next : PlacedItem) (rest : List ℕ) → ¬ BeginsWithItems text (items ++ next ∷ []) rest = subst (λ (own : List PlacedItem). (next : PlacedItem) (rest : List ℕ) → ¬ BeginsWithItems text (own ++ next ∷ []) rest) (sym h.0) (none_first text s first) in
    stopped_answer old items text s r (stops_first text s first) some none

pub next_stops : (old : ReaderState) (s : Stop) → old.stage ≡ Items → item_step old.moment old.held ≡ Err s → s ≢ stop.Left 0 → ReadsHeld old old (Err (Recording (fault_at old.given s)))
next_stops old s stage e some = λ items text r.
    let h : BeginsWithItems text items old.held = at_stage old Items items text stage r in
    stopped_answer old items text s r (stops_held text items old.held old.moment h r.moment s e) some (none_stopped text items old.held old.moment h r.moment s e)

-- ---- the last line

nothing_answer : (state : ReaderState) (items : List PlacedItem) (text : List ℕ) (result : Result Bool ItemFault) → state.stage ≡ LastLine → FindsNothing state result → IsReading state items text → AnswersHeld items text state result
nothing_answer state items text (Ok true) stage finds r = absurd finds
nothing_answer state items text (Ok false) stage finds r = r
nothing_answer state items text (Err Memory) stage finds r = absurd finds
nothing_answer state items text (Err Failed) stage finds r = absurd finds
nothing_answer state items text (Err TooManyItems) stage finds r = absurd finds
nothing_answer state items text (Err (Recording fault)) stage finds r =
    let h = at_stage state LastLine items text stage r in
    let held = state.held in
    let b : BeginsWithItems text items (codes "end\n" ++ held) = spelled_begins text items h.0 held h.1 h.2 in
    let last = last_moment 0 (bodies items) in
    let ended : recording_step text ≡ Ok (bodies items, held) = ends_held text items (codes "end\n" ++ held) last b (is_last (bodies items)) held (step_end last held) in
    let fault_is : fault ≡ Syntax (length text - length held) = finds.1 ∙ ap (λ (n : ℕ). Syntax (n - length held)) r.given in
    let here : IsFaultSoFar text items (Syntax (length text - length held)) =
    record { begins = begun_at state.stage items text held r.held; last = none_spelled text items h.0 held h.1 h.2; is = rest_left text (bodies items) held ended finds.0 } in (
      subst (λ (f : RecordingFault). IsFaultSoFar text items f) (sym fault_is) here,
      subst (λ (f : RecordingFault). IsFaultFrom text f) (sym fault_is) (rest_stays text (bodies items) held ended finds.0),
      refused_has state items text (Recording fault) r,
    )

pub nothing_reads : (state : ReaderState) (result : Result Bool ItemFault) → state.stage ≡ LastLine → FindsNothing state result → ReadsHeld state state result
nothing_reads state result stage finds = λ items text r. nothing_answer state items text result stage finds r

-- the reader passes the last line
pub last_reads : (old new : ReaderState) (result : Result Bool ItemFault) → old.stage ≡ Items → item_step old.moment old.held ≡ Ok (None, drop 4 old.held)
    → new.given ≡ old.given → new.held ≡ drop 4 old.held → new.moment ≡ old.moment → new.count ≡ old.count → new.stage ≡ LastLine → FindsNothing new result → ReadsHeld old new result
last_reads old new result stage e given held same count last finds = λ items text r.
    let h : BeginsWithItems text items old.held = at_stage old Items items text stage r in
    let n = next_says old.moment old.held (Ok (None, drop 4 old.held)) e in
    let front : List ℕ = items_text (bodies items) ++ codes "end\n" in
    let parts : text ≡ front ++ new.held =
    h.joined ∙ ap (λ (y : List ℕ). items_text (bodies items) ++ y) n.joined ∙ sym (append_assoc (items_text (bodies items)) (codes "end\n") (drop 4 old.held)) ∙ ap (λ (y : List ℕ). front ++ y) (sym held) in
    let spells : SpellsRecording front items = record { form = record { are = h.are; joined = refl }; allowed = h.allowed; placed = h.placed } in
    let at : IsHeldAt new.stage items text new.held = subst (λ (s : ReaderStage). IsHeldAt s items text new.held) (sym last) (front, spells, parts) in
    nothing_answer new items text result last finds (record { given = given ∙ r.given; count = count ∙ r.count; moment = subst (λ (m : ℕ). IsLastMoment (moments (bodies items)) m) (sym same) r.moment; held = at })

-- ---- an item

-- the item that is reached is the next one
module _ (old : ReaderState) (found : FoundItem) (items : List PlacedItem) (text : List ℕ) (next : PlacedItem) (r : IsReading old items text) where
  reached_answer : item_of (old.given - length old.held + found.skipped) (item_step old.moment (drop found.skipped old.held)) ≡ Some next
      → BeginsWithItems text (items ++ next ∷ []) (drop (found.skipped + found.len) old.held) → IsLastMoment (moments (bodies (items ++ next ∷ []))) found.moment
      → (result : Result Bool ItemFault) (new : ReaderState) → Reaches old new found result → AnswersHeld items text new result
  reached_answer is begins ends = of
    where
      of : (result : Result Bool ItemFault) (new : ReaderState) → Reaches old new found result → AnswersHeld items text new result
      of (Ok true) new e =
          let count : old.count + 1 ≡ length (items ++ next ∷ []) = omega (arith, r.count, length-append items (next ∷ [])) in
          let here : AnswersHeld items text (reached old found) (Ok true) = (next, is, refl, record { given = r.given; count = count; moment = ends; read = begins }) in
          subst (λ (s : ReaderState). AnswersHeld items text s (Ok true)) (sym e) here
      of (Ok false) new e = absurd e
      of (Err Memory) new e = tt
      of (Err Failed) new e = tt
      of (Err (Recording fault)) new e = absurd e
      of (Err TooManyItems) new e = (sym r.count ∙ e.0, next, drop (found.skipped + found.len) old.held, begins)

pub next_reaches : (old new : ReaderState) (found : FoundItem) (result : Result Bool ItemFault) → old.stage ≡ Items → found.skipped ≡ 0 → IsFound old.moment old.held found
    → Reaches old new found result → ReadsHeld old new result
next_reaches old new found result stage none f reaches = λ items text r.
    let h : BeginsWithItems text items old.held = at_stage old Items items text stage r in
    let offset = old.given - length old.held + found.skipped in
    let next : PlacedItem = record { offset = offset; body = f.body } in
    let rest : List ℕ = drop (found.skipped + found.len) old.held in
    let here : item_step old.moment old.held ≡ Ok (Some f.body, rest) = ap (λ (n : ℕ). item_step old.moment (drop n old.held)) (sym none) ∙ f.step in
    let begins : BeginsWithItems text (items ++ next ∷ []) rest = one_more text items old.held old.moment h r.moment f.body rest offset here (omega (arith, none, r.given)) in
    let ends : IsLastMoment (moments (bodies (items ++ next ∷ []))) found.moment = subst (λ (m : ℕ). IsLastMoment (moments (bodies (items ++ next ∷ []))) m) (sym f.after) (moment_more text items old.held old.moment h r.moment next) in
    reached_answer old found items text next r (ap (item_of offset) f.step) begins ends result new reaches

same_item : {offset other : ℕ} {body another : Body} → offset ≡ other → body ≡ another → ◌≡◌ {A = PlacedItem} (record { offset = offset; body = body }) (record { offset = other; body = another })
same_item a b = λ i. record { offset = a i; body = b i }

pub first_reaches : (old new : ReaderState) (found : FoundItem) (result : Result Bool ItemFault) → old.stage ≡ Begin → old.moment ≡ 0 → IsFirstFound old.held found
    → Reaches old new found result → ReadsHeld old new result
first_reaches old new found result stage none f reaches = λ items text r.
    let h = at_stage old Begin items text stage r in
    let own = f.item in
    let offset = old.given - length old.held + found.skipped in
    let next : PlacedItem = record { offset = offset; body = own.body } in
    let rest : List ℕ = drop (found.skipped + found.len) old.held in
    let after = drop found.skipped old.held in
    let here : item_step old.moment after ≡ Ok (Some own.body, rest) = ap (λ (m : ℕ). item_step m after) none ∙ own.step in
    let s = step_some 0 after own.body rest own.step in
    let text_is : text ≡ codes "hms-recording 1\n" ++ (body_text own.body ++ rest) =
    sym h.1 ∙ f.line ∙ ap (λ (n : ℕ). codes "hms-recording 1\n" ++ drop n old.held) (sym f.skipped) ∙ ap (λ (y : List ℕ). codes "hms-recording 1\n" ++ y) s.0 in
    let place : offset ≡ 16 = omega (arith, f.skipped, r.given, ap (λ (y : List ℕ). length y) h.1) in
    let one : BeginsWithItems text (record { offset = 16; body = moment found.moment } ∷ []) rest =
    one_first text rest found.moment (subst (λ (b : Body). IsNumber (number_of b)) f.is s.1) (text_is ∙ ap (λ (b : Body). codes "hms-recording 1\n" ++ (body_text b ++ rest)) f.is) in
    let begins : BeginsWithItems text (next ∷ []) rest = subst (λ (n : PlacedItem). BeginsWithItems text (n ∷ []) rest) (same_item (sym place) (sym f.is)) one in
    let ends : IsLastMoment (moments (bodies (next ∷ []))) found.moment = subst (λ (b : Body). IsLastMoment (moments (b ∷ [])) found.moment) (sym f.is) (0 ∷ [], refl) in
    reached_answer old found items text next r (ap (item_of offset) here)
    (subst (λ (all : List PlacedItem). BeginsWithItems text (all ++ next ∷ []) rest) (sym h.0) begins)
    (subst (λ (all : List PlacedItem). IsLastMoment (moments (bodies (all ++ next ∷ []))) found.moment) (sym h.0) ends) result new reaches

-- ---- the fields

-- where there is no item, it has no byte
no_size : (size offset before last count : ℕ) (stage : ReaderStage) (bytes : KeptBytes) → IsItemHeld size offset before last count stage bytes → item_at size offset before bytes.unused ≡ None → size ≡ 0
no_size zero offset before last count stage bytes h none = refl
no_size (suc n) offset before last count stage bytes h none =
    let w = h.item (omega arith) in
    let own : PlacedItem = record { offset = offset; body = w.0 } in
    let here : item_at (suc n) offset before bytes.unused ≡ Some own =
    ap (λ (b : Bool). cond b None (item_of offset (item_step before bytes.unused))) (eqb-suc-zero n) ∙ ap (item_of offset) w.1 in
    absurd (none-some own (sym none ∙ here))

module _ (r : Inside) (s : ReaderState) (h : IsItemHeld r.item_len r.offset r.before r.moment r.count r.stage r.bytes) where
  abbrev view : ReaderState
  view = record { given = r.offset + length r.bytes.unused; held = drop r.item_len r.bytes.unused; kept = length r.bytes.all; item = item_at r.item_len r.offset r.before r.bytes.unused; moment = r.moment; count = r.count; stage = r.stage }

  none_held : view ≡ s → s.item ≡ None → r.item_len ≡ 0
  none_held v none = no_size r.item_len r.offset r.before r.moment r.count r.stage r.bytes h (ap (λ (s : ReaderState). s.item) v ∙ none)

  -- all bytes are in no item
  pub all_held : view ≡ s → s.item ≡ None → r.bytes.unused ≡ s.held
  all_held v none = sym (ap (λ (n : ℕ). drop n r.bytes.unused) (none_held v none)) ∙ ap (λ (s : ReaderState). s.held) v

  pub begun_zero : view ≡ s → s.stage ≡ Begin → s.moment ≡ 0
  begun_zero v begin =
      let b : IsBegun Begin (r.offset + r.item_len) r.moment = subst (λ (g : ReaderStage). IsBegun g (r.offset + r.item_len) r.moment) (ap (λ (s : ReaderState). s.stage) v ∙ begin) h.begun in
      sym (ap (λ (s : ReaderState). s.moment) v) ∙ b.1

  -- the bytes after the last line
  pub after_line : (left : List ℕ) → view ≡ s → s.item ≡ None → 4 ≤ length r.bytes.unused → left ≡ drop 4 r.bytes.unused → (r.offset + 4 + length left ≡ s.given) × (drop r.item_len left ≡ drop 4 s.held)
  after_line left v none long e = (
    omega (arith, ap (λ (y : List ℕ). length y) e, length-drop 4 r.bytes.unused, long, ap (λ (s : ReaderState). s.given) v),
    ap (λ (n : ℕ). drop n left) (none_held v none) ∙ e ∙ ap (drop 4) (all_held v none),
  )
