-- What a reader of a recording says after pieces of the source.
use Rattle.std.proofs.Common.{◌≡◌, ◌≢◌, inr, ℕ, ◌+◌, ◌-◌, ◌*◌, ◌^◌, ◌≤◌, Bool, true, false, List, [], ◌∷◌, ◌++◌, length, Option, None, Result, Ok, Err, refl, sym, ap, subst, ◌∙◌, append_assoc, arith}
use Rattle.std.proofs.KnownBytes.{Consumes-trans}
use Rattle.std.proofs.lemmas.List.{append-nil, length-append}
use Rattle.std.specs.Io.KnownBytes.{Consumes}
use Rattle.std.specs.Prelude.{IsErrAnd}
use Rattle.recording.specs.declared.fault.RecordingFault.TheVariants.{Syntax}
use Rattle.recording.specs.declared.item_fault.ItemFault.{ItemFault}
use Rattle.recording.specs.declared.item_fault.ItemFault.TheVariants.{Memory, Failed, Recording, TooManyItems}
use Rattle.recording.specs.declared.limits.TheConstants.{MAX_ITEM_BYTES}
use Rattle.recording.specs.declared.read.Stop.TheVariants as stop
use Rattle.recording.specs.declared.reader.ReaderStage.{ReaderStage}
use Rattle.recording.specs.declared.reader.ReaderStage.TheVariants.{Begin, Items, LastLine, End, Refused}
use Rattle.recording.specs.declared.reader.TheConstants.{MAX_PIECE_BYTES}
use Rattle.recording.specs.Items.{PlacedItem}
use Rattle.recording.specs.Recordings.{SpellsRecording, bodies, items_text, moments}
use Rattle.recording.specs.Readers.{ReaderState, BeginsWithItems, IsLastMoment, HasRead, IsReadTo, IsOpen, IsFaultSoFar, ReadsNeeded, AnswersNext, idle_reads}
use Rattle.recording.specs.tools.ReaderSteps.{IsGoing, IsHeldAt, IsReading, IsWaiting, IsAnEnd, ReadsHeld, AnswersEnd, TakesPiece, answered, refused}
use Rattle.recording.specs.tools.RecordingWalk.{first_step, recording_step}
use Rattle.recording.proofs.HeldLaws.{refused_has, begun_at}
use Rattle.recording.proofs.ReaderLaws.{stops_held, none_stopped, none_spelled, stops_first, none_first}
use Rattle.recording.proofs.RecordingLaws.{no_fault_of_recording}
use Rattle.recording.proofs.SizeLaws.{next_short, first_short}
use Rattle.recording.proofs.StaysLaws.{stop_fault, open_fault}

-- ---- where nothing more is found

pub waiting_short : (stage : ReaderStage) (last : ℕ) (held : List ℕ) → IsWaiting stage last held → length held ≤ MAX_ITEM_BYTES + 32
waiting_short Begin last held w = first_short held w
waiting_short Items last held w = next_short last held w
waiting_short LastLine last held w = omega (arith, ap (λ (y : List ℕ). length y) w)
waiting_short End last held w = absurd w
waiting_short (Refused fault) last held w = absurd w

-- it goes on
pub waiting_going : (stage : ReaderStage) (last : ℕ) (held : List ℕ) → IsWaiting stage last held → IsGoing stage
waiting_going Begin last held w = tt
waiting_going Items last held w = tt
waiting_going LastLine last held w = tt
waiting_going End last held w = absurd w
waiting_going (Refused fault) last held w = absurd w

abbrev HasNoNext : List PlacedItem → List ℕ → Type 0
HasNoNext items text = (next : PlacedItem) (rest : List ℕ) → ¬ BeginsWithItems text (items ++ next ∷ []) rest

-- before the last line more bytes are wanted
wanting : (stage : ReaderStage) (items : List PlacedItem) (text held : List ℕ) (last : ℕ) → IsHeldAt stage items text held → IsLastMoment (moments (bodies items)) last → IsWaiting stage last held
    → stage ≢ LastLine → (recording_step text ≡ Err (stop.Left 0)) × HasNoNext items text
wanting Begin items text held last h m w other =
    let first : first_step text ≡ Err (stop.Left 0) = ap first_step (sym h.1) ∙ w in
    (stops_first text (stop.Left 0) first, subst (λ (own : List PlacedItem). HasNoNext own text) (sym h.0) (none_first text (stop.Left 0) first))
wanting Items items text held last h m w other = (stops_held text items held last h m (stop.Left 0) w, none_stopped text items held last h m (stop.Left 0) w)
wanting LastLine items text held last h m w other = absurd (other refl)
wanting End items text held last h m w other = absurd w
wanting (Refused fault) items text held last h m w other = absurd w

open_at : (stage : ReaderStage) (items : List PlacedItem) (text held : List ℕ) (last : ℕ) → IsHeldAt stage items text held → IsLastMoment (moments (bodies items)) last → IsWaiting stage last held → IsOpen items text
open_at Begin items text held last h m w = let o = wanting Begin items text held last h m w (λ e. absurd (cc e)) in record { no_item = o.1; no_fault = open_fault text o.0 }
open_at Items items text held last h m w = let o = wanting Items items text held last h m w (λ e. absurd (cc e)) in record { no_item = o.1; no_fault = open_fault text o.0 }
open_at LastLine items text held last h m w =
    let whole : text ≡ h.0 = h.2 ∙ ap (λ (y : List ℕ). h.0 ++ y) w ∙ append-nil h.0 in
    record {
      no_item = none_spelled text items h.0 held h.1 h.2;
      no_fault = λ fault from. no_fault_of_recording (text ++ []) items fault (subst (λ (y : List ℕ). SpellsRecording y items) (sym (append-nil text ∙ whole)) h.1) (from []);
    }
open_at End items text held last h m w = absurd w
open_at (Refused fault) items text held last h m w = absurd w

pub waiting_open : (state : ReaderState) (items : List PlacedItem) (text : List ℕ) → IsReading state items text → IsWaiting state.stage state.moment state.held → IsOpen items text
waiting_open state items text r w = open_at state.stage items text state.held state.moment r.held r.moment w

-- ---- the end

-- the source ends before the last line
pub end_fault : (state : ReaderState) → IsWaiting state.stage state.moment state.held → state.stage ≢ LastLine → (items : List PlacedItem) (text : List ℕ) → IsReading state items text
    → IsFaultSoFar text items (Syntax state.given) × HasRead (refused state (Recording (Syntax state.given))) items text
end_fault state w other items text r =
    let o = wanting state.stage items text state.held state.moment r.held r.moment w other in
    let here : IsFaultSoFar text items (Syntax (length text - 0)) = record { begins = begun_at state.stage items text state.held r.held; last = o.1; is = stop_fault text (stop.Left 0) o.0 } in
    let place : length text - 0 ≡ state.given = omega (arith, r.given) in
    (subst (λ (n : ℕ). IsFaultSoFar text items (Syntax n)) place here, refused_has state items text (Recording (Syntax state.given)) r)

-- ---- a piece

held_grows : (stage : ReaderStage) (items : List PlacedItem) (text held piece : List ℕ) → IsHeldAt stage items text held → IsHeldAt stage items (text ++ piece) (held ++ piece)
held_grows Begin items text held piece h = (h.0, ap (λ (y : List ℕ). y ++ piece) h.1)
held_grows Items items text held piece h = record {
  are = h.are;
  allowed = h.allowed;
  placed = h.placed;
  joined = ap (λ (y : List ℕ). y ++ piece) h.joined ∙ append_assoc (items_text (bodies items)) held piece;
}
held_grows LastLine items text held piece h = (h.0, h.1, ap (λ (y : List ℕ). y ++ piece) h.2 ∙ append_assoc h.0 held piece)
held_grows End items text held piece h = absurd h
held_grows (Refused fault) items text held piece h = absurd h

-- how often the stage may still change
abbrev pub changes_left : ReaderStage → ℕ
changes_left Begin = 1
changes_left Items = 1
changes_left LastLine = 0
changes_left End = 0
changes_left (Refused fault) = 0

-- how many bytes may still come before the reader stops
abbrev pub room_left : ReaderState → ℕ
room_left state = changes_left state.stage * 2 ^ 25 + (2 ^ 25 - length state.held)

-- ---- while nothing is found

-- what was read of the source, and what the reader says of it
abbrev pub HasReadOn : ReaderState → ReaderState → Option (List ℕ) → Option (List ℕ) → Type 0
HasReadOn first state before now = (items : List PlacedItem) (text : List ℕ) → IsReading first items text
    → (more : List ℕ) × ReadsNeeded before now items text more × IsReading state items (text ++ more)

abbrev pub ReadsOn : ReaderState → ReaderState → Option (List ℕ) → Option (List ℕ) → Result Bool ItemFault → Type 0
ReadsOn first new before now result = (items : List PlacedItem) (text : List ℕ) → IsReading first items text
    → (more : List ℕ) × ReadsNeeded before now items text more × AnswersNext items text more now (answered new result) result

module _ (first state mid : ReaderState) (before now : Option (List ℕ)) (so_far : HasReadOn first state before now) where
  module _ (reads : ReadsHeld state mid (Ok false)) (waits : IsWaiting mid.stage mid.moment mid.held) (later : Option (List ℕ)) (piece : List ℕ) (took : Consumes now later piece) (few : length piece ≤ MAX_PIECE_BYTES) where
    reading : (items : List PlacedItem) (text : List ℕ) (r : IsReading first items text) → IsReading mid items (text ++ (so_far items text r).0)
    reading items text r = let s = so_far items text r in reads items (text ++ s.0) s.2

    is_open : (items : List PlacedItem) (text : List ℕ) (r : IsReading first items text) → IsOpen items (text ++ (so_far items text r).0)
    is_open items text r = waiting_open mid items (text ++ (so_far items text r).0) (reading items text r) waits

    with_piece : (items : List PlacedItem) (text : List ℕ) (r : IsReading first items text) → ReadsNeeded before later items text ((so_far items text r).0 ++ piece)
    with_piece items text r =
        let s = so_far items text r in
        record { taken = Consumes-trans before now later s.0 piece s.1.taken took; needed = inr (s.0, piece, refl, is_open items text r, few) }

    -- a piece came
    pub piece_reads : (new : ReaderState) → new ≡ record mid { given = mid.given + length piece; held = mid.held ++ piece; kept = length (mid.held ++ piece) } → HasReadOn first new before later
    piece_reads new e = λ items text r.
        let s = so_far items text r in
        let m = reading items text r in
        let here : IsReading (record mid { given = mid.given + length piece; held = mid.held ++ piece; kept = length (mid.held ++ piece) }) items ((text ++ s.0) ++ piece) = record {
          given = omega (arith, m.given, length-append (text ++ s.0) piece);
          count = m.count;
          moment = m.moment;
          held = held_grows mid.stage items (text ++ s.0) mid.held piece m.held;
        } in
        let moved : IsReading new items ((text ++ s.0) ++ piece) = subst (λ (n : ReaderState). IsReading n items ((text ++ s.0) ++ piece)) (sym e) here in
        (s.0 ++ piece, with_piece items text r, subst (λ (y : List ℕ). IsReading new items y) (append_assoc text s.0 piece) moved)

    -- no piece came
    pub fault_reads : (new : ReaderState) (fault : ItemFault) → TakesPiece mid new piece later (Err fault) → ReadsOn first new before later (Err fault)
    fault_reads new fault takes = λ items text r. let s = so_far items text r in (s.0 ++ piece, with_piece items text r, of fault items text s.0 (is_open items text r) takes)
      where
        of : (fault : ItemFault) (items : List PlacedItem) (text more : List ℕ) → IsOpen items (text ++ more) → TakesPiece mid new piece later (Err fault) → AnswersNext items text (more ++ piece) later (answered new (Err fault)) (Err fault)
        of Memory items text more o takes = tt
        of Failed items text more o takes =
            let same : more ≡ more ++ piece = sym (append-nil more) ∙ ap (λ (y : List ℕ). more ++ y) (sym takes) in
            subst (λ (y : List ℕ). IsOpen items (text ++ y)) same o
        of (Recording fault) items text more o takes = absurd takes
        of TooManyItems items text more o takes = absurd takes

    -- the source ended
    pub end_reads : (last new : ReaderState) (result : Result Bool ItemFault) → TakesPiece mid last piece later (Ok false) → IsAnEnd result
        → ((items : List PlacedItem) (text : List ℕ) → IsReading last items text → AnswersEnd items text new result) → ReadsOn first new before later result
    end_reads last new result takes kind ends = λ items text r.
        let s = so_far items text r in
        let same : s.0 ≡ s.0 ++ piece = sym (append-nil s.0) ∙ ap (λ (y : List ℕ). s.0 ++ y) (sym takes.0) in
        let at : IsReading last items (text ++ s.0) = subst (λ (n : ReaderState). IsReading n items (text ++ s.0)) (sym takes.2) (reading items text r) in
        let answer : AnswersEnd items (text ++ (s.0 ++ piece)) new result = subst (λ (y : List ℕ). AnswersEnd items (text ++ y) new result) same (ends items (text ++ s.0) at) in
        (s.0 ++ piece, with_piece items text r, of result items text (s.0 ++ piece) kind answer)
      where
        of : (result : Result Bool ItemFault) (items : List PlacedItem) (text more : List ℕ) → IsAnEnd result → AnswersEnd items (text ++ more) new result → AnswersNext items text more later (answered new result) result
        of (Ok true) items text more kind a = absurd kind
        of (Ok false) items text more kind a = (a.0, takes.1, a.1, a.2)
        of (Err Memory) items text more kind a = absurd kind
        of (Err Failed) items text more kind a = absurd kind
        of (Err (Recording fault)) items text more kind a = (a.0, inr takes.1, a.1)
        of (Err TooManyItems) items text more kind a = absurd kind

-- a fault is handed on
pub handed_on : (result : Result Bool ItemFault) (fault : ItemFault) (P : Result Bool ItemFault → Type 0) → IsErrAnd result (λ given. given ≡ fault) → P (Err fault) → P result
handed_on (Ok found) fault P is p = absurd is
handed_on (Err given) fault P is p = subst (λ (f : ItemFault). P (Err f)) (sym is) p

-- ---- a call

reading_at : (stage : ReaderStage) (items : List PlacedItem) (text held : List ℕ) → stage ≢ End → ((fault : ItemFault) → stage ≢ Refused fault) → IsReadTo stage items text held → IsHeldAt stage items text held
reading_at Begin items text held end refused h = h
reading_at Items items text held end refused h = h
reading_at LastLine items text held end refused h = (text, h.0, sym (append-nil text) ∙ ap (λ (y : List ℕ). text ++ y) (sym h.1))
reading_at End items text held end refused h = absurd (end refl)
reading_at (Refused fault) items text held end refused h = absurd (refused fault refl)

-- the item that was read is dropped
pub dropped_reading : (old new : ReaderState) (items : List PlacedItem) (text : List ℕ) → new ≡ record old { item = None } → HasRead old items text → ¬ (old.stage ≡ End) → ((fault : ItemFault) → ¬ (old.stage ≡ Refused fault))
    → IsReading new items text
dropped_reading old new items text e h end refused =
    subst (λ (s : ReaderState). IsReading s items text) (sym e) (record { given = h.given; count = h.count; moment = h.moment; held = reading_at old.stage items text old.held end refused h.read })

-- ---- reads that give no byte

-- at an end the last read may have been idle
pub end_idle : (before now : ℕ) (result : Result Bool ItemFault) → IsAnEnd result → now ≤ before + 1 → now ≤ before + idle_reads result
end_idle before now (Ok true) ends once = absurd ends
end_idle before now (Ok false) ends once = once
end_idle before now (Err fault) ends once = once
