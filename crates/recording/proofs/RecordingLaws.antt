-- Laws of recordings, and the answer to a text.
use Rattle.std.proofs.Common.{◌≡◌, ◌≢◌, ◌⊎◌, inl, inr, ℕ, ◌+◌, ◌-◌, ◌≤◌, ◌<◌, List, [], ◌∷◌, ◌++◌, length, Result, Ok, Err, refl, sym, ap, subst, ◌∙◌, arith, codes}
use Rattle.std.specs.Prelude.{IfErr, MatchResult}
use Rattle.std.proofs.lemmas.List.{append-nil, length-append}
use Rattle.byte_grammar.specs.Causes.{AnswersWhere}
use Rattle.byte_grammar.specs.FaultOffset.{IsFaultOffset}
use Rattle.byte_grammar.specs.Walk.{◌>>=◌}
use Rattle.byte_grammar.specs.tools.Walks.{value_at_end, whole_read}
use Rattle.byte_grammar.proofs.AnswerLaws.{IsMemoryDecided, NamesFault, answers_where}
use Rattle.byte_grammar.proofs.OffsetLaws.{one_offset}
use Rattle.byte_grammar.proofs.Whole.{judges}
use Rattle.recording.specs.declared.fault.RecordingFault.{RecordingFault}
use Rattle.recording.specs.declared.fault.RecordingFault.TheVariants.{Memory, Syntax, ItemTooLong, MomentFalls}
use Rattle.recording.specs.declared.read.Stop.{Stop}
use Rattle.recording.specs.declared.read.Stop.TheVariants as stop
use Rattle.recording.specs.Items.{Body, body_text, PlacedItem}
use Rattle.recording.specs.Recordings.{items_text, HasForm, AreAllowed, ArePlaced, SpellsRecording, bodies}
use Rattle.recording.specs.Causes.{HasLineAt, IsLongLine, IsFallingLine, IsRecordingCause, IsRecordingFault, recording_order}
use Rattle.recording.specs.Laws.{HasRecordingOrFault, OneRecording, OneRecordingFault, NoFaultOfRecording, OneOfBoth}
use Rattle.recording.specs.tools.Running.{HasLineAfter, IsLongAfter, IsFallingAfter, last_moment}
use Rattle.recording.specs.tools.RecordingViews.{place}
use Rattle.recording.specs.tools.RecordingWalk.{form_read, with_items, item_step, walk, recording_step}
use Rattle.recording.specs.tools.Judged.{Explains}
use Rattle.recording.proofs.AllowedLaws.{allowed_of, allowed_after, long_line_at, long_line_after, falling_line_at, falling_line_after}
use Rattle.recording.proofs.WalkLaws.{step_long, step_falls}
use Rattle.recording.proofs.LoopLaws.{walk_end, walk_stops}
use Rattle.recording.proofs.WholeLaws.{meets_form, RecordingSays, recording_says, recording_items}

-- ---- the form of a whole text

whole_err : (text : List ℕ) (n : ℕ) → form_read text ≡ Err n → whole_read form_read text ≡ Err n
unfolding whole_read
whole_err text n e = ap (λ (r : Result (List Body × List ℕ) ℕ). r >>= λ a. value_at_end a.0 a.1) e

whole_rest : (text : List ℕ) (items : List Body) (c : ℕ) (rest : List ℕ) → form_read text ≡ Ok (items, c ∷ rest) → whole_read form_read text ≡ Err (length (c ∷ rest))
unfolding whole_read
whole_rest text items c rest e = ap (λ (r : Result (List Body × List ℕ) ℕ). r >>= λ a. value_at_end a.0 a.1) e

whole_ok : (text : List ℕ) (items : List Body) → form_read text ≡ Ok (items, []) → whole_read form_read text ≡ Ok items
unfolding whole_read
whole_ok text items e = ap (λ (r : Result (List Body × List ℕ) ℕ). r >>= λ a. value_at_end a.0 a.1) e

stopped : (text : List ℕ) (n : ℕ) → whole_read form_read text ≡ Err n → (n ≤ length text) × IsFaultOffset HasForm text (length text - n)
stopped text n e = ((judges meets_form).within text n e, (judges meets_form).offset text n e)

pub stopped_within : (text : List ℕ) (n : ℕ) → form_read text ≡ Err n → n ≤ length text
stopped_within text n e = (stopped text n (whole_err text n e)).0

-- ---- the answer

-- what is answered, from what the reader gives
unfoldable pub answer : List ℕ → Result (List Body × List ℕ) Stop → Result (List Body) RecordingFault
answer text (Ok (items, [])) = Ok items
answer text (Ok (items, c ∷ rest)) = Err (Syntax (length text - length (c ∷ rest)))
answer text (Err (stop.Left n)) = Err (Syntax (length text - n))
answer text (Err (stop.TooLong n)) = Err (ItemTooLong (length text - n))
answer text (Err (stop.MomentFalls n)) = Err (MomentFalls (length text - n))

-- the items of a text are of this form and allowed
abbrev pub HasItems : List ℕ → List Body → Type 0
HasItems text items = HasForm text items × AreAllowed items

abbrev Explained : List ℕ → Result (List Body) RecordingFault → Type 0
Explained text (Ok items) = HasItems text items
Explained text (Err Memory) = ⊥
Explained text (Err (Syntax offset)) = IsFaultOffset HasForm text offset
Explained text (Err (ItemTooLong offset)) = HasLineAt IsLongLine text offset
Explained text (Err (MomentFalls offset)) = HasLineAt IsFallingLine text offset

explained : (text : List ℕ) → Explained text (answer text (recording_step text))
unfolding answer
explained text = go (recording_step text) (recording_says text)
  where
    go : (r : Result (List Body × List ℕ) Stop) → RecordingSays text (form_read text) r → Explained text (answer text r)
    go (Ok (items, [])) w = ((judges meets_form).ok text items (whole_ok text items w.0), allowed_of items w.1)
    go (Ok (items, c ∷ rest)) w = (stopped text (length (c ∷ rest)) (whole_rest text items c rest w.0)).1
    go (Err (stop.Left n)) w = (stopped text n (whole_err text n w)).1
    go (Err (stop.TooLong n)) w = long_line_at text (length text - n) w.1
    go (Err (stop.MomentFalls n)) w = falling_line_at text (length text - n) w.1

-- ---- the answer is the one that the definitions give

is_items : (text : List ℕ) (items : List Body) → HasItems text items → answer text (recording_step text) ≡ Ok items
unfolding answer
is_items text items h =
    let read : recording_step text ≡ with_items items (Ok ([], [])) =
    ap recording_step h.0.joined
    ∙ recording_items items (codes "end\n") h.0.are (allowed_after items h.1)
    ∙ ap (with_items items) (ap (walk (last_moment 0 items)) (sym (append-nil (codes "end\n"))) ∙ walk_end (last_moment 0 items) []) in
    ap (answer text) read ∙ ap (λ (y : List Body). Ok y) (append-nil items)

-- where such a line is the reading stops
line_stops : (IsSuch : ℕ → List ℕ → Type 0) (make : ℕ → Stop) (text : List ℕ) (offset : ℕ)
    → ((last : ℕ) (line more : List ℕ) → IsSuch last line → item_step last (line ++ more) ≡ Err (make (length (line ++ more))))
    → HasLineAfter IsSuch text offset → (n : ℕ) × (recording_step text ≡ Err (make n)) × (length text - n ≡ offset)
line_stops IsSuch make text offset step l =
    let n = length (l.line ++ l.more) in
    let last = last_moment 0 l.before in
    let stops : walk last (l.line ++ l.more) ≡ Err (make n) = walk_stops last (l.line ++ l.more) (make n) (step last l.line l.more l.such) in (
      n,
      ap recording_step l.joined ∙ recording_items l.before (l.line ++ l.more) l.are l.allowed ∙ ap (with_items l.before) stops,
      omega (arith, ap (λ (y : List ℕ). length y) l.joined, length-append (items_text l.before) (l.line ++ l.more), l.place),
    )

is_long : (text : List ℕ) (offset : ℕ) → HasLineAt IsLongLine text offset → answer text (recording_step text) ≡ Err (ItemTooLong offset)
unfolding answer
is_long text offset l =
    let s = line_stops IsLongAfter (λ n. stop.TooLong n) text offset step_long (long_line_after text offset l) in
    ap (answer text) s.1 ∙ ap (λ (o : ℕ). Err (ItemTooLong o)) s.2

is_falling : (text : List ℕ) (offset : ℕ) → HasLineAt IsFallingLine text offset → answer text (recording_step text) ≡ Err (MomentFalls offset)
unfolding answer
is_falling text offset l =
    let s = line_stops IsFallingAfter (λ n. stop.MomentFalls n) text offset step_falls (falling_line_after text offset l) in
    ap (answer text) s.1 ∙ ap (λ (o : ℕ). Err (MomentFalls o)) s.2

-- a fault of the form is answered where no line is too long or falls
is_syntax : (text : List ℕ) (offset : ℕ) → IsFaultOffset HasForm text offset → ((o : ℕ) → HasLineAt IsLongLine text o → ⊥) → ((o : ℕ) → HasLineAt IsFallingLine text o → ⊥) → answer text (recording_step text) ≡ Err (Syntax offset)
is_syntax text offset f long falls = go (answer text (recording_step text)) (explained text)
  where
    go : (r : Result (List Body) RecordingFault) → Explained text r → r ≡ Err (Syntax offset)
    go (Ok items) h = absurd (f.none items h.0)
    go (Err Memory) h = absurd h
    go (Err (Syntax other)) h = ap (λ (o : ℕ). Err (Syntax o)) (one_offset HasForm text other offset h f)
    go (Err (ItemTooLong o)) h = absurd (long o h)
    go (Err (MomentFalls o)) h = absurd (falls o h)

fault_answered : (text : List ℕ) (fault : RecordingFault) → IsRecordingFault text fault → answer text (recording_step text) ≡ Err fault
fault_answered text Memory f = absurd f.holds
fault_answered text (ItemTooLong offset) f = is_long text offset f.holds
fault_answered text (MomentFalls offset) f = is_falling text offset f.holds
fault_answered text (Syntax offset) f = is_syntax text offset f.holds (λ o l. f.none_before (ItemTooLong o) (omega arith) l) (λ o l. f.none_before (MomentFalls o) (omega arith) l)

-- ---- the fault that is answered is the first

not_both : (items : List Body) (fault : RecordingFault) → ◌≡◌ {A = Result (List Body) RecordingFault} (Ok items) (Err fault) → ⊥
not_both items fault e = absurd (cc e)

err_is : (fault other : RecordingFault) → ◌≡◌ {A = Result (List Body) RecordingFault} (Err fault) (Err other) → fault ≡ other
err_is fault other e = cc

-- no cause holds that is answered otherwise
none_other : (text : List ℕ) (fault other : RecordingFault) → answer text (recording_step text) ≡ Err fault → recording_order other < recording_order fault → IsRecordingCause text other → ⊥
none_other text fault Memory e less h = h
none_other text fault (ItemTooLong o) e less h =
    let same : fault ≡ ItemTooLong o = err_is _ _ (sym e ∙ is_long text o h) in
    absurd (omega (arith, less, ap recording_order same))
none_other text fault (MomentFalls o) e less h =
    let same : fault ≡ MomentFalls o = err_is _ _ (sym e ∙ is_falling text o h) in
    absurd (omega (arith, less, ap recording_order same))
none_other text Memory (Syntax o) e less h = absurd (omega (arith, less))
none_other text (Syntax p) (Syntax o) e less h = absurd (omega (arith, less))
none_other text (ItemTooLong p) (Syntax o) e less h = absurd (omega (arith, less))
none_other text (MomentFalls p) (Syntax o) e less h = absurd (omega (arith, less))

cause : (text : List ℕ) (fault : RecordingFault) → Explained text (Err fault) → IsRecordingCause text fault
cause text Memory h = h
cause text (Syntax offset) h = h
cause text (ItemTooLong offset) h = h
cause text (MomentFalls offset) h = h

pub fault_of : (text : List ℕ) (fault : RecordingFault) → answer text (recording_step text) ≡ Err fault → IsRecordingFault text fault
fault_of text fault e = record {
  holds = cause text fault (subst (λ (r : Result (List Body) RecordingFault). Explained text r) e (explained text));
  none_before = λ other less h. none_other text fault other e less h;
}

pub items_of : (text : List ℕ) (items : List Body) → answer text (recording_step text) ≡ Ok items → HasItems text items
items_of text items e = subst (λ (r : Result (List Body) RecordingFault). Explained text r) e (explained text)

-- ---- places

pub place_bodies : (offset : ℕ) (items : List Body) → bodies (place offset items) ≡ items
place_bodies offset [] = refl
place_bodies offset (item ∷ items) = ap (λ (others : List Body). item ∷ others) (place_bodies (offset + length (body_text item)) items)

pub place_placed : (offset : ℕ) (items : List Body) → ArePlaced offset (place offset items)
place_placed offset [] = tt
place_placed offset (item ∷ items) = (refl, place_placed (offset + length (body_text item)) items)

same_item : (item other : PlacedItem) → item.offset ≡ other.offset → item.body ≡ other.body → item ≡ other
same_item item other a b = λ i. record { offset = a i; body = b i }

pub placed_once : (offset : ℕ) (items others : List PlacedItem) → ArePlaced offset items → ArePlaced offset others → bodies items ≡ bodies others → items ≡ others
placed_once offset [] [] a b e = refl
placed_once offset [] (other ∷ others) a b e = absurd (cc e)
placed_once offset (item ∷ items) [] a b e = absurd (cc e)
placed_once offset (item ∷ items) (other ∷ others) a b e =
    let body : item.body ≡ other.body = cc e in
    let rest : bodies items ≡ bodies others = cc e in
    let moved : ArePlaced (offset + length (body_text item.body)) others = subst (λ (body : Body). ArePlaced (offset + length (body_text body)) others) (sym body) b.1 in
    let tail : items ≡ others = placed_once (offset + length (body_text item.body)) items others a.1 moved rest in
    let head : item ≡ other = same_item item other (a.0 ∙ sym b.0) body in
    cc (head, tail)

-- ---- the laws

spelled : (text : List ℕ) (items : List PlacedItem) → SpellsRecording text items → answer text (recording_step text) ≡ Ok (bodies items)
spelled text items s = is_items text (bodies items) (s.form, s.allowed)

ok_is : (items others : List Body) → ◌≡◌ {A = Result (List Body) RecordingFault} (Ok items) (Ok others) → items ≡ others
ok_is items others e = cc

pub one_recording : OneRecording
one_recording text items others a b =
    placed_once (length (codes "hms-recording 1\n")) items others a.placed b.placed (ok_is _ _ (sym (spelled text items a) ∙ spelled text others b))

pub no_fault_of_recording : NoFaultOfRecording
no_fault_of_recording text items fault s f = not_both _ _ (sym (spelled text items s) ∙ fault_answered text fault f)

pub one_recording_fault : OneRecordingFault
one_recording_fault text fault other a b = err_is _ _ (sym (fault_answered text fault a) ∙ fault_answered text other b)

pub spells : (text : List ℕ) (items : List PlacedItem) → ArePlaced (length (codes "hms-recording 1\n")) items → HasItems text (bodies items) → SpellsRecording text items
spells text items p h = record { form = h.0; allowed = h.1; placed = p }

pub has_recording_or_fault : HasRecordingOrFault
has_recording_or_fault text = go (answer text (recording_step text)) refl
  where
    go : (r : Result (List Body) RecordingFault) → answer text (recording_step text) ≡ r → ((items : List PlacedItem) × SpellsRecording text items) ⊎ ((fault : RecordingFault) × IsRecordingFault text fault)
    go (Ok items) e =
        let at = length (codes "hms-recording 1\n") in
        inl (place at items, spells text (place at items) (place_placed at items) (subst (λ (b : List Body). HasItems text b) (sym (place_bodies at items)) (items_of text items e)))
    go (Err fault) e = inr (fault, fault_of text fault e)

other_kind : (offset other : ℕ) → ItemTooLong offset ≡ MomentFalls other → ⊥
other_kind offset other e = absurd (cc e)

pub one_of_both : OneOfBoth
one_of_both text offset other a b = other_kind offset other (err_is _ _ (sym (is_long text offset a) ∙ is_falling text other b))

-- ---- what is answered

memory_or_not : IsMemoryDecided Memory
memory_or_not Memory = inl refl
memory_or_not (Syntax offset) = inr (λ e. cc)
memory_or_not (ItemTooLong offset) = inr (λ e. cc)
memory_or_not (MomentFalls offset) = inr (λ e. cc)

pub only_recording : (text : List ℕ) (result : Result (List PlacedItem) RecordingFault) → Explains text result → (items : List PlacedItem) → SpellsRecording text items → MatchResult result (λ given. given ≡ items) (λ fault. fault ≡ Memory)
only_recording text (Ok given) is items s = one_recording text given items is s
only_recording text (Err fault) is items s = absurd (no_fault_of_recording text items fault s is)

pub never_memory : (text : List ℕ) (result : Result (List PlacedItem) RecordingFault) → Explains text result → IfErr result (λ fault. fault ≢ Memory)
never_memory text (Ok given) is = tt
never_memory text (Err fault) is = λ own. subst (λ (f : RecordingFault). IsRecordingCause text f) own is.holds

named : (text : List ℕ) (result : Result (List PlacedItem) RecordingFault) → Explains text result → NamesFault Memory (IsRecordingFault text) result
named text (Ok given) is = λ fault. no_fault_of_recording text given fault is
named text (Err fault) is = λ own. is

pub fault_is : (text : List ℕ) (result : Result (List PlacedItem) RecordingFault) → Explains text result → (fault : RecordingFault) → fault ≢ Memory → AnswersWhere Memory result fault (IsRecordingFault text fault)
fault_is text result is = answers_where Memory memory_or_not (IsRecordingFault text) result (one_recording_fault text) (named text result is)
