-- Faults that stay whatever comes after the text.
use Rattle.std.proofs.Common.{◌≡◌, ◌≢◌, ℕ, suc, zero, ◌+◌, ◌-◌, ◌<◌, ◌≤◌, List, [], ◌++◌, length, take, drop, Ok, Err, refl, sym, ap, subst, ◌∙◌, append_assoc, arith}
use Rattle.std.proofs.lemmas.List.{append-nil, length-append, take-append-drop, take-append-le, take_all}
use Rattle.byte_grammar.specs.Language.{Begins}
use Rattle.byte_grammar.specs.FaultOffset.{IsFaultOffset}
use Rattle.recording.specs.declared.fault.RecordingFault.{RecordingFault}
use Rattle.recording.specs.declared.fault.RecordingFault.TheVariants.{Memory, Syntax, ItemTooLong, MomentFalls}
use Rattle.recording.specs.declared.read.Stop.{Stop}
use Rattle.recording.specs.declared.read.Stop.TheVariants as stop
use Rattle.recording.specs.Items.{Body}
use Rattle.recording.specs.Recordings.{items_text, HasForm}
use Rattle.recording.specs.Causes.{HasLineAt, IsLongLine, IsFallingLine, IsRecordingCause, IsRecordingFault, recording_order}
use Rattle.recording.specs.Readers.{IsFaultFrom}
use Rattle.recording.specs.tools.ReaderSteps.{fault_at}
use Rattle.recording.specs.tools.RecordingWalk.{recording_step}
use Rattle.recording.proofs.LeftLaws.{after_long, after_falling}
use Rattle.recording.proofs.RecordingLaws.{one_of_both, one_recording_fault}
use Rattle.recording.proofs.ReadLaws.{rest_left, left_at, long_at, falls_at, within_left, within_rest}
use Rattle.recording.proofs.SizeLaws.{begins_with}

-- ---- offsets and lines

-- the offset before the end of a text stays
offset_stays : (text rest : List ℕ) (o : ℕ) → IsFaultOffset HasForm text o → o < length text → IsFaultOffset HasForm (text ++ rest) o
offset_stays text rest o f less =
    let cut : take (o + 1) (text ++ rest) ≡ take (o + 1) text = take-append-le (o + 1) text rest (omega (arith, less)) in
    let same : take o (text ++ rest) ≡ take o text = take-append-le o text rest (omega (arith, less)) in
    let none : ¬ Begins HasForm (take (o + 1) (text ++ rest)) = λ b. f.last less (subst (λ (y : List ℕ). Begins HasForm y) cut b) in
    record {
      none = λ v h. none (drop (o + 1) (text ++ rest), v, subst (λ (y : List ℕ). HasForm y v) (sym (take-append-drop (o + 1) (text ++ rest))) h);
      within = omega (arith, less, length-append text rest);
      begins = subst (λ (y : List ℕ). Begins HasForm y) (sym same) f.begins;
      last = λ more. none;
    }

line_stays : (IsSuch : List Body → List ℕ → Type 0) (text rest : List ℕ) (o : ℕ) → HasLineAt IsSuch text o → HasLineAt IsSuch (text ++ rest) o
line_stays IsSuch text rest o l = record {
  before = l.before;
  line = l.line;
  more = l.more ++ rest;
  joined = ap (λ (y : List ℕ). y ++ rest) l.joined ∙ append_assoc (items_text l.before) (l.line ++ l.more) rest ∙ ap (λ (y : List ℕ). items_text l.before ++ y) (append_assoc l.line l.more rest);
  are = l.are;
  allowed = l.allowed;
  such = l.such;
  place = l.place;
}

-- a line that ends within the text is one of it
line_within : (IsSuch : List Body → List ℕ → Type 0) (text rest : List ℕ) (o : ℕ) (l : HasLineAt IsSuch (text ++ rest) o) → o + length l.line ≤ length text → HasLineAt IsSuch text o
line_within IsSuch text rest o l within =
    let front : List ℕ = items_text l.before ++ l.line in
    let parts : text ++ rest ≡ front ++ l.more = l.joined ∙ sym (append_assoc (items_text l.before) l.line l.more) in
    let first : text ≡ front ++ drop (length front) text = begins_with text rest front l.more parts (omega (arith, within, length-append (items_text l.before) l.line, l.place)) in
    record {
      before = l.before;
      line = l.line;
      more = drop (length front) text;
      joined = first ∙ append_assoc (items_text l.before) l.line (drop (length front) text);
      are = l.are;
      allowed = l.allowed;
      such = l.such;
      place = l.place;
    }

-- ---- faults

module _ (text rest : List ℕ) where
  long_stays : (o : ℕ) → HasLineAt IsLongLine text o → IsRecordingFault (text ++ rest) (ItemTooLong o)
  long_stays o h = record { holds = line_stays IsLongLine text rest o h; none_before = none }
    where
      none : (other : RecordingFault) → recording_order other < 1 → ¬ IsRecordingCause (text ++ rest) other
      none Memory less h = h
      none (ItemTooLong p) less h = absurd (omega (arith, less))
      none (MomentFalls p) less h = absurd (omega (arith, less))
      none (Syntax p) less h = absurd (omega (arith, less))

  falling_stays : (o : ℕ) → HasLineAt IsFallingLine text o → IsRecordingFault (text ++ rest) (MomentFalls o)
  falling_stays o h = record { holds = line_stays IsFallingLine text rest o h; none_before = none }
    where
      none : (other : RecordingFault) → recording_order other < 2 → ¬ IsRecordingCause (text ++ rest) other
      none Memory less l = l
      none (ItemTooLong p) less l = one_of_both (text ++ rest) p o l (line_stays IsFallingLine text rest o h)
      none (MomentFalls p) less l = absurd (omega (arith, less))
      none (Syntax p) less l = absurd (omega (arith, less))

  syntax_stays : (o : ℕ) → IsRecordingFault text (Syntax o) → o < length text → IsRecordingFault (text ++ rest) (Syntax o)
  syntax_stays o f short = record { holds = stays; none_before = none }
    where
      stays : IsFaultOffset HasForm (text ++ rest) o
      stays = offset_stays text rest o f.holds short

      none : (other : RecordingFault) → recording_order other < 3 → ¬ IsRecordingCause (text ++ rest) other
      none Memory less l = l
      none (ItemTooLong p) less l =
          let ends = after_long (text ++ rest) p o l stays in
          f.none_before (ItemTooLong p) (omega arith) (line_within IsLongLine text rest p l (omega (arith, ends, short)))
      none (MomentFalls p) less l =
          let ends = after_falling (text ++ rest) p o l stays in
          f.none_before (MomentFalls p) (omega arith) (line_within IsFallingLine text rest p l (omega (arith, ends, short)))
      none (Syntax p) less l = absurd (omega (arith, less))

-- ---- where the reader of a recording stops

pub stop_fault : (text : List ℕ) (s : Stop) → recording_step text ≡ Err s → IsRecordingFault text (fault_at (length text) s)
stop_fault text (stop.Left n) e = left_at text n e
stop_fault text (stop.TooLong n) e = long_at text n e
stop_fault text (stop.MomentFalls n) e = falls_at text n e

-- it stops there whatever comes
pub stop_stays : (text : List ℕ) (s : Stop) → recording_step text ≡ Err s → s ≢ stop.Left 0 → IsFaultFrom text (fault_at (length text) s)
stop_stays text (stop.Left zero) e some = absurd (some refl)
stop_stays text (stop.Left (suc n)) e some = λ rest. syntax_stays text rest (length text - suc n) (left_at text (suc n) e) (omega (arith, within_left text (suc n) e))
stop_stays text (stop.TooLong n) e some = λ rest. long_stays text rest (length text - n) (long_at text n e).holds
stop_stays text (stop.MomentFalls n) e some = λ rest. falling_stays text rest (length text - n) (falls_at text n e).holds

-- what comes after the last line is a fault whatever comes
pub rest_stays : (text : List ℕ) (items : List Body) (rest : List ℕ) → recording_step text ≡ Ok (items, rest) → 0 < length rest → IsFaultFrom text (Syntax (length text - length rest))
rest_stays text items rest e some = λ more. syntax_stays text more (length text - length rest) (rest_left text items rest e some) (omega (arith, some, within_rest text items rest e))

-- where only bytes are missing there is no fault yet
pub open_fault : (text : List ℕ) → recording_step text ≡ Err (stop.Left 0) → (fault : RecordingFault) → ¬ IsFaultFrom text fault
open_fault text e fault from =
    let o = length text - 0 in
    let here : IsRecordingFault text fault = subst (λ (y : List ℕ). IsRecordingFault y fault) (append-nil text) (from []) in
    let own : IsRecordingFault text (Syntax o) = left_at text 0 e in
    let same : fault ≡ Syntax o = one_recording_fault text fault (Syntax o) here own in
    let offset : IsFaultOffset HasForm text o = own.holds in
    let whole : take o text ≡ text = take_all o text (omega arith) in
    let begins : Begins HasForm text = subst (λ (y : List ℕ). Begins HasForm y) whole offset.begins in
    let later : IsRecordingFault (text ++ begins.0) (Syntax o) = subst (λ (f : RecordingFault). IsRecordingFault (text ++ begins.0) f) same (from begins.0) in
    let none : IsFaultOffset HasForm (text ++ begins.0) o = later.holds in
    none.none begins.1 begins.2
