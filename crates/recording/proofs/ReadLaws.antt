-- What the code that goes over items keeps, and what its answer says.
use Rattle.std.proofs.Common.{◌≡◌, ℕ, ◌-◌, ◌≤◌, ◌<◌, List, [], ◌∷◌, ◌++◌, length, Option, Some, None, Result, Ok, Err, refl, sym, ap, subst, ◌∙◌, append_assoc, arith}
use Rattle.std.specs.Prelude.{IsErrAnd, MatchResult}
use Rattle.std.proofs.lemmas.List.{append-nil, length-append}
use Rattle.recording.specs.declared.fault.RecordingFault.TheVariants.{Syntax, ItemTooLong, MomentFalls}
use Rattle.recording.specs.declared.read.Stop.{Stop}
use Rattle.recording.specs.declared.read.Stop.TheVariants as stop
use Rattle.recording.specs.Items.{Body, moment}
use Rattle.recording.specs.Causes.{IsRecordingFault}
use Rattle.recording.specs.tools.Running.{moment_after}
use Rattle.recording.specs.tools.RecordingWalk.{form_read, mapped_step, with_items, and_on, item_step, walk, first_step, recording_step}
use Rattle.recording.specs.tools.Judged.{AreRead}
use Rattle.recording.proofs.WalkLaws.{step_some}
use Rattle.recording.proofs.LoopLaws.{walk_step, walk_stops}
use Rattle.recording.proofs.WholeLaws.{meets_form, RecordingSays, recording_says}
use Rattle.recording.proofs.RecordingLaws.{HasItems, answer, stopped_within, items_of, fault_of}

-- ---- the loop

-- what is after the last line, or where the reader stops
abbrev Sweeps : {R : Type 0} → (R → List ℕ) → List ℕ → Result R Stop → Type 0
Sweeps view text result = MatchResult result (λ rest. (items : List Body) × (recording_step text ≡ Ok (items, view rest))) (λ s. recording_step text ≡ Err s)

stops : {R : Type 0} (view : R → List ℕ) (text : List ℕ) (result : Result R Stop) (s : Stop) → IsErrAnd result (λ given. given ≡ s) → recording_step text ≡ Err s → Sweeps view text result
stops view text (Ok x) s is e = absurd is
stops view text (Err given) s is e = e ∙ ap (λ (s : Stop). Err s) (sym is)

-- an error is handed on
pub first_err : {R : Type 0} (view : R → List ℕ) (text : List ℕ) (result : Result R Stop) (s : Stop) → IsErrAnd result (λ given. given ≡ s) → first_step text ≡ Err s → Sweeps view text result
unfolding recording_step
first_err view text result s is e =
    stops view text result s is (ap (λ (r : Result (ℕ × List ℕ) Stop). and_on (mapped_step (λ (n : ℕ × List ℕ). (Some (moment n.0), n.1)) r) (λ b rest. walk (moment_after 0 b) rest)) e)

pub item_err : {R : Type 0} (view : R → List ℕ) (text : List ℕ) (last : ℕ) (left : List ℕ) (result : Result R Stop) (s : Stop) → IsErrAnd result (λ given. given ≡ s) → AreRead text last left → item_step last left ≡ Err s → Sweeps view text result
item_err view text last left result s is a e = stops view text result s is (sym a.so_far ∙ ap (with_items a.items) (walk_stops last left s e))

pub first_item : (text : List ℕ) (last : ℕ) (left : List ℕ) → first_step text ≡ Ok (last, left) → AreRead text last left
unfolding recording_step
first_item text last left e = record {
  items = moment last ∷ [];
  so_far = sym (ap (λ (r : Result (ℕ × List ℕ) Stop). and_on (mapped_step (λ (n : ℕ × List ℕ). (Some (moment n.0), n.1)) r) (λ b rest. walk (moment_after 0 b) rest)) e);
}

-- a step, and those after it
steps : (last : ℕ) (left : List ℕ) (r : Result (Option Body × List ℕ) Stop) → item_step last left ≡ r → walk last left ≡ and_on r (λ b rest. walk (moment_after last b) rest)
steps last left r e = walk_step last left ∙ ap (λ (r : Result (Option Body × List ℕ) Stop). and_on r (λ b rest. walk (moment_after last b) rest)) e

pub last_line : (text : List ℕ) (last : ℕ) (left rest : List ℕ) → AreRead text last left → item_step last left ≡ Ok (None, rest) → (items : List Body) × (recording_step text ≡ Ok (items, rest))
last_line text last left rest a e = (
  a.items,
  sym a.so_far ∙ ap (with_items a.items) (steps last left (Ok (None, rest)) e) ∙ ap (λ (y : List Body). Ok (y, rest)) (append-nil a.items),
)

with_more : (items : List Body) (b : Body) (r : Result (List Body × List ℕ) Stop) → with_items (items ++ b ∷ []) r ≡ with_items items (with_items (b ∷ []) r)
with_more items b (Ok x) = ap (λ (y : List Body). Ok (y, x.1)) (append_assoc items (b ∷ []) x.0)
with_more items b (Err s) = refl

pub next_item : (text : List ℕ) (last : ℕ) (left rest : List ℕ) (b : Body) (moved : ℕ) → AreRead text last left → item_step last left ≡ Ok (Some b, rest) → moved ≡ moment_after last b → AreRead text moved rest
next_item text last left rest b moved a e is = record {
  items = a.items ++ b ∷ [];
  so_far =
      with_more a.items b (walk moved rest)
      ∙ ap (λ (m : ℕ). with_items a.items (with_items (b ∷ []) (walk m rest))) is
      ∙ sym (ap (with_items a.items) (steps last left (Ok (Some b, rest)) e))
      ∙ a.so_far;
}

pub shorter_rest : (last : ℕ) (left : List ℕ) (b : Body) (rest : List ℕ) → item_step last left ≡ Ok (Some b, rest) → length rest < length left
shorter_rest last left b rest e = (step_some last left b rest e).3

-- ---- the answer

pub all_read : (text : List ℕ) (items : List Body) (rest : List ℕ) → recording_step text ≡ Ok (items, rest) → length rest < 1 → HasItems text items
unfolding answer
all_read text items (c ∷ rest) e less = absurd (omega (arith, less))
all_read text items [] e less = items_of text items (ap (answer text) e)

pub rest_left : (text : List ℕ) (items : List Body) (rest : List ℕ) → recording_step text ≡ Ok (items, rest) → 0 < length rest → IsRecordingFault text (Syntax (length text - length rest))
unfolding answer
rest_left text items [] e some = absurd (omega (arith, some))
rest_left text items (c ∷ rest) e some = fault_of text (Syntax (length text - length (c ∷ rest))) (ap (answer text) e)

pub left_at : (text : List ℕ) (n : ℕ) → recording_step text ≡ Err (stop.Left n) → IsRecordingFault text (Syntax (length text - n))
unfolding answer
left_at text n e = fault_of text (Syntax (length text - n)) (ap (answer text) e)

pub long_at : (text : List ℕ) (n : ℕ) → recording_step text ≡ Err (stop.TooLong n) → IsRecordingFault text (ItemTooLong (length text - n))
unfolding answer
long_at text n e = fault_of text (ItemTooLong (length text - n)) (ap (answer text) e)

pub falls_at : (text : List ℕ) (n : ℕ) → recording_step text ≡ Err (stop.MomentFalls n) → IsRecordingFault text (MomentFalls (length text - n))
unfolding answer
falls_at text n e = fault_of text (MomentFalls (length text - n)) (ap (answer text) e)

pub within_left : (text : List ℕ) (n : ℕ) → recording_step text ≡ Err (stop.Left n) → n ≤ length text
within_left text n e = stopped_within text n (subst (λ (r : Result (List Body × List ℕ) Stop). RecordingSays text (form_read text) r) e (recording_says text))

pub within_long : (text : List ℕ) (n : ℕ) → recording_step text ≡ Err (stop.TooLong n) → n ≤ length text
within_long text n e = (subst (λ (r : Result (List Body × List ℕ) Stop). RecordingSays text (form_read text) r) e (recording_says text)).0

pub within_falls : (text : List ℕ) (n : ℕ) → recording_step text ≡ Err (stop.MomentFalls n) → n ≤ length text
within_falls text n e = (subst (λ (r : Result (List Body × List ℕ) Stop). RecordingSays text (form_read text) r) e (recording_says text)).0

pub within_rest : (text : List ℕ) (items : List Body) (rest : List ℕ) → recording_step text ≡ Ok (items, rest) → length rest ≤ length text
within_rest text items rest e =
    let says = subst (λ (r : Result (List Body × List ℕ) Stop). RecordingSays text (form_read text) r) e (recording_says text) in
    let s = meets_form.ok text items rest says.0 in
    omega (arith, ap (λ (y : List ℕ). length y) s.1, length-append s.0 rest)
