-- The bytes that a step makes are those of the message that it gives, where they are a message's with content of that length.
use Rattle.std.proofs.Common.{◌≡◌, nat_le, nat_lt, ℕ, Bool, true, false, Option, Some, None, Result, Ok, Err, IfOk, List, [], ◌∷◌, ◌++◌, length, take, drop, length-append, arith, refl, sym, subst, ap, ◌∙◌, inl, inr}
use Rattle.std.specs.Prelude.{option_map}
use Rattle.std.proofs.lemmas.Bool.{cases_Bool, false≢true, ltb-true}
use Rattle.msg_head.specs.declared.error.Side.{Side}
use Rattle.msg_head.specs.declared.error.Side.TheVariants.{Header, Trailer}
use Rattle.msg_head.specs.Lines.{FieldLine}
use Rattle.msg_body.specs.Bodies.{Body, chunked, plain, trailers_in}
use Rattle.msg_body.specs.Messages.{IsMessage, Message, message_text}
use Rattle.msg_body.specs.Views.{lines_on, message_content}
use Rattle.component_values.specs.Context.{MessageContext}
use Rattle.rewrite_script.specs.Lines.{is_line_writable}
use Rattle.rewrite_script.specs.declared.rewrite.LineRewrite.{LineRewrite}
use Rattle.rewrite_script.specs.declared.rewrite.LineRewrite.TheVariants.{Pad, Fold, Unfold, Join, Split, Move, Case, Add, Remove}
use Rattle.component_values.specs.Context.{answers_head}
use Rattle.line_rewrites.specs.Steps.{HasNoLineStep, LineStep, with_lines_on, with_trailers}
use Rattle.line_rewrites.specs.LineLists.{line_of}
use Rattle.line_rewrites.specs.declared.fault.ApplyFault.{ApplyFault}
use Rattle.line_rewrites.specs.declared.fault.ApplyFault.TheVariants.{Memory, NotApplicable}
use Rattle.line_rewrites.specs.tools.Computed.{changed, changed_side, rewritten}
use Rattle.line_rewrites.specs.Sized.{SpellsLineStep, SpellsSized}
use Rattle.line_rewrites.specs.tools.Judged.{Makes}
use Rattle.line_rewrites.specs.Sides.{has_side, has_trailers, side_parts, text_with}
use Rattle.line_rewrites.proofs.Changes.{change_is}
use Rattle.line_rewrites.proofs.Results.{changes_step, side_sound, step_changes, step_lines}
use Rattle.line_rewrites.proofs.Slices.{side_lines}
use Rattle.line_rewrites.proofs.SoundChanges.{change_sound}
use Rattle.line_rewrites.proofs.Texts.{message_sound, one_sound, with_lines_content, with_lines_sound, with_lines_text, with_lines_there}

-- what is computed of the message
record IsMade (message : Message) (step : LineRewrite) (text : List ℕ) : Type 0 where
  has : has_side (changed_side step) message ≡ true
  lines : List FieldLine
  computed : changed step (lines_on (changed_side step) message) ≡ Some lines
  text_is : text ≡ text_with (side_parts (changed_side step) message) lines

is_made : (message : Message) (step : LineRewrite) (text : List ℕ) → rewritten message step ≡ Some text → IsMade message step text
is_made message step text made = elim (cases_Bool (has_side (changed_side step) message)) [
  | inr fails ↦ absurd (let e : None ≡ Some text = rw fails at made in cc)
  | inl has ↦ by has (changed step (side_parts (changed_side step) message).lines) refl (rw has at made)
]
  where
    by : has_side (changed_side step) message ≡ true → (o : Option (List FieldLine)) → changed step (side_parts (changed_side step) message).lines ≡ o
        → option_map (text_with (side_parts (changed_side step) message)) o ≡ Some text → IsMade message step text
    by has None is e = absurd cc
    by has (Some lines) is e = record {
      has = has;
      lines = lines;
      computed = ap (changed step) (side_lines (changed_side step) message) ∙ is;
      text_is = cc;
    }

-- the message that the bytes are is the one that the step gives
pub result_is : (context : MessageContext) (step : LineRewrite) (text : List ℕ) (after : Message) → IsMessage (answers_head context.related) context.message → is_line_writable step ≡ true
    → rewritten context.message step ≡ Some text → SpellsSized (answers_head context.related) text (length (message_content context.message)) after → LineStep context step after
result_is context step text after is writable made spelled =
    let to_head = answers_head context.related in
    let side = changed_side step in
    let m = is_made context.message step text made in
    let sound = change_sound step (lines_on side context.message) m.lines writable (side_sound to_head side context.message is) m.computed in
    let whole = with_lines_sound to_head side context.message m.lines is sound in
    let texts : message_text after ≡ message_text (with_lines_on to_head side context.message m.lines) =
    sym spelled.spells.text ∙ (m.text_is ∙ sym (with_lines_text to_head side context.message m.lines m.has)) in
    let sizes = spelled.sized ∙ ap (λ t. length t) (sym (with_lines_content to_head side context.message m.lines)) in
    let same = one_sound to_head after (with_lines_on to_head side context.message m.lines) (message_sound to_head after spelled.spells.is) whole texts sizes in
    changes_step context step after (record {
      lines = m.lines;
      change = change_is step (lines_on side context.message) m.lines m.computed;
      after_is = same;
      there = ap (lines_on side) same ∙ with_lines_there to_head side context.message m.lines m.has;
      message = spelled.spells.is;
    })

-- ---- a step that gives a message

-- no step makes no lines of no lines
none_of_none : (step : LineRewrite) → changed step [] ≡ Some [] → ⊥
none_of_none (Pad side index before after) e = absurd cc
none_of_none (Fold side index offset blanks) e = absurd cc
none_of_none (Unfold side index offset) e = absurd cc
none_of_none (Join side index later) e = absurd cc
none_of_none (Split side index offset) e = absurd cc
none_of_none (Move side index to) e = absurd cc
none_of_none (Case side index name) e = absurd cc
none_of_none (Add side index name text) e = elim (cases_Bool (nat_le index 0)) [
  | inr fails ↦ absurd (let f : None ≡ Some [] = rw fails at e in cc)
  | inl le ↦ absurd (
      let f : Some (take index [] ++ line_of name text ∷ drop index []) ≡ Some [] = rw le at e in
      let same : take index [] ++ line_of name text ∷ drop index [] ≡ [] = cc in
      let size = ap (λ (ls : List FieldLine). length ls) same in
      let joined = length-append (take index []) (line_of name text ∷ drop index []) in
      omega (arith, size, joined))
]
none_of_none (Remove side index) e = elim (cases_Bool (nat_lt index 0)) [
  | inr fails ↦ absurd (let f : None ≡ Some [] = rw fails at e in cc)
  | inl less ↦ absurd (let low = ltb-true index 0 less in omega (arith, low))
]

-- a side that isn't there has no lines, whatever is put there
no_side : (side : Side) (to_head : Bool) (message : Message) (lines : List FieldLine) → has_side side message ≡ false → (lines_on side message ≡ []) × (lines_on side (with_lines_on to_head side message lines) ≡ [])
no_side Header to_head message lines none = absurd (false≢true (sym none))
no_side Trailer to_head message lines none = by message.body none
  where
    by : (body : Body) → has_trailers body ≡ false → (trailers_in body ≡ []) × (trailers_in (with_trailers lines body) ≡ [])
    by (plain content) f = (refl, refl)
    by (chunked chunks trailers) f = absurd (false≢true (sym f))

pub step_made : (context : MessageContext) (step : LineRewrite) (after : Message) → LineStep context step after
    → (text : List ℕ) × (rewritten context.message step ≡ Some text) × SpellsSized (answers_head context.related) text (length (message_content context.message)) after
step_made context step after gives =
    let to_head = answers_head context.related in
    let side = changed_side step in
    let s = step_changes context step after gives in
    let computed = step_lines context step after s in
    let text = text_with (side_parts side context.message) s.lines in
    elim (cases_Bool (has_side side context.message)) [
      | inl has ↦ (
        text,
        rw has (ap (option_map (text_with (side_parts side context.message))) (ap (changed step) (sym (side_lines side context.message)) ∙ computed)),
        record {
          spells = record { is = s.message; text = sym (ap message_text s.after_is ∙ with_lines_text to_head side context.message s.lines has) };
          sized = ap (λ t. length t) (ap message_content s.after_is ∙ with_lines_content to_head side context.message s.lines);
        },
      )
      | inr none ↦ absurd (
          let empty = no_side side to_head context.message s.lines none in
          let lines : s.lines ≡ [] = sym s.there ∙ (ap (lines_on side) s.after_is ∙ empty.1) in
          none_of_none step (ap (changed step) (sym empty.0) ∙ (computed ∙ ap Some lines)))
    ]

-- ---- what is answered

pub not_made : (context : MessageContext) (step : LineRewrite) → rewritten context.message step ≡ None → HasNoLineStep context step
not_made context step none = λ after gives. let m = step_made context step after gives in (let e = sym none ∙ m.1 in cc)

pub not_spelled : (context : MessageContext) (step : LineRewrite) (text : List ℕ) → rewritten context.message step ≡ Some text
    → ((message : Message) → ¬ SpellsSized (answers_head context.related) text (length (message_content context.message)) message) → HasNoLineStep context step
not_spelled context step text made none = λ after gives.
    let m = step_made context step after gives in
    let same : text ≡ m.0 = (let e = sym made ∙ m.1 in cc) in
    none after (subst (λ t. SpellsSized (answers_head context.related) t (length (message_content context.message)) after) (sym same) m.2)

-- the text that is made tells what the step gives
pub tells_step : (context : MessageContext) (step : LineRewrite) (result : Result (List ℕ) ApplyFault) → IsMessage (answers_head context.related) context.message → is_line_writable step ≡ true
    → Makes (rewritten context.message step) result → IfOk result (SpellsLineStep context step)
tells_step context step (Ok text) is writable made = λ after. (
  λ gives.
      let m = step_made context step after gives in
      let same : m.0 ≡ text = (let e = sym m.1 ∙ made in cc) in
      subst (λ t. SpellsSized (answers_head context.related) t (length (message_content context.message)) after) same m.2,
  λ spelled. result_is context step text after is writable made spelled,
)
tells_step context step (Err fault) is writable made = tt

pub none_made : (context : MessageContext) (step : LineRewrite) (result : Result (List ℕ) ApplyFault) → Makes (rewritten context.message step) result → result ≡ Err NotApplicable → HasNoLineStep context step
none_made context step (Ok text) made e = absurd cc
none_made context step (Err NotApplicable) made e = not_made context step made
none_made context step (Err Memory) made e = absurd cc
