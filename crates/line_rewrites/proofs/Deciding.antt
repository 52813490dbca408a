-- Whether a step gives a message: whether the bytes that it makes are a message's.
use Rattle.std.proofs.Common.{◌≡◌, ◌⊎◌, ℕ, ◌==◌, ◌<◌, Bool, Option, Some, None, List, length, refl, sym, subst, ap, ◌∙◌, inl, inr, arith}
use Rattle.std.proofs.lemmas.Bool.{cases_Bool, cases_lt, eqb-true, false≢true}
use Rattle.std.proofs.lemmas.Bool.Decides.{Decides-eqb}
use Rattle.std.proofs.lemmas.List.{take_all}
use Rattle.std.proofs.Math.Nat.{eq-or-lt_of_le}
use Rattle.msg_body.specs.declared.expect.Expect.TheVariants.{Any}
use Rattle.msg_body.specs.declared.limits.TheConstants.{MAX_MESSAGE_BYTES}
use Rattle.msg_body.specs.Messages.{Message, Spells, SpellsMessage}
use Rattle.msg_body.specs.Views.{message_content}
use Rattle.msg_body.proofs.EachAnswers.{each_has_a_message_answer}
use Rattle.msg_body.proofs.OneMessages.{no_fault_at_message_law, no_message_answer_yet_law, one_message_at_law}
use Rattle.component_values.specs.Context.{answers_head}
use Rattle.line_rewrites.specs.Decisions.{GivesByLinesOrNot}
use Rattle.line_rewrites.specs.Steps.{HasNoLineStep, LineStep}
use Rattle.line_rewrites.specs.tools.Computed.{rewritten}
use Rattle.line_rewrites.specs.Sized.{SpellsSized}
use Rattle.line_rewrites.proofs.Applied.{not_made, not_spelled, result_is}
use Rattle.line_rewrites.proofs.Sizes.{whole_spelled}

-- the text is that of a message whose content has so many bytes, or of none
abbrev IsSizedOrNot : Bool → List ℕ → ℕ → Type 0
IsSizedOrNot to_head text count = ((message : Message) × SpellsSized to_head text count message) ⊎ ((message : Message) → ¬ SpellsSized to_head text count message)

too_long : (to_head : Bool) (text : List ℕ) (count : ℕ) → MAX_MESSAGE_BYTES < length text → (message : Message) → ¬ SpellsSized to_head text count message
too_long to_head text count long message spelled =
    let short = spelled.spells.is.short in
    let same = ap (λ t. length t) spelled.spells.text in
    omega (arith, long, short, same)

-- the one message that the text begins with
found_or_not : (to_head : Bool) (text : List ℕ) (count : ℕ) (found : Message) (used : ℕ) → SpellsMessage to_head found used text → IsSizedOrNot to_head text count
found_or_not to_head text count found used spells = elim (eq-or-lt_of_le spells.within) [
  | inr more ↦ inr (λ message spelled. let at = (is_found message spelled).1 in omega (arith, more, at))
  | inl all ↦ elim (cases_Bool (length (message_content found) == count)) [
    | inl same ↦ inl (
      found,
      record {
        spells = subst (λ (t : List ℕ). Spells to_head found t) (take_all used text (omega (arith, all))) spells.spells;
        sized = eqb-true (length (message_content found)) count same;
      },
    )
    | inr other ↦ inr (λ message spelled.
        let sizes = ap (λ (m : Message). length (message_content m)) (is_found message spelled).0 ∙ spelled.sized in
        false≢true (sym other ∙ (Decides-eqb (length (message_content found)) count).1 sizes))
  ]
]
  where
    is_found : (message : Message) → SpellsSized to_head text count message → (found ≡ message) × (used ≡ length text)
    is_found message spelled = one_message_at_law to_head text found message used (length text) spells (whole_spelled to_head message text spelled.spells)

pub sized_or_not : (to_head : Bool) (text : List ℕ) (count : ℕ) → IsSizedOrNot to_head text count
sized_or_not to_head text count = elim (cases_lt MAX_MESSAGE_BYTES (length text)) [
  | inl long ↦ inr (too_long to_head text count long)
  | inr short ↦ elim (each_has_a_message_answer Any to_head text short) [
    | inl found ↦ found_or_not to_head text count found.0 found.1 found.2
    | inr other ↦ elim other [
      | inl fault ↦ inr (λ message spelled. no_fault_at_message_law Any to_head text message (length text) fault.0 (whole_spelled to_head message text spelled.spells) refl fault.1)
      | inr more ↦ inr (λ message spelled. (no_message_answer_yet_law Any to_head text more).1 message (length text) refl (whole_spelled to_head message text spelled.spells))
    ]
  ]
]

pub has_message_or_none : GivesByLinesOrNot
has_message_or_none context step writable is = by (rewritten context.message step) refl
  where
    by : (made : Option (List ℕ)) → rewritten context.message step ≡ made → ((after : Message) × LineStep context step after) ⊎ HasNoLineStep context step
    by None none = inr (not_made context step none)
    by (Some text) made = elim (sized_or_not (answers_head context.related) text (length (message_content context.message))) [
      | inl found ↦ inl (found.0, result_is context step text found.0 is writable made found.1)
      | inr none ↦ inr (not_spelled context step text made none)
    ]
