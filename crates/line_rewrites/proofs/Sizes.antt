-- What is read of a text, and how many bytes its content has.
use Rattle.std.proofs.Common.{◌≡◌, ◌≢◌, ℕ, ◌==◌, ◌&&◌, Bool, true, false, IsTrue, List, length, take, Result, Ok, Err, inl, inr, refl, sym, subst, ap, ◌∙◌, arith}
use Rattle.std.proofs.lemmas.Bool.{and_parts, and_from, eqb-true, false≢true}
use Rattle.std.proofs.lemmas.Bool.Decides.{Decides-eqb}
use Rattle.std.proofs.Math.Seq.{take-length}
use Rattle.byte_grammar.specs.Causes.{AnswersWhere}
use Rattle.msg_body.specs.declared.error.MessageError.{MessageError}
use Rattle.msg_body.specs.declared.error.MessageError.TheVariants.{Memory}
use Rattle.msg_body.specs.declared.expect.Expect.TheVariants.{Any}
use Rattle.msg_body.specs.declared.read.MessageRead.{MessageRead}
use Rattle.msg_body.specs.declared.read.MessageRead.TheVariants.{Whole, Partial}
use Rattle.msg_body.specs.Messages.{Message, Spells, SpellsMessage, is_expected}
use Rattle.msg_body.specs.Outcome.{IsMessageUnlessMemory}
use Rattle.msg_body.specs.Views.{IsMessageViewOf, MessageParts, message_content, message_of}
use Rattle.line_rewrites.specs.Sized.{HasNoSized, SpellsSized}
use Rattle.line_rewrites.specs.declared.fault.ApplyFault.{ApplyFault}
use Rattle.line_rewrites.specs.declared.fault.ApplyFault.TheVariants.{Memory as OutOfMemory, NotApplicable}

abbrev pub is_sized : List ℕ → ℕ → MessageParts → ℕ → Bool
is_sized text count view used = (used == length text) && (length (message_content (message_of view)) == count)

-- a message that is read is found
abbrev pub Finds : Bool → List ℕ → Result MessageRead MessageError → Type 0
Finds to_head text result = (message : Message) (used : ℕ) → SpellsMessage to_head message used text → IsTrue (is_expected Any message.head.start) → IsMessageUnlessMemory result message used

pub whole_spelled : (to_head : Bool) (message : Message) (bytes : List ℕ) → Spells to_head message bytes → SpellsMessage to_head message (length bytes) bytes
whole_spelled to_head message bytes spells = record {
  within = omega arith;
  spells = subst (λ (t : List ℕ). Spells to_head message t) (sym (take-length bytes)) spells;
  all = λ _. refl;
}

found_whole : (to_head : Bool) (text : List ℕ) (count : ℕ) (result : Result MessageRead MessageError) → Finds to_head text result → (message : Message) → SpellsSized to_head text count message
    → IsMessageUnlessMemory result message (length text)
found_whole to_head text count result finds message spelled = finds message (length text) (whole_spelled to_head message text spelled.spells) refl

pub is_read : (to_head : Bool) (text : List ℕ) (count : ℕ) (view : MessageParts) (used : ℕ) (b : Bool) → IsMessageViewOf Any to_head text view used → b ≡ is_sized text count view used → b ≡ true
    → SpellsSized to_head text count (message_of view)
is_read to_head text count view used b is same passes =
    let both = and_parts (used == length text) (length (message_content (message_of view)) == count) (sym same ∙ passes) in
    let whole : take used text ≡ text = ap (λ n. take n text) (eqb-true used (length text) both.0) ∙ take-length text in
    record {
      spells = subst (λ (t : List ℕ). Spells to_head (message_of view) t) whole is.spells.spells;
      sized = eqb-true (length (message_content (message_of view))) count both.1;
    }

pub is_not_read : (to_head : Bool) (text : List ℕ) (count : ℕ) (result : Result MessageRead MessageError) (view : MessageParts) (used : ℕ) (b : Bool) → Finds to_head text result → result ≡ Ok (Whole view used)
    → b ≡ is_sized text count view used → b ≡ false → (message : Message) → ¬ SpellsSized to_head text count message
is_not_read to_head text count result view used b finds is same fails message spelled =
    let found = subst (λ (r : Result MessageRead MessageError). IsMessageUnlessMemory r message (length text)) is (found_whole to_head text count result finds message spelled) in
    let sizes = ap (λ (m : Message). length (message_content m)) found.0 ∙ spelled.sized in
    false≢true (sym fails ∙ (same ∙ and_from (used == length text) (length (message_content (message_of view)) == count)
    ((Decides-eqb used (length text)).1 found.1) ((Decides-eqb (length (message_content (message_of view))) count).1 sizes)))

pub none_partial : (to_head : Bool) (text : List ℕ) (count : ℕ) (result : Result MessageRead MessageError) → Finds to_head text result → result ≡ Ok Partial → (message : Message) → ¬ SpellsSized to_head text count message
none_partial to_head text count result finds is message spelled =
    subst (λ (r : Result MessageRead MessageError). IsMessageUnlessMemory r message (length text)) is (found_whole to_head text count result finds message spelled)

pub none_refused : (to_head : Bool) (text : List ℕ) (count : ℕ) (result : Result MessageRead MessageError) (error : MessageError) → Finds to_head text result → result ≡ Err error → error ≢ Memory → (message : Message)
    → ¬ SpellsSized to_head text count message
none_refused to_head text count result error finds is other message spelled =
    other (subst (λ (r : Result MessageRead MessageError). IsMessageUnlessMemory r message (length text)) is (found_whole to_head text count result finds message spelled))

-- ---- what is answered

pub whole_answers : (to_head : Bool) (text : List ℕ) (count : ℕ) (view : MessageParts) → SpellsSized to_head text count (message_of view) → AnswersWhere {T = MessageParts} OutOfMemory (Ok view) NotApplicable (HasNoSized to_head text count)
whole_answers to_head text count view spelled = record { only = λ e. absurd cc; there = λ none. absurd (none (message_of view) spelled) }

pub none_answers : (to_head : Bool) (text : List ℕ) (count : ℕ) → HasNoSized to_head text count → AnswersWhere {T = MessageParts} OutOfMemory (Err NotApplicable) NotApplicable (HasNoSized to_head text count)
none_answers to_head text count none = record { only = λ _. none; there = λ _. inl refl }

pub fault_answers : (to_head : Bool) (text : List ℕ) (count : ℕ) (fault : ApplyFault) → (fault ≡ NotApplicable → HasNoSized to_head text count) → AnswersWhere {T = MessageParts} OutOfMemory (Err fault) NotApplicable (HasNoSized to_head text count)
fault_answers to_head text count NotApplicable none = none_answers to_head text count (none refl)
fault_answers to_head text count OutOfMemory none = record { only = λ e. absurd cc; there = λ _. inr refl }
