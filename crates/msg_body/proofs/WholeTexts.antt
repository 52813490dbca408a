-- A text is one whole message, or has one fault.
use Rattle.std.proofs.Common.{◌≡◌, ◌≢◌, ◌⊎◌, ◌<◌, ℕ, Bool, List, length, inl, inr, Ok, Err, refl, sym, ap, subst, ◌∙◌, arith}
use Rattle.std.specs.Prelude.{IsTrue}
use Rattle.std.proofs.lemmas.List.{take_all}
use Rattle.std.proofs.Math.Nat.{eq-or-lt_of_le}
use Rattle.byte_grammar.specs.Causes.{AnswersWhere}
use Rattle.msg_body.specs.Causes.{IsMessageError}
use Rattle.msg_body.specs.Laws.{OneWhole, OneFaultOfText, NoFaultOfWhole, IsWholeOrNot}
use Rattle.msg_body.specs.Messages.{Message, Spells, SpellsMessage, is_expected}
use Rattle.msg_body.specs.WholeTexts.{IsMessageFault, IsWhole, out_of_memory}
use Rattle.msg_body.specs.declared.error.MessageError.{MessageError}
use Rattle.msg_body.specs.declared.error.MessageError.TheVariants.{Memory, TooLong, NakedEnd, BadStart, TooManyLines, BadLine, FramingConflict, BadLength, CodingRefused, BadChunk, ContentTooLong}
use Rattle.msg_body.specs.declared.read.MessageRead.TheVariants.{Whole}
use Rattle.msg_body.specs.Outcome.{IfWholeMessage}
use Rattle.msg_body.specs.Views.{IsMessageViewOf, MessageParts, message_of}
use Rattle.msg_body.specs.declared.error.MessageFault.{MessageFault}
use Rattle.msg_body.specs.declared.error.MessageFault.TheVariants.{Refused, Truncated, Trailing}
use Rattle.msg_body.specs.declared.whole.Reading.{Reading}
use Rattle.msg_body.proofs.EachAnswers.{each_has_a_message_answer}
use Rattle.msg_body.proofs.OneMessages.{one_message_at_law, one_message_fault_law, no_fault_at_message_law, no_message_answer_yet_law}

-- a whole text, as its first bytes
pub at_length : (to_head : Bool) (text : List ℕ) (message : Message) → Spells to_head message text → SpellsMessage to_head message (length text) text
at_length to_head text message spelled = record {
  within = omega arith;
  spells = subst (λ (bytes : List ℕ). Spells to_head message bytes) (sym (take_all (length text) text (omega arith))) spelled;
  all = λ _. refl;
}

pub one_whole : OneWhole
one_whole r text one other is also =
    (one_message_at_law r.to_head text one other (length text) (length text)
    (at_length r.to_head text one is.spells) (at_length r.to_head text other also.spells)).0

pub one_fault_of_text : OneFaultOfText
one_fault_of_text r text (Refused e) (Refused d) a b = ap Refused (one_message_fault_law r.expect r.to_head text e d a b)
one_fault_of_text r text (Refused e) (Truncated n) a b = absurd ((no_message_answer_yet_law r.expect r.to_head text b.1).0 e a)
one_fault_of_text r text (Refused e) (Trailing o) a b = absurd (no_fault_at_message_law r.expect r.to_head text b.message o e b.spells b.expected a)
one_fault_of_text r text (Truncated n) (Refused e) a b = absurd ((no_message_answer_yet_law r.expect r.to_head text a.1).0 e b)
one_fault_of_text r text (Truncated n) (Truncated m) a b = ap Truncated (a.0 ∙ sym b.0)
one_fault_of_text r text (Truncated n) (Trailing o) a b = absurd ((no_message_answer_yet_law r.expect r.to_head text a.1).1 b.message o b.expected b.spells)
one_fault_of_text r text (Trailing o) (Refused e) a b = absurd (no_fault_at_message_law r.expect r.to_head text a.message o e a.spells a.expected b)
one_fault_of_text r text (Trailing o) (Truncated n) a b = absurd ((no_message_answer_yet_law r.expect r.to_head text b.1).1 a.message o a.expected a.spells)
one_fault_of_text r text (Trailing o) (Trailing p) a b = ap Trailing (one_message_at_law r.to_head text a.message b.message o p a.spells b.spells).1

pub no_fault_of_whole : NoFaultOfWhole
no_fault_of_whole r text message (Refused e) is fault =
    no_fault_at_message_law r.expect r.to_head text message (length text) e (at_length r.to_head text message is.spells) is.expected fault
no_fault_of_whole r text message (Truncated n) is fault =
    (no_message_answer_yet_law r.expect r.to_head text fault.1).1 message (length text) is.expected (at_length r.to_head text message is.spells)
no_fault_of_whole r text message (Trailing o) is fault =
    let used : length text ≡ o =
    (one_message_at_law r.to_head text message fault.message (length text) o (at_length r.to_head text message is.spells) fault.spells).1 in
    let more = fault.more in
    absurd (omega (arith, used, more))

-- all of the text is the message's
pub all_of_text : (r : Reading) (text : List ℕ) (message : Message) (used : ℕ) → SpellsMessage r.to_head message used text
    → IsTrue (is_expected r.expect message.head.start) → used ≡ length text → IsWhole r text message
all_of_text r text message used spells expected all = record {
  expected = expected;
  spells = subst (λ (bytes : List ℕ). Spells r.to_head message bytes) (take_all used text (omega (arith, all))) spells.spells;
}

-- it is, or more bytes come
at_message : (r : Reading) (text : List ℕ) (message : Message) (used : ℕ) → SpellsMessage r.to_head message used text
    → IsTrue (is_expected r.expect message.head.start)
    → ((m : Message) × IsWhole r text m) ⊎ ((fault : MessageFault) × IsMessageFault r text fault)
at_message r text message used spells expected = elim (eq-or-lt_of_le spells.within) [
  | inl all ↦ inl (message, all_of_text r text message used spells expected all)
  | inr more ↦ inr (Trailing used, record { message = message; expected = expected; spells = spells; more = more })
]

pub is_whole_or_not : IsWholeOrNot
is_whole_or_not r text short = elim (each_has_a_message_answer r.expect r.to_head text short) [
  | inl found ↦ at_message r text found.0 found.1 found.2 found.3
  | inr other ↦ elim other [
    | inl fault ↦ inr (Refused fault.0, fault.1)
    | inr more ↦ inr (Truncated (length text), (refl, more))
  ]
]

-- ---- the answers

-- a whole message is answered for no fault
pub whole_answers : {T : Type 0} (r : Reading) (text : List ℕ) (message : Message) (result : T) (fault : MessageFault)
    → IsWhole r text message → AnswersWhere out_of_memory (Ok result) fault (IsMessageFault r text fault)
whole_answers r text message result fault is = record {
  only = λ same. absurd (cc same);
  there = λ holds. absurd (no_fault_of_whole r text message fault is holds);
}

-- the fault of a text is answered for it alone
pub fault_answers : {T : Type 0} (r : Reading) (text : List ℕ) (own fault : MessageFault) → IsMessageFault r text own
    → AnswersWhere {T = T} out_of_memory (Err own) fault (IsMessageFault r text fault)
fault_answers r text own fault is = record {
  only = λ same. subst (λ (f : MessageFault). IsMessageFault r text f) (cc same) is;
  there = λ holds. inl (ap Err (one_fault_of_text r text own fault is holds));
}

-- a view of all of the text
pub view_whole : (r : Reading) (text : List ℕ) (view : MessageParts) (used : ℕ)
    → IfWholeMessage (Ok (Whole view used)) (IsMessageViewOf r.expect r.to_head text) → used ≡ length text → IsWhole r text (message_of view)
view_whole r text view used is all = all_of_text r text (message_of view) used is.spells is.expected all

-- a view of a part of it
pub view_trails : {T : Type 0} (r : Reading) (text : List ℕ) (view : MessageParts) (used : ℕ)
    → IfWholeMessage (Ok (Whole view used)) (IsMessageViewOf r.expect r.to_head text) → ¬ (used ≡ length text)
    → (fault : MessageFault) → AnswersWhere {T = T} out_of_memory (Err (Trailing used)) fault (IsMessageFault r text fault)
view_trails r text view used is other fault =
    let within = is.spells.within in
    let more : used < length text = omega (arith, within, other) in
    fault_answers r text (Trailing used) fault (record { message = message_of view; expected = is.expected; spells = is.spells; more = more })

-- why no message is there
pub error_answers : {R T : Type 0} (r : Reading) (text : List ℕ) (error : MessageError)
    → ((other : MessageError) → other ≢ Memory → AnswersWhere {T = R} Memory (Err error) other (IsMessageError r.expect r.to_head text other))
    → (fault : MessageFault) → fault ≢ out_of_memory → AnswersWhere {T = T} out_of_memory (Err (Refused error)) fault (IsMessageFault r text fault)
error_answers {R} {T} r text error faults fault other = elim (known error) [
  | inl ran_out ↦ rw ran_out (record { only = λ same. absurd (other (cc same)); there = λ _. inr refl })
  | inr is ↦ fault_answers r text (Refused error) fault ((faults error is).only refl)
]
  where
    known : (e : MessageError) → (e ≡ Memory) ⊎ (e ≢ Memory)
    known Memory = inl refl
    known (TooLong side) = inr (λ e. absurd (cc e))
    known (NakedEnd offset) = inr (λ e. absurd (cc e))
    known BadStart = inr (λ e. absurd (cc e))
    known (TooManyLines side) = inr (λ e. absurd (cc e))
    known (BadLine side index) = inr (λ e. absurd (cc e))
    known FramingConflict = inr (λ e. absurd (cc e))
    known BadLength = inr (λ e. absurd (cc e))
    known CodingRefused = inr (λ e. absurd (cc e))
    known (BadChunk offset) = inr (λ e. absurd (cc e))
    known ContentTooLong = inr (λ e. absurd (cc e))
