-- Each answer to bytes has its cause, and what has a cause is answered.
use Rattle.std.proofs.Common.{◌≢◌, ℕ, Bool, IsTrue, List, refl, ap, inl, inr}
use Rattle.std.specs.Prelude.{Result, Ok, Err}
use Rattle.byte_grammar.specs.Causes.{AnswersWhere, AnswersUnlessMemory}
use Rattle.byte_grammar.proofs.AnswerLaws.{IsMemoryDecided, NamesFault, memory_if, answers_where}
use Rattle.msg_body.specs.declared.expect.Expect.{Expect}
use Rattle.msg_body.specs.declared.error.MessageError.{MessageError}
use Rattle.msg_body.specs.declared.error.MessageError.TheVariants.{Memory, TooLong, NakedEnd, BadStart, TooManyLines, BadLine, FramingConflict, BadLength, CodingRefused, BadChunk, ContentTooLong}
use Rattle.msg_body.specs.declared.read.MessageRead.{MessageRead}
use Rattle.msg_body.specs.declared.read.MessageRead.TheVariants.{Whole, Partial}
use Rattle.msg_body.specs.Messages.{Message, SpellsMessage, is_expected}
use Rattle.msg_body.specs.Views.{message_of}
use Rattle.msg_body.specs.Causes.{IsMessageError, IsMessageUnfinished}
use Rattle.msg_body.specs.Outcome.{IsMessageUnlessMemory}
use Rattle.msg_body.specs.tools.Judged.{ExplainsMessage}
use Rattle.msg_body.proofs.OneMessages.{one_message_at_law, one_message_fault_law, no_fault_at_message_law, no_message_answer_yet_law}

memory_or_not : IsMemoryDecided Memory
memory_or_not Memory = inl refl
memory_or_not (TooLong side) = inr (λ e. cc)
memory_or_not (NakedEnd offset) = inr (λ e. cc)
memory_or_not BadStart = inr (λ e. cc)
memory_or_not (TooManyLines side) = inr (λ e. cc)
memory_or_not (BadLine side index) = inr (λ e. cc)
memory_or_not FramingConflict = inr (λ e. cc)
memory_or_not BadLength = inr (λ e. cc)
memory_or_not CodingRefused = inr (λ e. cc)
memory_or_not (BadChunk offset) = inr (λ e. cc)
memory_or_not ContentTooLong = inr (λ e. cc)

pub found_is : (expect : Expect) (to_head : Bool) (bytes : List ℕ) (result : Result MessageRead MessageError) → ExplainsMessage expect to_head bytes result
    → (message : Message) (used : ℕ) → SpellsMessage to_head message used bytes → IsTrue (is_expected expect message.head.start) → IsMessageUnlessMemory result message used
found_is expect to_head bytes (Ok (Whole view count)) x message used s expected =
    one_message_at_law to_head bytes (message_of view) message count used x.spells s
found_is expect to_head bytes (Ok Partial) x message used s expected =
    absurd ((no_message_answer_yet_law expect to_head bytes x).1 message used expected s)
found_is expect to_head bytes (Err e) x message used s expected =
    memory_if Memory memory_or_not e (λ own. no_fault_at_message_law expect to_head bytes message used e s expected (x own))

pub unfinished_is : (expect : Expect) (to_head : Bool) (bytes : List ℕ) (result : Result MessageRead MessageError) → ExplainsMessage expect to_head bytes result
    → IsMessageUnfinished expect to_head bytes → AnswersUnlessMemory Memory result Partial
unfinished_is expect to_head bytes (Ok (Whole view count)) x more =
    absurd ((no_message_answer_yet_law expect to_head bytes more).1 (message_of view) count x.expected x.spells)
unfinished_is expect to_head bytes (Ok Partial) x more = inl refl
unfinished_is expect to_head bytes (Err e) x more =
    inr (ap Err (memory_if Memory memory_or_not e (λ own. (no_message_answer_yet_law expect to_head bytes more).0 e (x own))))

named : (expect : Expect) (to_head : Bool) (bytes : List ℕ) (result : Result MessageRead MessageError) → ExplainsMessage expect to_head bytes result → NamesFault Memory (IsMessageError expect to_head bytes) result
named expect to_head bytes (Ok (Whole view count)) x =
    λ fault. no_fault_at_message_law expect to_head bytes (message_of view) count fault x.spells x.expected
named expect to_head bytes (Ok Partial) x = (no_message_answer_yet_law expect to_head bytes x).0
named expect to_head bytes (Err e) x = x

pub fault_is : (expect : Expect) (to_head : Bool) (bytes : List ℕ) (result : Result MessageRead MessageError) → ExplainsMessage expect to_head bytes result
    → (fault : MessageError) → fault ≢ Memory → AnswersWhere Memory result fault (IsMessageError expect to_head bytes fault)
fault_is expect to_head bytes result x =
    answers_where Memory memory_or_not (IsMessageError expect to_head bytes) result (one_message_fault_law expect to_head bytes) (named expect to_head bytes result x)
