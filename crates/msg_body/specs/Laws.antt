-- Laws of messages, for one value of `to_head`.
use Rattle.std.specs.Prelude.{◌≡◌, ◌⊎◌, ℕ, ◌<◌, ◌≤◌, Bool, List, length, take, IsTrue}
use Rattle.framing.specs.declared.kind.Framing.TheVariants.{ToEnd}
use Rattle.msg_body.specs.declared.expect.Expect.{Expect}
use Rattle.msg_body.specs.declared.limits.TheConstants.{MAX_MESSAGE_BYTES}
use Rattle.msg_body.specs.declared.error.MessageError.{MessageError}
use Rattle.msg_body.specs.Causes.{IsMessageError, IsMessageUnfinished}
use Rattle.msg_body.specs.Messages.{Message, Spells, SpellsMessage, is_expected}
use Rattle.msg_body.specs.WholeTexts.{IsMessageFault, IsWhole}
use Rattle.msg_body.specs.declared.error.MessageFault.{MessageFault}
use Rattle.msg_body.specs.declared.whole.Reading.{Reading}

-- Bytes spell at most one message. It follows from `OneMessageAt`, over the bytes alone.
abbrev pub OneMessage : Type 0
OneMessage =
    (to_head : Bool) (bytes : List ℕ) (one other : Message) →
    Spells to_head one bytes → Spells to_head other bytes → one ≡ other

-- Where a proper prefix of a message's bytes spells a message too, the content of both goes to the
-- end. So of another message no proper prefix and no longer text that begins with it spells one.
abbrev pub NoMessageInPrefix : Type 0
NoMessageInPrefix =
    (to_head : Bool) (bytes : List ℕ) (one other : Message) (n : ℕ) →
    Spells to_head one bytes → n < length bytes → Spells to_head other (take n bytes) →
    (one.framing ≡ ToEnd) × (other.framing ≡ ToEnd)

-- Bytes begin with at most one message, of one length.
abbrev pub OneMessageAt : Type 0
OneMessageAt =
    (to_head : Bool) (bytes : List ℕ) (one other : Message) (n m : ℕ) →
    SpellsMessage to_head one n bytes → SpellsMessage to_head other m bytes →
    (one ≡ other) × (n ≡ m)

-- Bytes that are no more than a message may have begin with a message of the expected kind, or have
-- a fault, or the end of a message may still come.
abbrev pub EachHasAMessageAnswer : Type 0
EachHasAMessageAnswer =
    (expect : Expect) (to_head : Bool) (bytes : List ℕ) → length bytes ≤ MAX_MESSAGE_BYTES →
    ((message : Message) × (used : ℕ) × SpellsMessage to_head message used bytes
    × IsTrue (is_expected expect message.head.start))
    ⊎ ((fault : MessageError) × IsMessageError expect to_head bytes fault)
    ⊎ IsMessageUnfinished expect to_head bytes

-- Bytes have at most one fault.
abbrev pub OneMessageFault : Type 0
OneMessageFault =
    (expect : Expect) (to_head : Bool) (bytes : List ℕ) (fault other : MessageError) →
    IsMessageError expect to_head bytes fault → IsMessageError expect to_head bytes other →
    fault ≡ other

-- Bytes that begin with a message of the expected kind have no fault.
abbrev pub NoFaultAtMessage : Type 0
NoFaultAtMessage =
    (expect : Expect) (to_head : Bool) (bytes : List ℕ) (message : Message) (used : ℕ)
    (fault : MessageError) →
    SpellsMessage to_head message used bytes → IsTrue (is_expected expect message.head.start) →
    ¬ IsMessageError expect to_head bytes fault

-- Bytes to which the end of a message may still come have no fault, and begin with no message of
-- the expected kind.
abbrev pub NoMessageAnswerYet : Type 0
NoMessageAnswerYet =
    (expect : Expect) (to_head : Bool) (bytes : List ℕ) →
    IsMessageUnfinished expect to_head bytes →
    ((fault : MessageError) → ¬ IsMessageError expect to_head bytes fault)
    × ((message : Message) (used : ℕ) → IsTrue (is_expected expect message.head.start) →
    ¬ SpellsMessage to_head message used bytes)

-- ---- whole texts

-- A text is at most one whole message, read in one way.
abbrev pub OneWhole : Type 0
OneWhole =
    (reading : Reading) (text : List ℕ) (one other : Message) →
    IsWhole reading text one → IsWhole reading text other → one ≡ other

-- It has at most one fault.
abbrev pub OneFaultOfText : Type 0
OneFaultOfText =
    (reading : Reading) (text : List ℕ) (fault other : MessageFault) →
    IsMessageFault reading text fault → IsMessageFault reading text other → fault ≡ other

-- A whole message has none.
abbrev pub NoFaultOfWhole : Type 0
NoFaultOfWhole =
    (reading : Reading) (text : List ℕ) (message : Message) (fault : MessageFault) →
    IsWhole reading text message → ¬ IsMessageFault reading text fault

-- A text that is no longer than a message may be is one, or has a fault.
abbrev pub IsWholeOrNot : Type 0
IsWholeOrNot =
    (reading : Reading) (text : List ℕ) → length text ≤ MAX_MESSAGE_BYTES →
    ((message : Message) × IsWhole reading text message)
    ⊎ ((fault : MessageFault) × IsMessageFault reading text fault)
