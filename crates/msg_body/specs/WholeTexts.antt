-- Texts that are one whole message, and why others aren't (RFC 9112 sections 2.1 and 6.3).
use Rattle.std.specs.Prelude.{◌≡◌, ◌<◌, ℕ, false, IsTrue, List, length, Option, Some, None}
use Rattle.framing.specs.Framings.{is_head_request}
use Rattle.msg_body.specs.Causes.{IsMessageError, IsMessageUnfinished}
use Rattle.msg_body.specs.Messages.{Message, Spells, SpellsMessage, is_expected}
use Rattle.msg_body.specs.declared.error.MessageError.TheVariants.{Memory}
use Rattle.msg_body.specs.declared.error.MessageFault.{MessageFault}
use Rattle.msg_body.specs.declared.error.MessageFault.TheVariants.{Refused, Truncated, Trailing}
use Rattle.msg_body.specs.declared.expect.Expect.TheVariants.{Any, Request, Response}
use Rattle.msg_body.specs.declared.whole.Reading.{Reading}

-- a message of either kind; a response answers no request that is known
abbrev pub any_message : Reading
any_message = record { expect = Any; to_head = false }

-- a request
abbrev pub one_request : Reading
one_request = record { expect = Request; to_head = false }

-- A response to the request, which has no content where the request's method is HEAD (RFC 9112
-- section 6.3); and a message of either kind where no request is known.
abbrev pub reading_for : Option Message → Reading
reading_for None = any_message
reading_for (Some answered) =
    record { expect = Response; to_head = is_head_request answered.head.start }

-- the text is this message, read in this way, and nothing more
pub record IsWhole (reading : Reading) (text : List ℕ) (message : Message) : Type 0 where
  pub expected : IsTrue (is_expected reading.expect message.head.start)
  pub spells : Spells reading.to_head message text

-- a message of so many bytes, and further bytes
pub record GoesOn (reading : Reading) (text : List ℕ) (offset : ℕ) : Type 0 where
  pub message : Message
  pub expected : IsTrue (is_expected reading.expect message.head.start)
  pub spells : SpellsMessage reading.to_head message offset text
  pub more : offset < length text

-- no memory was found, which says nothing of the text
abbrev pub out_of_memory : MessageFault
out_of_memory = Refused Memory

-- why a text isn't one whole message, read in this way
abbrev pub IsMessageFault : Reading → List ℕ → MessageFault → Type 0
IsMessageFault reading text (Refused error) =
    IsMessageError reading.expect reading.to_head text error
IsMessageFault reading text (Truncated count) = (count ≡ length text)
    × IsMessageUnfinished reading.expect reading.to_head text
IsMessageFault reading text (Trailing offset) = GoesOn reading text offset
