-- What the reader of messages answers.
use Rattle.std.specs.Prelude.{◌≡◌, ℕ, Result, Ok, Err, ⊤}
use Rattle.msg_body.specs.declared.read.MessageRead.{MessageRead}
use Rattle.msg_body.specs.declared.read.MessageRead.TheVariants.{Whole, Partial}
use Rattle.msg_body.specs.declared.error.MessageError.{MessageError}
use Rattle.msg_body.specs.declared.error.MessageError.TheVariants.{Memory}
use Rattle.msg_body.specs.Messages.{Message}
use Rattle.msg_body.specs.Views.{MessageParts, message_of}

-- where the answer is a message's view and length, this holds of them
abbrev pub IfWholeMessage : Result MessageRead MessageError → (MessageParts → ℕ → Type 0) → Type 0
IfWholeMessage (Ok (Whole view used)) P = P view used
IfWholeMessage (Ok Partial) P = ⊤
IfWholeMessage (Err _) P = ⊤

-- the answer is a view of this message, and its length, or out of memory
abbrev pub IsMessageUnlessMemory : Result MessageRead MessageError → Message → ℕ → Type 0
IsMessageUnlessMemory (Ok (Whole view count)) message used =
    (message_of view ≡ message) × (count ≡ used)
IsMessageUnlessMemory (Ok Partial) message used = ⊥
IsMessageUnlessMemory (Err error) message used = error ≡ Memory
