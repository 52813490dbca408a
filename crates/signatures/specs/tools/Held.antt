-- The context that an exchange holds. No public clause cites this module.
use Rattle.std.specs.Prelude.{option_map}
use Rattle.msg_body.specs.Views.{MessageParts, message_of}
use Rattle.component_values.specs.Context.{MessageContext}
use Rattle.signatures.specs.declared.held.HeldMessage.{HeldMessage}
use Rattle.signatures.specs.declared.held.HeldMessage.TheVariants.{Owned, Borrowed}
use Rattle.signatures.specs.declared.held.HeldContext.{HeldContext}

-- the message, owned or borrowed
abbrev pub held_message : HeldMessage → MessageParts
held_message (Owned message) = message
held_message (Borrowed message) = message.now

-- what the held parts stand for
abbrev pub held_context : HeldContext → MessageContext
held_context held = record {
  message = message_of (held_message held.message);
  related = option_map (λ request. message_of request.now) held.related;
  scheme = held.scheme;
  types = held.types.now;
}
