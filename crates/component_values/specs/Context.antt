-- What the values of components are drawn from (RFC 9421 sections 1.1 and 2.4).
use Rattle.std.specs.Prelude.{Bool, false, Option, Some, None, option_map}
use Rattle.framing.specs.Framings.{is_head_request}
use Rattle.msg_body.specs.Messages.{Message, IsMessage}
use Rattle.msg_body.specs.Views.{message_of}
use Rattle.component_ids.specs.Types.{KindMap}
use Rattle.component_ids.specs.declared.scheme.Scheme.{Scheme}
use Rattle.component_values.specs.declared.context.Context.{Context}

-- the message that is signed, the request that it answers, the scheme that is configured, and the
-- kinds of structured fields
pub record MessageContext : Type 0 where
  pub message : Message
  pub related : Option Message
  pub scheme : Scheme
  pub types : KindMap

-- what the borrowed parts stand for
abbrev pub context_of : Context → MessageContext
context_of context = record {
  message = message_of context.message.now;
  related = option_map (λ request. message_of request.now) context.related;
  scheme = context.scheme;
  types = context.types.now;
}

-- the message answers a HEAD request
abbrev pub answers_head : Option Message → Bool
answers_head None = false
answers_head (Some related) = is_head_request related.head.start

-- The message of the context is a whole one: where it answers a HEAD request, it is a message that
-- does (RFC 9112 section 6.3).
abbrev pub HasWholeMessage : MessageContext → Type 0
HasWholeMessage context = IsMessage (answers_head context.related) context.message

-- the context, this message in place of its own
abbrev pub context_with : MessageContext → Message → MessageContext
context_with context message = record {
  message = message;
  related = context.related;
  scheme = context.scheme;
  types = context.types;
}
