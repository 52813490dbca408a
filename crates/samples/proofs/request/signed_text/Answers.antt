use Rattle.std.proofs.Common.{◌≤◌, ◌∙◌, List, ℕ, None, ap, length, refl, subst, sym}
use Rattle.component_values.specs.Context.{MessageContext, context_of}
use Rattle.msg_body.specs.Views.{message_of}
use Rattle.msg_body.specs.declared.limits.TheConstants.{MAX_MESSAGE_BYTES}
use Rattle.settings.specs.Configuration.{Configuration}
use Rattle.verdicts.specs.Contexts.{context_for}
use Rattle.samples.proofs.Signed.{is_unsigned, no_request_fault, of_context}
use Rattle.samples.proofs.Unsigned.{request_short}
use Rattle.samples.proofs.request.signed_text.Goals as goal

pub signed_message-requires-clause-context : goal.signed_message-requires-clause-context
signed_message-requires-clause-context c =
    of_context (message_of c.in-Ok.unsigned) (context_of c.context_for-context.result)
    (c.context_for-context.ensures ∙ ap (λ (conf : Configuration). context_for conf (message_of c.in-Ok.unsigned) None) c.requires.conf)

pub signed_message-requires-clause-unsigned : goal.signed_message-requires-clause-unsigned
signed_message-requires-clause-unsigned c = (
  c.requires.request.0,
  is_unsigned c.requires.request.0 c.of_request.result c.args.bytes.now (message_of c.in-Ok.unsigned) (context_of c.context_for-context.result).message
      c.of_request.ensures c.in-Ok.ensures.whole (ap (λ (m : MessageContext). m.message) c.context_for-context.ensures) c.requires.request.1,
)

pub whole_message-requires : goal.whole_message-requires
whole_message-requires c =
    subst (λ (text : List ℕ). length text ≤ MAX_MESSAGE_BYTES) (sym c.requires.request.1) (request_short c.requires.request.0)

pub returns : goal.returns
returns c = λ seed is.
    c.signed_message.ensures seed
    (is_unsigned seed c.of_request.result c.args.bytes.now (message_of c.in-Ok.unsigned) (context_of c.context_for-context.result).message
    c.of_request.ensures c.in-Ok.ensures.whole (ap (λ (m : MessageContext). m.message) c.context_for-context.ensures) is)

pub only_memory-requires : goal.only_memory-requires
only_memory-requires c = λ told.
    no_request_fault c.requires.request.0 c.of_request.result c.args.bytes.now c.in-Err.fault c.of_request.ensures c.requires.request.1 ((c.in-Err.ensures.fault c.in-Err.fault told).only refl)
