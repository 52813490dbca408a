use Rattle.std.proofs.Common.{subst, sym}
use Rattle.std.specs.Prelude.{option_map}
use Rattle.component_values.specs.Context.{HasWholeMessage, MessageContext}
use Rattle.msg_body.specs.Views.{message_of}
use Rattle.intake.specs.Messages.{IsInputMessage}
use Rattle.msg_body.specs.declared.whole.Reading.{Reading}
use Rattle.intake.specs.Files.{Other, Request}
use Rattle.program.specs.tools.Parts.{HasOther, HasRequested, values_of}
use Rattle.program.proofs.Sources.{after_answer, after_refusal, spelled_input}
use Rattle.std.proofs.lemmas.Result.{err_from_is_err_and}
use Rattle.program.proofs.over_message.over_input.Goals as goal

pub returns-in_err-message-clause-after : goal.returns-in_err-message-clause-after
returns-in_err-message-clause-after g c =
    let p = err_from_is_err_and c.from_residual.result c.from_residual.ensures.1 in
    rw (p.1, p.2) (after_refusal c.of_input-reading.result c.args.input.now c.in_err-message.field-0.0 c.requires.short c.in_err-message.ensures.refused)

pub returns-clause-after : goal.returns-clause-after
returns-clause-after g c = after_answer c.answer-answer.result c.answer-answer.ensures.own

pub answer-answer-requires-clause-whole : goal.answer-answer-requires-clause-whole
answer-answer-requires-clause-whole g c =
    let related = (values_of c.args.files).related in
    let is = subst (λ (r : Reading). IsInputMessage r c.args.input.now (message_of c.in_ok-message.message)) c.of_input-reading.ensures c.in_ok-message.ensures.ok in
    subst HasWholeMessage (sym c.context_for-context.ensures)
    (spelled_input related c.args.input.now (message_of c.in_ok-message.message) is).is

pub answer-answer-requires-clause-other : goal.answer-answer-requires-clause-other
answer-answer-requires-clause-other g c =
    subst (λ (context : MessageContext). HasOther (g.C.OverMessage.names c.args.command.now Other) context.related (option_map (λ view. message_of view.now) c.args.other)) (sym c.context_for-context.ensures) c.requires.other

pub answer-answer-requires-clause-requested : goal.answer-answer-requires-clause-requested
answer-answer-requires-clause-requested g c =
    subst (λ (context : MessageContext). HasRequested (g.C.OverMessage.names c.args.command.now Request) context.related) (sym c.context_for-context.ensures) c.requires.requested
