use Rattle.std.proofs.Common.{Bool, ap, subst, sym}
use Rattle.component_values.specs.Context.{MessageContext, answers_head, context_of}
use Rattle.msg_body.specs.Messages.{IsMessage}
use Rattle.signing.specs.Specs.{IsValidSpec}
use Rattle.signing.specs.declared.spec.SignSpec.{SignSpec}
use Rattle.samples.proofs.Signed.{never_refused, says_text}
use Rattle.samples.proofs.Valid.{spec_valid}
use Rattle.samples.proofs.request.signed_by.Goals as goal

pub sign-requires-clause-valid : goal.sign-requires-clause-valid
sign-requires-clause-valid c = subst (λ (s : SignSpec). IsValidSpec s) (sym c.requires.spec) spec_valid

pub sign-requires-clause-whole : goal.sign-requires-clause-whole
sign-requires-clause-whole c =
    subst (λ (b : Bool). IsMessage b (context_of c.args.context.now).message) (sym (ap (λ (m : MessageContext). answers_head m.related) c.requires.context)) c.requires.unsigned.1.spells.is

pub returns-in-Ok : goal.returns-in-Ok
returns-in-Ok c = λ seed is.
    says_text seed (context_of c.args.context.now) c.args.spec.now c.in-Ok.signed is c.requires.context c.requires.spec
    c.in-Ok.ensures.spells

pub unreachable-requires : goal.unreachable-requires
unreachable-requires c =
    never_refused c.requires.unsigned.0 (context_of c.args.context.now) c.args.spec.now c.in-Err.fault c.requires.unsigned.1 c.requires.context c.requires.spec c.in_default.not-Memory c.in-Err.ensures.fault
