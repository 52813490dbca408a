use Rattle.std.proofs.Common.{sym, ◌∙◌}
use Rattle.msg_body.specs.Views.{message_of}
use Rattle.normal_forms.proofs.Agreeing.{wrapped_agree}
use Rattle.normal_forms.proofs.agreement.agree_on.Goals as goal

pub returns-then-has_param : goal.returns-then-has_param
returns-then-has_param c =
    wrapped_agree (message_of c.args.message.now) (message_of c.args.other.now) c.args.id.now c.has_same_values.result (sym c.is_own_field.ensures ∙ c.if-not-is_own_field.false)
    (sym c.has_param.ensures ∙ c.if-has_param.true) (rw (c.side_of-side.ensures, c.bytes.ensures) at c.has_same_values.ensures)
