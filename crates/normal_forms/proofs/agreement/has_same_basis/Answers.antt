use Rattle.std.proofs.Common.{◌∙◌}
use Rattle.std.specs.Str.{bytes_eq}
use Rattle.msg_body.specs.Views.{message_of}
use Rattle.normal_forms.proofs.Agreeing.{start_decides}
use Rattle.normal_forms.proofs.agreement.has_same_basis.Goals as goal

pub returns-in-StartLine : goal.returns-in-StartLine
returns-in-StartLine c =
    start_decides (message_of c.args.message.now) (message_of c.args.other.now) c.args.basis c.eq.result c.requires.first c.requires.second c.in-StartLine.is
    (c.eq.ensures ∙ (λ i. bytes_eq (c.start_line.ensures i) (c.start_line-in-StartLine.ensures i)))
