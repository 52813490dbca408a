use Rattle.msg_body.specs.SameFields.{name_of}
use Rattle.msg_head.specs.Views.{field_line_of}
use Rattle.normal_forms.proofs.SideKept.{kept_is}
use Rattle.normal_forms.proofs.side.is_kept.Goals as goal

pub returns : goal.returns
returns c =
    let name = name_of (field_line_of c.args.line) in
    kept_is c.args.side c.args.params.now name c.is_met.result
    (λ met. (c.value_condition.ensures c.args.params.now).0 (c.is_met.ensures.0 met), λ may. c.is_met.ensures.1 ((c.value_condition.ensures c.args.params.now).1 may))
