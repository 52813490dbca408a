use Rattle.std.proofs.Common.{All, take}
use Rattle.msg_body.specs.Views.{message_of}
use Rattle.normal_forms.specs.Agreement.{HasSameBasis}
use Rattle.normal_forms.proofs.agreement.first_other.Given as goal

abbrev pub invariant-loop-basis : goal.invariant-loop-basis
invariant-loop-basis l = All (HasSameBasis (message_of l.message) (message_of l.other)) (take l.basis-index l.basis-items)
