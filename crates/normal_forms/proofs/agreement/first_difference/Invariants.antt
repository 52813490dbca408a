use Rattle.std.proofs.Common.{All, take}
use Rattle.msg_body.specs.Views.{message_of}
use Rattle.normal_forms.specs.Agreement.{AgreeOn}
use Rattle.normal_forms.proofs.agreement.first_difference.Given as goal

abbrev pub invariant-loop-index : goal.invariant-loop-index
invariant-loop-index l = All (AgreeOn (message_of l.message) (message_of l.other)) (take l.index l.ids)
