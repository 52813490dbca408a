use Rattle.std.proofs.Common.{◌≡◌, ◌++◌}
use Rattle.msg_body.specs.Content.{content_left}
use Rattle.msg_body.specs.Views.{message_of, message_content}
use Rattle.msg_body.proofs.view.MessageView.append_content.Given as goal

abbrev pub invariant-loop-piece : goal.invariant-loop-piece
invariant-loop-piece l = l.text ++ content_left l.piece-iterator ≡ l.initial.text ++ message_content (message_of l.fn.self)
