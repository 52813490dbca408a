use Rattle.std.proofs.Common.{◌≡◌, false, take}
use Rattle.msg_head.specs.Values.{is_there}
use Rattle.msg_body.specs.Views.{lines_on, message_of}
use Rattle.whole_rewrites.proofs.field.first_named.Given as goal

abbrev pub invariant-loop-index : goal.invariant-loop-index
invariant-loop-index l = is_there (take l.index (lines_on l.side (message_of l.message))) l.name ≡ false
