use Rattle.std.proofs.Common.{◌≡◌, ◌-◌, false, take, drop}
use Rattle.msg_head.specs.Values.{is_there}
use Rattle.msg_head.specs.declared.error.Side.TheVariants.{Header}
use Rattle.msg_body.specs.Views.{message_of, lines_on}
use Rattle.whole_rewrites.proofs.content.next_named.Given as goal

abbrev pub invariant-loop-index : goal.invariant-loop-index
invariant-loop-index l = is_there (take (l.index - l.from) (drop l.from (lines_on Header (message_of l.message)))) l.name ≡ false
