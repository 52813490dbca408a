use Rattle.std.proofs.Common.{◌≡◌, ◌-◌, false, take, drop}
use Rattle.std.specs.Str.{str_to_ascii_lowercase}
use Rattle.msg_head.specs.Values.{is_there}
use Rattle.msg_body.specs.Views.{message_of, lines_on}
use Rattle.line_rewrites.proofs.sides.is_between.Given as goal

abbrev pub invariant-loop-index : goal.invariant-loop-index
invariant-loop-index l =
    is_there (take (l.index - l.from) (drop l.from (lines_on l.side (message_of l.message)))) (str_to_ascii_lowercase l.line.name.now) ≡ false
