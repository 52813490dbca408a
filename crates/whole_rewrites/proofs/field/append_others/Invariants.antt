use Rattle.std.proofs.Common.{◌≡◌, ◌++◌, drop}
use Rattle.msg_body.specs.Views.{lines_on, message_of}
use Rattle.line_rewrites.specs.Sides.{lines_text}
use Rattle.whole_rewrites.specs.tools.Fields.{without_name}
use Rattle.whole_rewrites.proofs.field.append_others.Given as goal

abbrev pub invariant-loop-index : goal.invariant-loop-index
invariant-loop-index l =
    let lines = lines_on l.side (message_of l.message) in
    l.into ++ lines_text (without_name l.name (drop l.index lines)) ≡ l.initial.into ++ lines_text (without_name l.name (drop l.from lines))
