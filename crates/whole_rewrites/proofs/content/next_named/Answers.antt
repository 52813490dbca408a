use Rattle.msg_head.specs.Views.{field_line_of}
use Rattle.msg_head.specs.declared.error.Side.TheVariants.{Header}
use Rattle.msg_body.specs.Views.{message_of, lines_on}
use Rattle.std.proofs.Common.{false, sym, ◌∙◌}
use Rattle.line_rewrites.proofs.Slices.{between_next}
use Rattle.whole_rewrites.proofs.content.next_named.Goals as goal

pub loop-index-preserved : goal.loop-index-preserved
loop-index-preserved c =
    let lines = lines_on Header (message_of c.args.message.now) in
    between_next lines c.args.from c.loop-index.index (field_line_of c.line.result) c.args.name.now false c.loop-index.auto.index c.line.ensures (sym c.is_named.ensures ∙ c.if-is_named.false) c.loop-index.invariant
