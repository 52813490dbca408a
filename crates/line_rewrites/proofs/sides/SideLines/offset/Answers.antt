use Rattle.std.proofs.Common.{◌∙◌}
use Rattle.msg_body.specs.Views.{message_of}
use Rattle.line_rewrites.proofs.Slices.{line_start}
use Rattle.line_rewrites.proofs.sides.SideLines.offset.Goals as goal

pub returns : goal.returns
returns c = rw (← c.self.view_is) (c.line_offset.ensures ∙ line_start c.self.inside.side (message_of c.self.inside.message.now) c.args.index)
