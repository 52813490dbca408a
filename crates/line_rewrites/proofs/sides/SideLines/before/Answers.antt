use Rattle.std.proofs.Common.{◌≡◌, ◌∙◌, subst}
use Rattle.msg_body.specs.Views.{message_of}
use Rattle.line_rewrites.specs.Sides.{SideParts, text_with}
use Rattle.line_rewrites.proofs.Slices.{front_is, side_text, within}
use Rattle.line_rewrites.proofs.sides.SideLines.before.Goals as goal

pub bytes_before-requires : goal.bytes_before-requires
bytes_before-requires c =
    let message = message_of c.self.inside.message.now in
    let text = subst (λ (p : SideParts). c.bytes.result.now ≡ text_with p p.lines) c.self.view_is (c.bytes.ensures ∙ side_text c.self.inside.side message) in
    within c.args.self.now c.bytes.result.now c.args.index c.offset.result text c.offset.ensures

pub returns : goal.returns
returns c =
    let message = message_of c.self.inside.message.now in
    let text = subst (λ (p : SideParts). c.bytes.result.now ≡ text_with p p.lines) c.self.view_is (c.bytes.ensures ∙ side_text c.self.inside.side message) in
    rw c.bytes_before.ensures (front_is c.args.self.now c.bytes.result.now c.args.index c.offset.result text c.offset.ensures)
