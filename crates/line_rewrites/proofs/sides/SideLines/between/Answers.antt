use Rattle.std.proofs.Common.{◌≡◌, ◌∙◌, subst}
use Rattle.msg_body.specs.Views.{message_of}
use Rattle.line_rewrites.specs.Sides.{SideParts, text_with}
use Rattle.line_rewrites.proofs.Slices.{fits, in_order, middle_is, side_text, within}
use Rattle.line_rewrites.proofs.sides.SideLines.between.Goals as goal

pub bytes_from-requires : goal.bytes_from-requires
bytes_from-requires c =
    let message = message_of c.self.inside.message.now in
    let text = subst (λ (p : SideParts). c.bytes.result.now ≡ text_with p p.lines) c.self.view_is (c.bytes.ensures ∙ side_text c.self.inside.side message) in
    within c.args.self.now c.bytes.result.now c.args.from c.offset-start.result text c.offset-start.ensures

pub overflow_sub-offset : goal.overflow_sub-offset
overflow_sub-offset c =
    in_order c.args.self.now c.args.from c.args.to c.offset-start.result c.offset.result c.requires.order c.offset-start.ensures c.offset.ensures

pub bytes_before-requires : goal.bytes_before-requires
bytes_before-requires c =
    let message = message_of c.self.inside.message.now in
    let text = subst (λ (p : SideParts). c.bytes.result.now ≡ text_with p p.lines) c.self.view_is (c.bytes.ensures ∙ side_text c.self.inside.side message) in
    rw c.bytes_from.ensures (fits c.args.self.now c.bytes.result.now c.args.from c.args.to c.offset-start.result c.offset.result text c.requires.order c.offset-start.ensures c.offset.ensures)

pub returns : goal.returns
returns c =
    let message = message_of c.self.inside.message.now in
    let text = subst (λ (p : SideParts). c.bytes.result.now ≡ text_with p p.lines) c.self.view_is (c.bytes.ensures ∙ side_text c.self.inside.side message) in
    rw (c.bytes_before.ensures, c.bytes_from.ensures)
    (middle_is c.args.self.now c.bytes.result.now c.args.from c.args.to c.offset-start.result c.offset.result text c.requires.order c.offset-start.ensures c.offset.ensures)
