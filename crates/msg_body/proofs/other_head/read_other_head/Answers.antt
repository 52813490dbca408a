use Rattle.std.proofs.Common.{Ok, length, sym, ap, subst, ◌∙◌}
use Rattle.msg_head.specs.Heads.{head_text}
use Rattle.msg_body.specs.Content.{body_parts}
use Rattle.msg_body.specs.Messages.{Message, message_text, with_head}
use Rattle.msg_body.specs.Views.{BodyParts, MessageParts, body_of, message_of}
use Rattle.msg_body.specs.tools.Trailed.{EndsWithTrailer}
use Rattle.msg_body.proofs.OtherHeads.{begins, ends, head_fault, head_read, no_partial_head, other_is}
use Rattle.msg_body.proofs.other_head.read_other_head.Goals as goal

pub body_again-requires : goal.body_again-requires
body_again-requires c =
    let other = with_head (message_of c.args.message.now) c.requires.1 in
    subst (λ (b : BodyParts). EndsWithTrailer (body_of b) c.args.text.now) (sym c.body.ensures) (ends c.requires.0 other c.args.text.now c.requires.2)

pub new-requires : goal.new-requires
new-requires c =
    let message = message_of c.args.message.now in
    let head = c.requires.1 in
    let found = c.read_head.ensures.found head (length (head_text head)) (begins c.requires.0 (with_head message head) c.args.text.now c.requires.2) in
    let read = head_read c.read_head.result head (length (head_text head)) c.in-Ok-Whole.field-0-1 c.in-Ok-Whole.head found (c.in-Ok-Whole.is ∙ ap Ok c.in-Ok-Whole.field-0-is) in
    let body = c.in_ok-body-in-Ok-Whole.ensures.ok ∙ ap body_of c.body.ensures in
    let same = other_is c.in-Ok-Whole.head c.framing.result (body_parts c.in_ok-body-in-Ok-Whole.body) message head read c.framing.ensures body in
    c.requires.2.text ∙ sym (ap (λ (m : Message). message_text m) same)

pub unreachable-requires : goal.unreachable-requires
unreachable-requires c =
    let message = message_of c.args.message.now in
    let head = c.requires.1 in
    let found = c.read_head.ensures.found head (length (head_text head)) (begins c.requires.0 (with_head message head) c.args.text.now c.requires.2) in
    no_partial_head c.read_head.result head (length (head_text head)) found (c.in-Ok-Partial.is ∙ ap Ok c.in-Ok-Partial.field-0-is)

pub only_memory-requires : goal.only_memory-requires
only_memory-requires c =
    let message = message_of c.args.message.now in
    let head = c.requires.1 in
    let found = c.read_head.ensures.found head (length (head_text head)) (begins c.requires.0 (with_head message head) c.args.text.now c.requires.2) in
    head_fault c.read_head.result head (length (head_text head)) found c.in-Err.error c.in-Err.is

pub returns-in_ok-body-in-Ok-Whole-clause-ok : goal.returns-in_ok-body-in-Ok-Whole-clause-ok
returns-in_ok-body-in-Ok-Whole-clause-ok c = λ to_head head spells.
    let message = message_of c.args.message.now in
    let found = c.read_head.ensures.found head (length (head_text head)) (begins to_head (with_head message head) c.args.text.now spells) in
    let read = head_read c.read_head.result head (length (head_text head)) c.in-Ok-Whole.field-0-1 c.in-Ok-Whole.head found (c.in-Ok-Whole.is ∙ ap Ok c.in-Ok-Whole.field-0-is) in
    let body = c.in_ok-body-in-Ok-Whole.ensures.ok ∙ ap body_of c.body.ensures in
    ap (λ (m : MessageParts). message_of m) c.new.ensures
    ∙ other_is c.in-Ok-Whole.head c.framing.result (body_parts c.in_ok-body-in-Ok-Whole.body) message head read c.framing.ensures body
