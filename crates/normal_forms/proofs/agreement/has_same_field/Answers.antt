use Rattle.std.proofs.Common.{IsTrue, sym, ◌∙◌}
use Rattle.msg_body.specs.Views.{lines_on, message_of}
use Rattle.normal_forms.proofs.Agreeing.{both_there, none_same, some_apart}
use Rattle.normal_forms.proofs.agreement.has_same_field.Goals as goal

pub returns-then-is_empty : goal.returns-then-is_empty
returns-then-is_empty c =
    none_same (lines_on c.args.side (message_of c.args.message.now)) (lines_on c.args.side (message_of c.args.other.now)) c.lines_named-lines.result c.lines_named-others.result c.args.name.now
    c.lines_named-lines.ensures c.lines_named-others.ensures c.is_empty-then-is_empty.result (sym c.is_empty.ensures ∙ c.if-is_empty.true) c.is_empty-then-is_empty.ensures

pub returns-then-is_empty-2 : goal.returns-then-is_empty-2
returns-then-is_empty-2 c =
    some_apart (lines_on c.args.side (message_of c.args.message.now)) (lines_on c.args.side (message_of c.args.other.now)) c.lines_named-lines.result c.lines_named-others.result c.args.name.now
    c.lines_named-lines.ensures c.lines_named-others.ensures (sym c.is_empty.ensures ∙ c.if-is_empty.false) (sym c.is_empty-2.ensures ∙ c.if-is_empty-2.true)

pub returns : goal.returns
returns c =
    let ours = c.joined_pieces.ensures in
    let theirs = c.joined_pieces-2.ensures in
    both_there (lines_on c.args.side (message_of c.args.message.now)) (lines_on c.args.side (message_of c.args.other.now)) c.lines_named-lines.result c.lines_named-others.result c.args.name.now
    c.lines_named-lines.ensures c.lines_named-others.ensures (sym c.is_empty.ensures ∙ c.if-is_empty.false) (sym c.is_empty-2.ensures ∙ c.if-is_empty-2.false) (IsTrue c.are_same_text.result)
    (λ yes. sym ours ∙ (c.are_same_text.ensures.0 yes ∙ theirs), λ same. c.are_same_text.ensures.1 (ours ∙ (same ∙ sym theirs)))
