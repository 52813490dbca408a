use Rattle.std.proofs.Common.{sym, inr, ◌∙◌}
use Rattle.msg_body.specs.Views.{message_of, message_content}
use Rattle.content_digest.proofs.Judged.{members_explain}
use Rattle.content_digest.proofs.DigestLaws.{is_malformed, is_none_known}
use Rattle.content_digest.proofs.check.judge_members.Goals as goal

pub returns-then-not-are_sound : goal.returns-then-not-are_sound
returns-then-not-are_sound c text reads =
    is_malformed text (message_content (message_of c.args.view.now)) (inr (c.args.members.now, reads, sym c.are_sound.ensures ∙ c.if-not-are_sound.true))

pub returns-then-not-has_known : goal.returns-then-not-has_known
returns-then-not-has_known c text reads =
    is_none_known text (message_content (message_of c.args.view.now)) c.args.members.now reads (sym c.are_sound.ensures ∙ c.if-not-are_sound.false) (sym c.has_known.ensures ∙ c.if-not-has_known.true)

pub returns : goal.returns
returns c text reads =
    members_explain text (message_content (message_of c.args.view.now)) c.args.members.now c.check_members.result reads (sym c.are_sound.ensures ∙ c.if-not-are_sound.false) (sym c.has_known.ensures ∙ c.if-not-has_known.false)
    c.check_members.ensures.ok c.check_members.ensures.fault
