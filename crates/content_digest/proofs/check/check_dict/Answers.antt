use Rattle.std.proofs.Common.{List, ℕ, sym, subst}
use Rattle.msg_body.specs.Views.{message_of, message_content}
use Rattle.sfv_read.specs.Reads.{ReadsDict}
use Rattle.content_digest.proofs.Judged.{answers_where, holds_where_ok, memory_where_holds}
use Rattle.content_digest.proofs.check.check_dict.Goals as goal

pub returns-clause-ok : goal.returns-clause-ok
returns-clause-ok c =
    holds_where_ok (message_content (message_of c.args.view.now)) (λ (text : List ℕ). ReadsDict text c.args.dict.now) c.judge_members.result
    (λ text reads. c.judge_members.ensures text (subst (ReadsDict text) (sym c.as_slice.ensures.is) reads))

pub returns-clause-there : goal.returns-clause-there
returns-clause-there c text reads =
    memory_where_holds text (message_content (message_of c.args.view.now)) c.judge_members.result (c.judge_members.ensures text (subst (ReadsDict text) (sym c.as_slice.ensures.is) reads))

pub returns-clause-fault : goal.returns-clause-fault
returns-clause-fault c text fault reads =
    answers_where text (message_content (message_of c.args.view.now)) c.judge_members.result (c.judge_members.ensures text (subst (ReadsDict text) (sym c.as_slice.ensures.is) reads)) fault
