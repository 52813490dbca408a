use Rattle.msg_body.specs.Views.{message_of, message_content}
use Rattle.content_digest.proofs.Judged.{answers_where, memory_where_holds}
use Rattle.content_digest.proofs.check.check_digest.Goals as goal

pub returns-clause-there : goal.returns-clause-there
returns-clause-there c = memory_where_holds c.args.text.now (message_content (message_of c.args.view.now)) c.judge.result c.judge.ensures

pub returns-clause-fault : goal.returns-clause-fault
returns-clause-fault c = answers_where c.args.text.now (message_content (message_of c.args.view.now)) c.judge.result c.judge.ensures
