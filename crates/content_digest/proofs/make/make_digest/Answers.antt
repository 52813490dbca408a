use Rattle.msg_body.specs.Views.{message_of, message_content}
use Rattle.content_digest.proofs.Judged.{made_holds}
use Rattle.content_digest.proofs.make.make_digest.Goals as goal

pub returns-clause-holds : goal.returns-clause-holds
returns-clause-holds c =
    made_holds c.args.algorithm (message_content (message_of c.args.view.now)) c.in_ok-dict.dict c.print_dict.result c.in_ok-dict.ensures.is c.in_ok-dict.ensures.in_range c.print_dict.ensures.is
