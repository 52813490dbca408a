use Rattle.msg_body.specs.Views.{message_of}
use Rattle.settings.specs.ConfMeaning.{meaning}
use Rattle.signing.proofs.Wanting.{wished_is, valid_is, fault_is}
use Rattle.signing.proofs.wishes.wanted.Goals as goal

pub returns-clause-ok : goal.returns-clause-ok
returns-clause-ok c = wished_is (meaning c.args.conf.now) c.args.now (message_of c.args.view.now) c.judge_wishes.result c.judge_wishes.ensures

pub returns-clause-valid : goal.returns-clause-valid
returns-clause-valid c = valid_is (meaning c.args.conf.now) c.args.now (message_of c.args.view.now) c.judge_wishes.result c.judge_wishes.ensures

pub returns-clause-fault : goal.returns-clause-fault
returns-clause-fault c = fault_is (meaning c.args.conf.now) c.args.now (message_of c.args.view.now) c.requires.sign c.judge_wishes.result c.judge_wishes.ensures
