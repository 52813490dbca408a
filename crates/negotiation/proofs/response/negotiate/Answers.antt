use Rattle.component_values.specs.Context.{context_of}
use Rattle.settings.specs.ConfMeaning.{meaning}
use Rattle.negotiation.proofs.Negotiating.{fault_is, spells_negotiated}
use Rattle.negotiation.proofs.response.negotiate.Goals as goal

pub returns-clause-ok : goal.returns-clause-ok
returns-clause-ok c = spells_negotiated (meaning c.args.conf.now) c.args.now (context_of c.args.context.now) c.judge.result c.judge.ensures

pub returns-clause-fault : goal.returns-clause-fault
returns-clause-fault c = fault_is (meaning c.args.conf.now) c.args.now (context_of c.args.context.now) c.requires.sign c.judge.result c.judge.ensures
