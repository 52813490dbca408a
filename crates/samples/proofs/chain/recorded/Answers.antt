use Rattle.samples.proofs.MadeItems.{held_chain}
use Rattle.samples.proofs.chain.recorded.Goals as goal

pub returns : goal.returns
returns c = λ items say.
    held_chain items c.args.first.now c.args.hops.now c.bytes.result c.in_ok-hops.hops say c.bytes.ensures c.requires c.in_ok-hops.ensures
