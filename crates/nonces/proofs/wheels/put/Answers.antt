use Rattle.std.proofs.Common.{◌∙◌}
use Rattle.nonces.proofs.wheels.put.Goals as goal

pub returns-clause-put : goal.returns-clause-put
returns-clause-put g c = (
  c.add-index.result,
  c.set.ensures,
  record {
    spare = (c.add-index.ensures.within, c.add-index.ensures.free);
    entries = c.add-index.ensures.entries;
    link = c.add-index.ensures.link ∙ c.look-first.ensures.head;
    links = c.add-index.ensures.links;
  },
)
