use Rattle.component_values.specs.Context.{context_of}
use Rattle.component_values.proofs.covered.prepare.Goals as goal

pub prepare_in-requires-clause-readings : goal.prepare_in-requires-clause-readings
prepare_in-requires-clause-readings c = c.new-readings.ensures (context_of c.args.context.now)
