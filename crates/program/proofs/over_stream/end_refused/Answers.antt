use Rattle.refusals.specs.declared.refusal.Refusal.TheVariants.{Of}
use Rattle.refusals.specs.declared.role.Role.TheVariants.{Input}
use Rattle.program.proofs.StreamRuns.{refused_written}
use Rattle.program.proofs.over_stream.end_refused.Goals as goal

pub returns-clause-ends : goal.returns-clause-ends
returns-clause-ends g c =
    refused_written (Of Input c.args.refusal) (g.K.Sink.taken c.args.out.now) (g.K.Sink.taken c.write_outcome.new.out) c.write_outcome.result.status c.write_outcome.result.refusal c.write_outcome.ensures.ends
