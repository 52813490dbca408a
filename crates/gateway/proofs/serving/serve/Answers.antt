use Rattle.settings.specs.ConfMeaning.{meaning}
use Rattle.gateway.specs.Served.{Serves}
use Rattle.gateway.specs.declared.fault.StreamFault.TheVariants.{Memory}
use Rattle.gateway.proofs.ServedEnds.{ends_unopened}
use Rattle.gateway.proofs.WrittenParts.{as_fault}
use Rattle.gateway.proofs.serving.serve.Goals as goal

pub returns-in_err-stream-clause-served : goal.returns-in_err-stream-clause-served
returns-in_err-stream-clause-served g c = λ settings is.
    as_fault (Serves (meaning c.args.conf.now) settings (g.S.Source.left c.args.source.now) (g.S.Source.left c.args.source.now) (g.K.Sink.taken c.args.sink.now) (g.K.Sink.taken c.args.sink.now))
    Memory c.from_residual.result c.from_residual.ensures.1
    (ends_unopened (meaning c.args.conf.now) settings (g.S.Source.left c.args.source.now) (g.K.Sink.taken c.args.sink.now))
