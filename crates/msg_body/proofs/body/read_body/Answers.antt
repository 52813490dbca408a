use Rattle.std.proofs.Common.{sym, subst}
use Rattle.msg_body.specs.tools.Judged.{ExplainsBody}
use Rattle.msg_body.proofs.body.read_body.Goals as goal

pub returns-in-Chunked : goal.returns-in-Chunked
returns-in-Chunked c =
    subst (λ f. ExplainsBody f c.args.framed.length c.args.start c.args.bytes.now c.read_chunked.result) (sym c.in-Chunked.is) (c.read_chunked.ensures c.args.framed.length)
