use Rattle.component_values.specs.Context.{context_of, answers_head}
use Rattle.signing.specs.Written.{with_digest}
use Rattle.signing.proofs.message.make_of_bytes.Goals as goal

pub read_other_head-requires : goal.read_other_head-requires
read_other_head-requires c =
    let context = context_of c.args.context.now in
    (answers_head context.related, (with_digest context.message c.args.spec.now.digest).head, c.requires.spells)

pub returns-in-Ok : goal.returns-in-Ok
returns-in-Ok c =
    let context = context_of c.args.context.now in
    let same = c.in-Ok.ensures.ok (answers_head context.related) (with_digest context.message c.args.spec.now.digest).head c.requires.spells in
    c.make_of_context.ensures context (λ i. record { message = same i; related = context.related; scheme = context.scheme; types = context.types }) c.requires.judged

pub returns-in-Err : goal.returns-in-Err
returns-in-Err c = rw c.only_memory.ensures tt
