use Rattle.signing.specs.tools.Judged.{NoneBelow}
use Rattle.signing.proofs.Causes.{self_cover, no_self_cover}
use Rattle.signing.proofs.refuse.judge_components.Goals as goal

pub returns-in-Some : goal.returns-in-Some
returns-in-Some c = λ context none.
    self_cover context c.args.spec.now (λ (_ : Unit {0}). NoneBelow context c.args.spec.now 6) c.in-Some.index none (rw (c.bytes.ensures, c.as_slice.ensures) at c.in-Some.ensures.some)

pub returns-in-None : goal.returns-in-None
returns-in-None c = λ context none. no_self_cover context c.args.spec.now none (rw (c.bytes.ensures, c.as_slice.ensures) at c.in-None.ensures.none)
