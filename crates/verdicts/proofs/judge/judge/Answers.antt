use Rattle.std.proofs.lemmas.Result.{err_from_is_err_and}
use Rattle.verdicts.specs.Verification.{verification_by}
use Rattle.verdicts.proofs.Judging.{read_says}
use Rattle.verdicts.proofs.judge.judge.Goals as goal

pub returns-in_err-read-clause-explains : goal.returns-in_err-read-clause-explains
returns-in_err-read-clause-explains g c =
    let v = verification_by c.args.verifier.now c.args.exchange.now.context c.args.label.now in
    let p = err_from_is_err_and c.from_residual.result c.from_residual.ensures.1 in
    rw (p.1, p.2) (read_says v c.in_err-read.field-0.0 c.in_err-read.ensures.fault)

pub judge_signature-requires-clause-has : goal.judge_signature-requires-clause-has
judge_signature-requires-clause-has g c = rw c.in_ok-read.ensures.same c.in_ok-read.ensures.ok

pub judge_signature-requires-clause-in_range : goal.judge_signature-requires-clause-in_range
judge_signature-requires-clause-in_range g c = c.in_ok-read.ensures.in_range

pub returns-clause-explains : goal.returns-clause-explains
returns-clause-explains g c = rw c.in_ok-read.ensures.same at c.judge_signature.ensures.explains

pub returns-clause-exchange : goal.returns-clause-exchange
returns-clause-exchange g c = rw c.in_ok-read.ensures.same at c.judge_signature.ensures.exchange

pub returns-clause-still : goal.returns-clause-still
returns-clause-still g c = rw c.in_ok-read.ensures.same at c.judge_signature.ensures.still

pub returns-clause-steps : goal.returns-clause-steps
returns-clause-steps g c = c.judge_signature.ensures.steps
