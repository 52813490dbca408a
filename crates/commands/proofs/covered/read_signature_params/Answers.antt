use Rattle.std.proofs.lemmas.Result.{err_from_is_err_and}
use Rattle.commands.proofs.Stopping.{fault_stop}
use Rattle.commands.proofs.covered.read_signature_params.Goals as goal

pub returns-in_err-read-clause-refused : goal.returns-in_err-read-clause-refused
returns-in_err-read-clause-refused c =
    let p = err_from_is_err_and c.from_residual-in_err-read.result c.from_residual-in_err-read.ensures.1 in
    rw (p.1, p.2) (fault_stop c.args.params.now c.in_ok-list.list c.in_err-read.field-0.0 c.in_ok-list.ensures.ok c.in_err-read.ensures.fault)
