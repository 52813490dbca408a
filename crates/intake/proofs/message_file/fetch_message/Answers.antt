use Rattle.std.proofs.lemmas.Result.{err_from_is_err_and}
use Rattle.intake.proofs.message_file.fetch_message.Goals as goal

pub returns-in_err-take_named-in-Some-clause-refused : goal.returns-in_err-take_named-in-Some-clause-refused
returns-in_err-take_named-in-Some-clause-refused g c = λ reading.
    let p = err_from_is_err_and c.from_residual.result c.from_residual.ensures.1 in
    rw (p.1, p.2, c.in-Some.is) (c.in_err-take_named-in-Some.ensures.refused reading)
