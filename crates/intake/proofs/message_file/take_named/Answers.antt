use Rattle.std.proofs.Common.{Result, Err, ap, ℕ, List}
use Rattle.hms_io.specs.declared.whole_file.FileError.{FileError}
use Rattle.intake.proofs.TakenFiles.{message_file_stop}
use Rattle.intake.proofs.message_file.take_named.Goals as goal

abbrev as_err : FileError → Result (List ℕ) FileError
as_err e = Err e

pub returns-in-Err-clause-refused : goal.returns-in-Err-clause-refused
returns-in-Err-clause-refused g c = λ reading.
    rw c.of_file.ensures (message_file_stop c.args.role reading (g.F.Shelf.files c.args.shelf.now) c.args.name.now c.in-Err.error
    (λ e. c.in-Err.ensures.too_long (ap as_err e)) (λ e. c.in-Err.ensures.missing (ap as_err e)))
