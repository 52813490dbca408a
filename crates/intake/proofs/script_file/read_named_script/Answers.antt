use Rattle.std.proofs.Common.{Result, Err, ap, ℕ, List}
use Rattle.std.proofs.lemmas.Result.{err_from_is_err_and}
use Rattle.hms_io.specs.declared.whole_file.FileError.{FileError}
use Rattle.intake.proofs.ScriptFiles.{script_file_stop, script_stop, scripted_by}
use Rattle.intake.proofs.script_file.read_named_script.Goals as goal

abbrev as_err : FileError → Result (List ℕ) FileError
as_err e = Err e

pub returns-in-Err-clause-refused : goal.returns-in-Err-clause-refused
returns-in-Err-clause-refused g c =
    rw c.of_file.ensures (script_file_stop (g.F.Shelf.files c.args.shelf.now) c.args.name.now c.in-Err.error
    (λ e. c.in-Err.ensures.too_long (ap as_err e)) (λ e. c.in-Err.ensures.missing (ap as_err e)))

pub returns-in_err-read_script-clause-refused : goal.returns-in_err-read_script-clause-refused
returns-in_err-read_script-clause-refused g c =
    let p = err_from_is_err_and c.from_residual.result c.from_residual.ensures.1 in
    rw (p.1, p.2) (script_stop (g.F.Shelf.files c.args.shelf.now) c.args.name.now c.in-Ok.text c.bytes.result.now c.in_err-read_script.field-0.0
    c.bytes.ensures c.in-Ok.ensures.whole c.in-Ok.ensures.within c.in_err-read_script.ensures.fault)

pub returns-clause-ok : goal.returns-clause-ok
returns-clause-ok g c =
    scripted_by (g.F.Shelf.files c.args.shelf.now) c.args.name.now c.in-Ok.text c.bytes.result.now _
    c.bytes.ensures c.in-Ok.ensures.whole c.in-Ok.ensures.within c.in_ok-read_script.ensures.ok
