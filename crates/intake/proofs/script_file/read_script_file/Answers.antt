use Rattle.intake.proofs.ScriptFiles.{scripted_without}
use Rattle.intake.proofs.script_file.read_script_file.Goals as goal

pub returns-in-None-clause-ok : goal.returns-in-None-clause-ok
returns-in-None-clause-ok g c = rw c.in-None.is (scripted_without (g.F.Shelf.files c.args.shelf.now) _ c.new.ensures)

pub returns-in-Some-clause-ok : goal.returns-in-Some-clause-ok
returns-in-Some-clause-ok g c = rw c.in-Some.is c.read_named_script.ensures.ok

pub returns-in-Some-clause-refused : goal.returns-in-Some-clause-refused
returns-in-Some-clause-refused g c = rw c.in-Some.is c.read_named_script.ensures.refused
