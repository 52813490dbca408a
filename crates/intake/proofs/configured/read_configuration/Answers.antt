use Rattle.intake.proofs.FoundFiles.{configured_without}
use Rattle.intake.proofs.configured.read_configuration.Goals as goal

pub returns-in_ok-empty_conf-in-None-clause-ok : goal.returns-in_ok-empty_conf-in-None-clause-ok
returns-in_ok-empty_conf-in-None-clause-ok g c = rw c.in-None.is (configured_without (g.F.Shelf.files c.args.shelf.now) _ c.in_ok-empty_conf-in-None.ensures)

pub returns-in-Some-clause-ok : goal.returns-in-Some-clause-ok
returns-in-Some-clause-ok g c = rw c.in-Some.is c.read_named.ensures.ok

pub returns-in-Some-clause-refused : goal.returns-in-Some-clause-refused
returns-in-Some-clause-refused g c = rw c.in-Some.is c.read_named.ensures.refused
