use Rattle.hop_audit.proofs.stage.Stage.add_lines.Given as goal

abbrev pub ghosts-add_each : goal.ghosts-add_each
ghosts-add_each a = record { name = a.blank.name; parts = a.blank.parts }
