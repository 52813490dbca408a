use Rattle.commands.proofs.verify.report_labels.Given as goal

abbrev pub ghosts-write_lines : goal.ghosts-write_lines
ghosts-write_lines a = record { name = a.blank.name; parts = a.blank.parts }
