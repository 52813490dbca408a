use Rattle.gateway.proofs.serving.serve.Given as goal

abbrev pub ghosts-serve_items : goal.ghosts-serve_items
ghosts-serve_items g a = record { name = a.blank.name; parts = a.blank.parts }
