use Rattle.uses.proofs.verdict_labels.a_nonce_is_refused_while_it_lives.Given as goal

abbrev pub ghosts-rows_hold : goal.ghosts-rows_hold
ghosts-rows_hold g a = record { name = a.blank.name; parts = a.blank.parts }
