use Rattle.uses.proofs.books.a_nonce_is_seen_up_to_its_second.Given as goal

abbrev pub ghosts-are_all : goal.ghosts-are_all
ghosts-are_all g a = record { name = a.blank.name; parts = a.blank.parts }
