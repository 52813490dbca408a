use Rattle.whole_rewrites.proofs.target.target_line_of.Goals as goal

pub returns-clause-some : goal.returns-clause-some
returns-clause-some c = rw c.start.ensures at c.target_line.ensures.some

pub returns-clause-none : goal.returns-clause-none
returns-clause-none c = rw c.start.ensures at c.target_line.ensures.none
