use Rattle.verdicts.proofs.mac.has_tag.Goals as goal

pub returns : goal.returns
returns c = λ key text absorbed. rw (c.finish.ensures.absorbed key text absorbed) at c.same_tag.ensures
