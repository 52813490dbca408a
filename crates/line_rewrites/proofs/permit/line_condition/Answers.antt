use Rattle.line_rewrites.proofs.permit.line_condition.Goals as goal

pub returns-in-Fold : goal.returns-in-Fold
returns-in-Fold c context is label params =
    rw (c.in-Fold.is, is) (λ met. c.permits_fold.ensures.0 ((c.always_where.ensures params).0 met), λ permits. (c.always_where.ensures params).1 (c.permits_fold.ensures.1 permits))

pub returns-in-Join : goal.returns-in-Join
returns-in-Join c context is label params = rw (c.in-Join.is, is) (c.join_condition.ensures params)

pub returns-in-Split : goal.returns-in-Split
returns-in-Split c context is label params = rw (c.in-Split.is, is) (c.split_condition.ensures params)

pub returns-in-Move : goal.returns-in-Move
returns-in-Move c context is label params =
    rw (c.in-Move.is, is) (λ met. c.permits_move.ensures.0 ((c.always_where-in-Move.ensures params).0 met), λ permits. (c.always_where-in-Move.ensures params).1 (c.permits_move.ensures.1 permits))

pub returns-in-Remove : goal.returns-in-Remove
returns-in-Remove c context is label params = rw (c.in-Remove.is, is) (c.remove_condition.ensures params)
