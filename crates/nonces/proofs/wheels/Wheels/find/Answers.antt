use Rattle.nonces.proofs.wheels.Wheels.find.Goals as goal

pub returns-clause-cost : goal.returns-clause-cost
returns-clause-cost g c = rw (← c.self.view_is) (λ buckets least. c.find.ensures.cost buckets least)
