use Rattle.nonces.proofs.Powers.{least_power, one_least_power}
use Rattle.nonces.proofs.laws.a_capacity_has_one_count_of_buckets.Goals as goal

pub returns : goal.returns
returns c = record { there = least_power; one = one_least_power }
