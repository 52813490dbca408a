use Rattle.nonces.proofs.Alike.{same_both_ways, same_itself, same_through}
use Rattle.nonces.proofs.laws.same_entries_are_an_equivalence.Goals as goal

pub returns : goal.returns
returns c = record { itself = same_itself; both_ways = same_both_ways; through = same_through }
