use Rattle.nonces.proofs.Alike.{live_alike, same_more, seen_alike}
use Rattle.nonces.proofs.laws.same_entries_are_alike.Goals as goal

pub returns : goal.returns
returns c = record { seen = seen_alike; more = same_more; live = live_alike }
