use Rattle.program.proofs.ServableStreams.{served_in_place}
use Rattle.program.proofs.laws.a_stream_in_its_place_is_served.Goals as goal

pub returns : goal.returns
returns c = served_in_place
