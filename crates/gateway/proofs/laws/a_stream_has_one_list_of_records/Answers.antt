use Rattle.gateway.proofs.OneStreams.{one_list_of_records, served_in_one_way}
use Rattle.gateway.proofs.laws.a_stream_has_one_list_of_records.Goals as goal

pub returns : goal.returns
returns c = record { items = one_list_of_records; stream = served_in_one_way }
