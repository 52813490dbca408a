use Rattle.gateway.proofs.RecordLaws.{one_book, one_record}
use Rattle.gateway.proofs.SomeRecords.{some_record}
use Rattle.gateway.proofs.laws.records_are_one.Goals as goal

pub returns : goal.returns
returns c = record { some = some_record; one = one_record; book = one_book }
