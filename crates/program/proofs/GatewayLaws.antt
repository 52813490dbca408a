-- Laws of gateways, in the form that the proofs here use.
use Rattle.gateway.proofs.Nonces as nonces
use Rattle.gateway.proofs.OneStreams as streams
use Rattle.gateway.proofs.PassedLaws as passed
use Rattle.gateway.proofs.SomeRecords as records
use Rattle.gateway.specs.Laws.{HasOneListOfRecords, HasSomeRecord, IsKeptWherePassed, IsNoNonceTwice, IsOwnLabelRight, IsServedInOneWay}

pub kept_where_passed : IsKeptWherePassed
kept_where_passed = passed.kept_where_passed

pub own_label_right : IsOwnLabelRight
own_label_right = passed.own_label_is_right

pub no_nonce_twice : IsNoNonceTwice
no_nonce_twice = nonces.is_no_nonce_twice

pub some_record : HasSomeRecord
some_record = records.some_record

pub one_list_of_records : HasOneListOfRecords
one_list_of_records = streams.one_list_of_records

pub served_in_one_way : IsServedInOneWay
served_in_one_way = streams.served_in_one_way
