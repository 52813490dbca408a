use Rattle.derived_values.proofs.EncodingLaws.{printable}
use Rattle.derived_values.proofs.ValueLaws.{matches_printable}
use Rattle.derived_values.proofs.query.encoded_texts_are_printable.Goals as goal

pub returns : goal.returns
returns c = record { text = printable; values = matches_printable }
