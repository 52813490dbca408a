use Rattle.commands.proofs.Turning.{one_into_fields, one_into_message, some_into_fields, some_into_message}
use Rattle.commands.proofs.laws.turning_has_one_outcome.Goals as goal

pub returns : goal.returns
returns c = record {
  message = one_into_message;
  some_message = some_into_message;
  fields = one_into_fields;
  some_fields = some_into_fields;
}
