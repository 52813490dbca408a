use Rattle.intake.proofs.Answered.{has_configuration, has_message}
use Rattle.intake.proofs.NeededTables.{have_tables}
use Rattle.intake.proofs.ScriptFiles.{has_script}
use Rattle.intake.proofs.TakenFiles.{has_record, has_request, has_wanted}
use Rattle.intake.proofs.laws.what_is_read_has_an_answer.Goals as goal

pub returns : goal.returns
returns c = record {
  configuration = has_configuration;
  tables = have_tables;
  request = has_request;
  wanted = has_wanted;
  other = has_record;
  script = has_script;
  input = has_message;
}
