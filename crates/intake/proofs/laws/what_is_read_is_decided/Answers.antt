use Rattle.intake.proofs.Decided.{input_decided}
use Rattle.intake.proofs.DecidedConf.{conf_decided}
use Rattle.intake.proofs.NeededTables.{tables_decided}
use Rattle.intake.proofs.ScriptFiles.{script_decided}
use Rattle.intake.proofs.TakenFiles.{record_decided, request_decided, wanted_decided}
use Rattle.intake.proofs.laws.what_is_read_is_decided.Goals as goal

pub returns : goal.returns
returns c = record {
  configuration = conf_decided;
  tables = tables_decided;
  request = request_decided;
  wanted = wanted_decided;
  other = record_decided;
  script = script_decided;
  input = input_decided;
}
