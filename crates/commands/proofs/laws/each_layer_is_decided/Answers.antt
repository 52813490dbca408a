use Rattle.commands.proofs.Decided.{params_decided, values_decided}
use Rattle.commands.proofs.Auditing.{chain_decided}
use Rattle.commands.proofs.ListTexts.{list_decided}
use Rattle.commands.proofs.RecordedTexts.{recording_decided}
use Rattle.commands.proofs.laws.each_layer_is_decided.Goals as goal

pub returns : goal.returns
returns c = record {
  params = params_decided;
  values = values_decided;
  recording = recording_decided;
  chain = chain_decided;
  list = list_decided;
}
