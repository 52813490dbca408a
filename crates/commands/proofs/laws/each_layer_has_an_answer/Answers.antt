use Rattle.commands.proofs.Answered.{have_params, have_values_or_lack}
use Rattle.commands.proofs.Auditing.{has_audit}
use Rattle.commands.proofs.ListTexts.{has_list}
use Rattle.commands.proofs.RecordedTexts.{has_recording}
use Rattle.commands.proofs.laws.each_layer_has_an_answer.Goals as goal

pub returns : goal.returns
returns c =
    record {
      params = have_params;
      values = have_values_or_lack;
      recording = has_recording;
      chain = has_audit;
      list = has_list;
    }
