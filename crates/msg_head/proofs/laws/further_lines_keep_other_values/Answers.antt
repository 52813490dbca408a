use Rattle.msg_head.proofs.MoreLines.{there_same, values_same, combined_more, combined_first}
use Rattle.msg_head.proofs.laws.further_lines_keep_other_values.Goals as goal

pub returns : goal.returns
returns c = record {
  others = λ lines further name none. (there_same lines further name none, values_same lines further name none);
  further = λ lines line name is. (combined_more lines line name is, combined_first lines line name is);
}
