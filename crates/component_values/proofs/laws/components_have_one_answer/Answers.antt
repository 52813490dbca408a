use Rattle.component_values.proofs.RowLaws.{has_or_lacks, has_one_value, lacks_in_one_way, lacks_no_value}
use Rattle.component_values.proofs.CleanLaws.{has_clean_values}
use Rattle.component_values.proofs.laws.components_have_one_answer.Goals as goal

pub returns : goal.returns
returns c = record {
  some = has_or_lacks;
  value = has_one_value;
  lack = lacks_in_one_way;
  either = lacks_no_value;
  clean = has_clean_values;
}
