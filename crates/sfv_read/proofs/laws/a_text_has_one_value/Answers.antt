use Rattle.sfv_read.proofs.Readings.{item_has_one_value, inner_has_one_value, list_has_one_value, dict_has_one_value}
use Rattle.sfv_read.proofs.laws.a_text_has_one_value.Goals as goal

pub returns : goal.returns
returns c = record {
  item = item_has_one_value;
  inner = inner_has_one_value;
  list = list_has_one_value;
  dict = dict_has_one_value;
}
