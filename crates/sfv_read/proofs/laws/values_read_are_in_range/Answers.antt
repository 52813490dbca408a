use Rattle.sfv_read.proofs.InRange.{item_read_in_range, inner_read_in_range, list_read_in_range, dict_read_in_range}
use Rattle.sfv_read.proofs.laws.values_read_are_in_range.Goals as goal

pub returns : goal.returns
returns c = record {
  item = item_read_in_range;
  inner = inner_read_in_range;
  list = list_read_in_range;
  dict = dict_read_in_range;
}
