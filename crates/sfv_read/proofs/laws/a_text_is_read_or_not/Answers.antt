use Rattle.sfv_read.proofs.Readings.{item_is_decided, inner_is_decided, list_is_decided, dict_is_decided}
use Rattle.sfv_read.proofs.laws.a_text_is_read_or_not.Goals as goal

pub returns : goal.returns
returns c = record {
  item = item_is_decided;
  inner = inner_is_decided;
  list = list_is_decided;
  dict = dict_is_decided;
}
