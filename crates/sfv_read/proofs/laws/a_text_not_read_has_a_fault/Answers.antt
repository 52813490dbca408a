use Rattle.sfv_read.proofs.Readings.{item_judges, inner_judges, list_judges, dict_judges}
use Rattle.sfv_read.proofs.TextLaws.{has_fault}
use Rattle.sfv_read.proofs.laws.a_text_not_read_has_a_fault.Goals as goal

pub returns : goal.returns
returns c = record {
  item = has_fault item_judges;
  inner = has_fault inner_judges;
  list = has_fault list_judges;
  dict = has_fault dict_judges;
}
