use Rattle.sfv_read.specs.Reads.{ReadsItem, ReadsInner, ReadsList, ReadsDict}
use Rattle.sfv_read.proofs.TextLaws.{one_answer}
use Rattle.sfv_read.proofs.laws.a_text_has_one_answer.Goals as goal

pub returns : goal.returns
returns c = record {
  item = one_answer ReadsItem;
  inner = one_answer ReadsInner;
  list = one_answer ReadsList;
  dict = one_answer ReadsDict;
}
