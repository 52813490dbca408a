use Rattle.sfv_read.proofs.StrictReads.{item_text_reads, inner_text_reads, list_text_reads, dict_text_reads}
use Rattle.sfv_read.proofs.laws.strict_texts_read_back.Goals as goal

pub returns : goal.returns
returns c = record {
  item = item_text_reads;
  inner = inner_text_reads;
  list = list_text_reads;
  dict = dict_text_reads;
}
