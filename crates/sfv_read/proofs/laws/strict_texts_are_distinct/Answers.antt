use Rattle.sfv_text.specs.Range.{is_item_in_range, is_inner_in_range, is_list_in_range, is_dict_in_range}
use Rattle.sfv_text.specs.Strict.{item_text, inner_text, list_text, dict_text}
use Rattle.sfv_read.proofs.Readings.{item_judges, inner_judges, list_judges, dict_judges}
use Rattle.sfv_read.proofs.StrictReads.{item_text_reads, inner_text_reads, list_text_reads, dict_text_reads}
use Rattle.sfv_read.proofs.TextLaws.{distinct_texts}
use Rattle.sfv_read.proofs.laws.strict_texts_are_distinct.Goals as goal

pub returns : goal.returns
returns c = record {
  item = distinct_texts item_judges is_item_in_range item_text item_text_reads;
  inner = distinct_texts inner_judges is_inner_in_range inner_text inner_text_reads;
  list = distinct_texts list_judges is_list_in_range list_text list_text_reads;
  dict = distinct_texts dict_judges is_dict_in_range dict_text dict_text_reads;
}
