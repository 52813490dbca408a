use Rattle.sfv_read.proofs.MoreMembers.{dict_more, dict_more_text, strict_ends}
use Rattle.sfv_read.proofs.laws.a_dictionary_takes_a_further_member.Goals as goal

pub returns : goal.returns
returns c = record {
  further = dict_more;
  text = dict_more_text;
  ends = strict_ends;
}
