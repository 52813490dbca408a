use Rattle.sfv_read.proofs.SameDicts.{reads_as_same_dict}
use Rattle.sfv_read.proofs.laws.strict_texts_read_as_the_same_dictionary.Goals as goal

pub returns : goal.returns
returns c = reads_as_same_dict
