use Rattle.msg_head.proofs.MoreLines.{value_after_space}
use Rattle.msg_head.proofs.Unfolded.{raw_has_one_value}
use Rattle.msg_head.proofs.laws.a_line_has_one_value.Goals as goal

pub returns : goal.returns
returns c = record { value = raw_has_one_value; after_space = value_after_space }
