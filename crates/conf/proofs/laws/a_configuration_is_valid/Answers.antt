use Rattle.conf.proofs.ConfLaws.{valid_where_read}
use Rattle.conf.proofs.laws.a_configuration_is_valid.Goals as goal

pub returns : goal.returns
returns c = valid_where_read
