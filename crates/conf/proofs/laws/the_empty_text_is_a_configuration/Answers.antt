use Rattle.std.proofs.Common.{refl}
use Rattle.conf.proofs.EmptyLaws.{empty_configures}
use Rattle.conf.proofs.laws.the_empty_text_is_a_configuration.Goals as goal

pub returns : goal.returns
returns c = empty_configures _ refl
