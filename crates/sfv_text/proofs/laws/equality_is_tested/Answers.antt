use Rattle.sfv_text.proofs.PutLaws.{bytes_eq-sym}
use Rattle.sfv_text.proofs.EqualityLaws.{bare_equal, param_equal}
use Rattle.sfv_text.proofs.laws.equality_is_tested.Goals as goal

pub returns : goal.returns
returns c = record { bare = bare_equal; param = param_equal; keys = bytes_eq-sym }
