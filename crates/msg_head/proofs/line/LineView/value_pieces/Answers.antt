use Rattle.std.proofs.Common.{refl}
use Rattle.msg_head.proofs.Unfolded.{raw_has_one_value}
use Rattle.msg_head.proofs.line.LineView.value_pieces.Goals as goal

pub returns-clause-folds : goal.returns-clause-folds
returns-clause-folds c is = (raw_has_one_value c.args.self.raw.now _ is).1 refl
