use Rattle.recording.proofs.NextLaws.{first_given}
use Rattle.recording.proofs.read.read_first.Goals as goal

pub returns-clause-is : goal.returns-clause-is
returns-clause-is c = first_given (λ x. x.0) (λ x. x.1.now) c.args.text.now c.read_begin.result c.read_begin.ensures
