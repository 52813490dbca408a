use Rattle.std.proofs.Common.{option_map}
use Rattle.recording.specs.Items.{body_of}
use Rattle.recording.proofs.NextLaws.{given_is, only_given}
use Rattle.recording.proofs.read.read_item.Goals as goal

pub returns-clause-is : goal.returns-clause-is
returns-clause-is c = given_is (λ x. option_map body_of x.0) (λ x. x.1.now) c.args.last c.args.bytes.now c.read_next.result c.read_next.ensures

pub returns-clause-only : goal.returns-clause-only
returns-clause-only c = only_given (λ x. option_map body_of x.0) (λ x. x.1.now) c.args.last c.args.bytes.now c.read_next.result c.read_next.ensures
