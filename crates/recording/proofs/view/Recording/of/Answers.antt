use Rattle.recording.proofs.ViewLaws.{spelled_in}
use Rattle.recording.proofs.view.Recording.of.Goals as goal

pub invariant_of-result : goal.invariant_of-result
invariant_of-result c = spelled_in c.args.text.now c.requires

pub returns : goal.returns
returns c = spelled_in c.args.text.now c.requires
