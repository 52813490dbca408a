use Rattle.std.proofs.Common.{arith}
use Rattle.recording.specs.tools.RecordingViews.{items_in}
use Rattle.recording.proofs.ViewLaws.{all_left, few_left}
use Rattle.recording.proofs.view.Recording.items.Goals as goal

pub invariant_of-result : goal.invariant_of-result
invariant_of-result c = rw c.split_at.ensures.back (all_left c.self.inside.text.now (items_in c.self.inside.text.now) c.self.invariant)

pub returns-clause-few : goal.returns-clause-few
returns-clause-few c =
    few_left c.self.inside.text.now c.split_at.result.1.now c.self.invariant c.split_at.ensures.back (omega (arith, c.self.told))
