use Rattle.std.proofs.Common.{ap, ◌∙◌}
use Rattle.std.specs.FinMap as map
use Rattle.sfv_text.specs.tools.Index.{Places}
use Rattle.sfv_text.proofs.index.index_of.Goals as goal

pub loop-place-init : goal.loop-place-init
loop-place-init g c key = ap (λ (m : Places). map.get m key) c.new-index.ensures ∙ map.get-empty _ key
