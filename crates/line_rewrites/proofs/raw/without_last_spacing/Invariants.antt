use Rattle.std.proofs.Common.{◌≡◌, length}
use Rattle.std.specs.Prelude.{reverse}
use Rattle.line_rewrites.specs.tools.Computed.{without_first_spacing}
use Rattle.line_rewrites.proofs.raw.without_last_spacing.Given as goal

abbrev pub invariant-last : goal.invariant-last
invariant-last l = without_first_spacing (reverse l.left) ≡ without_first_spacing (reverse l.fn.text)

abbrev pub decreases-last : goal.decreases-last
decreases-last l = length l.left
