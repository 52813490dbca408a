use Rattle.std.proofs.Common.{◌≡◌, length}
use Rattle.line_rewrites.specs.tools.Computed.{without_first_spacing}
use Rattle.line_rewrites.proofs.raw.without_first_spacing.Given as goal

abbrev pub invariant-first : goal.invariant-first
invariant-first l = without_first_spacing l.left ≡ without_first_spacing l.fn.text

abbrev pub decreases-first : goal.decreases-first
decreases-first l = length l.left
