use Rattle.std.proofs.Common.{◌≡◌, length}
use Rattle.rewrite_script.specs.tools.LineWalk.{sizes_read}
use Rattle.rewrite_script.proofs.SizeLaws.{after_sizes}
use Rattle.rewrite_script.proofs.argument.sizes_of.Given as goal

abbrev pub invariant-words : goal.invariant-words
invariant-words l = sizes_read l.bytes ≡ after_sizes l.sizes (sizes_read l.rest)

abbrev pub decreases-words : goal.decreases-words
decreases-words l = length l.rest
