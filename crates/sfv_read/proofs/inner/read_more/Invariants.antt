use Rattle.std.proofs.Common.{◌≡◌, length}
use Rattle.byte_grammar.specs.tools.Walks.{turns_read, with_prefix}
use Rattle.sfv_read.specs.tools.InnerWalk.{next_item_read}
use Rattle.sfv_read.proofs.inner.read_more.Given as goal

abbrev pub invariant-items : goal.invariant-items
invariant-items l = with_prefix l.items (turns_read next_item_read l.rest) ≡ with_prefix l.fn.first (turns_read next_item_read l.bytes)

abbrev pub decreases-items : goal.decreases-items
decreases-items l = length l.rest
