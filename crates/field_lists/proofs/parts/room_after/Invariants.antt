use Rattle.std.proofs.Common.{◌≡◌, ◌+◌, length}
use Rattle.field_lists.specs.tools.Sizes.{lines_size}
use Rattle.field_lists.proofs.parts.room_after.Given as goal

abbrev pub invariant-fields : goal.invariant-fields
invariant-fields l = l.left + lines_size l.fn.fields ≡ l.fn.room + lines_size l.rest

abbrev pub decreases-fields : goal.decreases-fields
decreases-fields l = length l.rest
