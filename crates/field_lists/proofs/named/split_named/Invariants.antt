use Rattle.std.proofs.Common.{◌≡◌, length}
use Rattle.std.specs.Prelude.{filter}
use Rattle.field_lists.specs.tools.Sizes.{is_named}
use Rattle.field_lists.proofs.named.split_named.Given as goal

abbrev pub invariant-fields : goal.invariant-fields
invariant-fields l = filter (is_named l.name) l.left ≡ filter (is_named l.name) l.fn.fields

abbrev pub decreases-fields : goal.decreases-fields
decreases-fields l = length l.left
