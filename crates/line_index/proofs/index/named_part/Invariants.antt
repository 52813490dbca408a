use Rattle.std.proofs.Common.{◌≡◌, true}
use Rattle.std.specs.List.{AllWithin}
use Rattle.line_index.specs.tools.Index.{is_named}
use Rattle.line_index.proofs.index.named_part.Given as goal

abbrev pub invariant-loop-count : goal.invariant-loop-count
invariant-loop-count l = AllWithin (λ entry. is_named l.bytes l.spans l.name entry ≡ true) l.rest 0 l.count
