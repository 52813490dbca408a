-- The words that output has for a walk that doesn't come to its end.
use Rattle.std.specs.Prelude.{ℕ, List, ◌++◌, codes}
use Rattle.std.specs.Fmt.{decimal}
use Rattle.rewrites.specs.declared.fault.WalkFault.{WalkFault}
use Rattle.rewrites.specs.declared.fault.WalkFault.TheVariants.{Memory, Unjudged, NotApplicable, NotPermitted}

-- the words of the fault, with the index of the step
abbrev pub walk_fault_text : WalkFault → List ℕ
walk_fault_text Memory = codes "out of memory"
walk_fault_text (Unjudged index) = codes "unjudged " ++ decimal index
walk_fault_text (NotApplicable index) = codes "not-applicable " ++ decimal index
walk_fault_text (NotPermitted index) = codes "not-permitted " ++ decimal index
