-- The words that output has for a step that gives no message.
use Rattle.std.specs.Prelude.{ℕ, List, codes}
use Rattle.line_rewrites.specs.declared.fault.ApplyFault.{ApplyFault}
use Rattle.line_rewrites.specs.declared.fault.ApplyFault.TheVariants.{Memory, NotApplicable}

-- the word of the fault
abbrev pub apply_fault_text : ApplyFault → List ℕ
apply_fault_text Memory = codes "out of memory"
apply_fault_text NotApplicable = codes "not-applicable"
