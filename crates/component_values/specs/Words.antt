-- What faults say.
use Rattle.std.specs.Prelude.{ℕ, List, ◌++◌, codes}
use Rattle.std.specs.Fmt.{decimal}
use Rattle.derived_values.specs.Words.{lack_word}
use Rattle.component_values.specs.declared.fault.ValueFault.{ValueFault}
use Rattle.component_values.specs.declared.fault.ValueFault.TheVariants.{Memory, Lacks}

-- what a fault says
abbrev pub value_fault_text : ValueFault → List ℕ
value_fault_text Memory = codes "out of memory"
value_fault_text (Lacks index lack) =
    codes "the component at index " ++ (decimal index ++ (codes " is " ++ lack_word lack))
