-- Where a fault of components is.
use Rattle.std.specs.Prelude.{ℕ, ◌<◌, ⊤}
use Rattle.component_values.specs.declared.fault.ValueFault.{ValueFault}
use Rattle.component_values.specs.declared.fault.ValueFault.TheVariants.{Memory, Lacks}

-- the index of a component that lacks a value is below this count
abbrev pub HasIndexBelow : ℕ → ValueFault → Type 0
HasIndexBelow count Memory = ⊤
HasIndexBelow count (Lacks index lack) = index < count
