-- What is answered for a message and signature parameters. No public clause cites this module.
use Rattle.std.specs.Prelude.{◌≡◌, ◌⊎◌, ℕ, List, slice_get, IsSomeAnd}
use Rattle.component_ids.specs.Identifiers.{id_text}
use Rattle.component_ids.specs.declared.id.ComponentId.{ComponentId}
use Rattle.derived_values.specs.declared.lack.Lack.{Lack}
use Rattle.component_values.specs.declared.fault.ValueFault.{ValueFault}
use Rattle.component_values.specs.declared.fault.ValueFault.TheVariants as fault
use Rattle.refusals.specs.declared.refusal.Refusal.TheVariants.{Command}
use Rattle.refusals.specs.declared.refusal.CommandRefusal.TheVariants.{Lacks}
use Rattle.intake.specs.declared.stop.Stop.{Stop}
use Rattle.intake.specs.declared.stop.Stop.TheVariants.{Memory, Refused}

-- the refusal for a component that lacks a value so, and has this identifier
abbrev pub stop_for_lack : Lack → List ℕ → Stop
stop_for_lack lack id = Refused (Command (Lacks lack id))

-- the stop says the fault of these components, or that memory ran out
abbrev pub SaysFault : List ComponentId → ValueFault → Stop → Type 0
SaysFault ids fault.Memory stop = stop ≡ Memory
SaysFault ids (fault.Lacks index lack) stop = (stop ≡ Memory)
    ⊎ IsSomeAnd (slice_get ids index) (λ id. stop ≡ stop_for_lack lack (id_text id))
