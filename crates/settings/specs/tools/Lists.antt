-- What the parts of the reader of lists answer. No public clause cites this module.
use Rattle.std.specs.Prelude.{◌≡◌, Bool, true, false, Option, Some, None, List}
use Rattle.sfv_text.specs.declared.value.InnerList.{InnerList}
use Rattle.sfv_read.specs.declared.error.SfError.{SfError}
use Rattle.sfv_read.specs.declared.error.SfError.TheVariants as sf_error
use Rattle.component_ids.specs.declared.fault.IdFault.{IdFault}
use Rattle.component_ids.specs.declared.fault.IdFault.TheVariants as id_fault
use Rattle.component_ids.specs.declared.id.ComponentId.{ComponentId}
use Rattle.component_ids.specs.SignatureParams.{IsSigParams, list_of}
use Rattle.settings.specs.Covered.{params_of}

abbrev pub is_id_memory : IdFault → Bool
is_id_memory id_fault.Memory = true
is_id_memory f = false

abbrev pub is_sf_memory : SfError → Bool
is_sf_memory sf_error.Memory = true
is_sf_memory error = false

-- the list is that of the components alone, or of no such components
abbrev pub IsIdsOf : InnerList → Option (List ComponentId) → Type 0
IsIdsOf list None =
    (ids : List ComponentId) → list_of (params_of ids) ≡ list → ¬ IsSigParams (params_of ids)
IsIdsOf list (Some ids) = IsSigParams (params_of ids) × (list_of (params_of ids) ≡ list)
