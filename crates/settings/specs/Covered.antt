-- Lists of covered components.
use Rattle.std.specs.Prelude.{ℕ, List, []}
use Rattle.sfv_read.specs.Reads.{ReadsInner}
use Rattle.component_ids.specs.declared.id.ComponentId.{ComponentId}
use Rattle.component_ids.specs.declared.params.SigParams.{SigParams}
use Rattle.component_ids.specs.SignatureParams.{IsSigParams, list_of}

-- the components alone, as signature parameters
abbrev pub params_of : List ComponentId → SigParams
params_of ids = record { ids = ids; params = [] }

-- the text is an Inner List of covered components without parameters of its own (RFC 9421
-- section 2.3)
pub record IsCoveredList (text : List ℕ) (ids : List ComponentId) : Type 0 where
  pub reads : ReadsInner text (list_of (params_of ids))
  pub components : IsSigParams (params_of ids)
