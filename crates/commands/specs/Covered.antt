-- The components that a signature covers (RFC 9421 sections 2 and 2.3).
use Rattle.std.specs.Prelude.{ℕ, List}
use Rattle.sfv_read.specs.Reads.{ReadsInner}
use Rattle.component_ids.specs.SignatureParams.{IsSigParams, list_of}
use Rattle.component_ids.specs.declared.params.SigParams.{SigParams}

-- the text reads as the Inner List of these signature parameters
pub record ReadsParams (params : List ℕ) (sig : SigParams) : Type 0 where
  pub reads : ReadsInner params (list_of sig)
  pub is : IsSigParams sig
