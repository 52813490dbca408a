-- What is known of a component on which two messages don't agree. No public clause cites this
-- module.
use Rattle.std.specs.Prelude.{◌<◌, ℕ, List, length}
use Rattle.msg_body.specs.Messages.{Message}
use Rattle.component_ids.specs.declared.params.SigParams.{SigParams}
use Rattle.signatures.specs.Signatures.{HasSignature}

-- the label's signature covers a component with this index
pub record HasCovered (message : Message) (label : List ℕ) (index : ℕ) : Type 0 where
  pub params : SigParams
  pub tag : List ℕ
  pub signature : HasSignature message label params tag
  pub within : index < length params.ids
