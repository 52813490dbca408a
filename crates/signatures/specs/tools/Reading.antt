-- The signatures of labels that were read so far. No public clause cites this module.
use Rattle.std.specs.Prelude.{◌≡◌, ℕ, Option, None, IfSome, MatchOption, List}
use Rattle.sfv_text.specs.Keys.{value_of}
use Rattle.sfv_text.specs.declared.pair.Pair.{Pair}
use Rattle.component_ids.specs.Table.{is_listed}
use Rattle.component_ids.specs.declared.params.SigParams.{SigParams}
use Rattle.msg_body.specs.Messages.{Message}
use Rattle.signatures.specs.Signatures.{HasSignature}
use Rattle.signatures.specs.declared.label.LabelRead.{LabelRead}
use Rattle.signatures.specs.MessageSignatures.{IsSignatureOf}

-- of each label the signature that it has in the message; a label that isn't among these has none
abbrev pub AreReadIn : Message → List (Pair (Option LabelRead)) → Type 0
AreReadIn message signatures = (label : List ℕ) → MatchOption (value_of signatures label)
    ((params : SigParams) (tag : List ℕ) → ¬ HasSignature message label params tag)
    (IsSignatureOf message label)

-- the signatures are read of the labels but for those that are left
pub record AreReadSoFar (message : Message) (signatures : List (Pair (Option LabelRead)))
    (labels left : List (List ℕ)) : Type 0 where
  pub read : (label : List ℕ) → IfSome (value_of signatures label) (IsSignatureOf message label)
  pub rest : (label : List ℕ) → value_of signatures label ≡ None
      → is_listed left label ≡ is_listed labels label
