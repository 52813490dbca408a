-- The signatures of a message, by their labels (RFC 9421 sections 4.1 and 4.2).
use Rattle.std.specs.Prelude.{ℕ, Option, MatchOption, List}
use Rattle.sfv_text.specs.Keys.{value_of}
use Rattle.component_ids.specs.declared.params.SigParams.{SigParams}
use Rattle.msg_body.specs.Messages.{Message}
use Rattle.signatures.specs.Signatures.{AreLabels, HasSignature}
use Rattle.signatures.specs.declared.label.LabelRead.{LabelRead}
use Rattle.signatures.specs.declared.message_signatures.MessageSignatures.{MessageSignatures}

-- the label's signature in the message, or that it has none
abbrev pub IsSignatureOf : Message → List ℕ → Option LabelRead → Type 0
IsSignatureOf message label read = MatchOption read
    ((params : SigParams) (tag : List ℕ) → ¬ HasSignature message label params tag)
    (λ read. HasSignature message label read.params read.tag)

-- the labels of the message, and of each label the signature that it has in the message; a label
-- that isn't among these has none
pub record AreSignaturesOf (message : Message) (signatures : MessageSignatures) : Type 0 where
  pub labels : AreLabels message signatures.labels
  pub each : (label : List ℕ) → MatchOption (value_of signatures.by_label label)
      ((params : SigParams) (tag : List ℕ) → ¬ HasSignature message label params tag)
      (IsSignatureOf message label)
