-- A message of a chain as it is audited. No public clause cites this module.
use Rattle.std.specs.Prelude.{◌≡◌, ◌≤◌, ℕ, Bool, List}
use Rattle.sfv_text.specs.declared.pair.Pair.{Pair}
use Rattle.component_values.specs.Context.{HasWholeMessage, MessageContext, context_with}
use Rattle.signatures.specs.MessageSignatures.{AreSignaturesOf}
use Rattle.signatures.specs.declared.message_signatures.MessageSignatures.{MessageSignatures}
use Rattle.nonces.specs.declared.limits.TheConstants.{MAX_MOMENT}
use Rattle.settings.specs.Configuration.{Configuration}
use Rattle.verdicts.specs.Verification.{Verification, verification_for}
use Rattle.hop_audit.specs.tools.Carried.{KnowTags}

-- what a contract sees of it: what its labels are judged by, and when, in seconds since the epoch
pub record StageState : Type 0 where
  pub conf : Configuration
  pub moment : ℕ
  pub context : MessageContext

-- what its label is judged by
abbrev pub judged : StageState → List ℕ → Verification
judged stage label = verification_for stage.conf stage.moment stage.context label

-- the moment is one that may be, the message is whole, the signatures are those of its labels, and
-- it is known whether these tags are right
pub record IsStage (conf : Configuration) (moment : ℕ) (context : MessageContext)
    (signatures : MessageSignatures) (known : List (Pair Bool)) : Type 0 where
  pub now : moment ≤ MAX_MOMENT
  pub whole : HasWholeMessage context
  pub signatures_are : AreSignaturesOf context.message signatures
  pub tags : KnowTags conf context known

-- the contexts differ in the message alone
abbrev pub AreAlike : MessageContext → MessageContext → Type 0
AreAlike before after = after ≡ context_with before after.message
