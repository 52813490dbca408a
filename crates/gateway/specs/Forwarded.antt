-- What a gateway makes of a message that it accepted: the configured steps that the accepted
-- signature permits are taken (RFC 9421 section 1.1), and the message that comes out is signed
-- (section 3.1).
use Rattle.std.specs.Prelude.{◌≡◌, ◌⊎◌, ℕ, IsTrue, IsFalse, None, Some, List, slice_get}
use Rattle.std.specs.List.{list_any}
use Rattle.framing.specs.Framings.{is_request}
use Rattle.msg_body.specs.Messages.{Message, message_text}
use Rattle.component_ids.specs.declared.params.SigParams.{SigParams}
use Rattle.component_values.specs.Context.{MessageContext}
use Rattle.rewrite_script.specs.declared.rewrite.Rewrite.{Rewrite}
use Rattle.rewrites.specs.Permitted.{Permits}
use Rattle.rewrites.specs.Steps.{Step, Steps}
use Rattle.settings.specs.Configuration.{Configuration}
use Rattle.signing.specs.Asked.{IsSpecOf}
use Rattle.signing.specs.SignCauses.{IsSignFault, covers_itself}
use Rattle.signing.specs.Signed.{IsSignedMessage}
use Rattle.signing.specs.declared.fault.SignFault.{SignFault}
use Rattle.signing.specs.declared.fault.SignFault.TheVariants as sign
use Rattle.signing.specs.declared.spec.SignSpec.{SignSpec}
use Rattle.gateway.specs.declared.gateway_record.HeldFault.{HeldFault}
use Rattle.gateway.specs.declared.gateway_record.HeldFault.TheVariants.{Sign, Lacks, Covered}

-- ---- steps

-- the step gives this message, and the label's signature with these parameters permits it
pub record IsTaken (label : List ℕ) (params : SigParams) (context : MessageContext)
    (step : Rewrite) (after : Message) : Type 0 where
  pub permits : Permits context step label params
  pub gives : Step context step after

-- a step that gives a message and is permitted is taken, and another one is left out
abbrev pub TakesStep : List ℕ → SigParams → MessageContext → Rewrite → Message → Type 0
TakesStep label params context step after =
    IsTaken label params context step after
    ⊎ (((other : Message) → ¬ IsTaken label params context step other)
    × (after ≡ context.message))

-- the message after the steps, each on the message that those before it gave
abbrev pub IsForwarded : List Rewrite → List ℕ → SigParams → MessageContext → Message → Type 0
IsForwarded steps label params context after =
    Steps (TakesStep label params) context steps after

-- ---- the gateway's signature

-- what the configuration asks the gateway to sign of the message at this moment
abbrev pub IsOwnSpec : Configuration → ℕ → Message → SignSpec → Type 0
IsOwnSpec conf now message spec = IsSpecOf conf (is_request message.head.start) now None spec

-- signing changes what the signature covers: one of the header's two fields of signatures, whole,
-- or its member of the gateway's label
abbrev pub CoversNew : SigParams → SignSpec → Type 0
CoversNew params spec = IsTrue (list_any (covers_itself spec.label) params.ids)

-- nothing is against signing it
abbrev pub IsSignable : MessageContext → SignSpec → Type 0
IsSignable context spec = (fault : SignFault) → ¬ IsSignFault context spec fault

-- why the context's message is held: it can't be signed, or the accepted signature covers what
-- signing changes
abbrev pub IsHeldFor : MessageContext → SigParams → SignSpec → HeldFault → Type 0
IsHeldFor context params spec (Sign (sign.Lacks index lack)) = ⊥
IsHeldFor context params spec (Sign fault) = IsSignFault context spec fault
IsHeldFor context params spec (Lacks lack id) = (index : ℕ)
    × IsSignFault context spec (sign.Lacks index lack)
    × (slice_get spec.params.ids index ≡ Some id)
IsHeldFor context params spec Covered = IsSignable context spec × CoversNew params spec

-- the text is that of the context's message with the gateway's signature
pub record IsPassed (context : MessageContext) (params : SigParams) (spec : SignSpec)
    (text : List ℕ) : Type 0 where
  pub signable : IsSignable context spec
  pub uncovered : IsFalse (list_any (covers_itself spec.label) params.ids)
  pub written : Message
  pub signed : IsSignedMessage context spec written
  pub text_is : text ≡ message_text written
