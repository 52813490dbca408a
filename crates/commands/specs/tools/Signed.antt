-- What is answered for a message that isn't signed. No public clause cites this module.
use Rattle.std.specs.Prelude.{◌≡◌, ◌<◌, ⊤, ℕ, List, length, slice_get, IsSomeAnd}
use Rattle.msg_body.specs.Messages.{Message, Spells}
use Rattle.component_ids.specs.declared.id.ComponentId.{ComponentId}
use Rattle.component_values.specs.Context.{MessageContext, answers_head}
use Rattle.component_values.specs.declared.fault.ValueFault.TheVariants as value
use Rattle.negotiation.specs.declared.fault.EachFault.{EachFault}
use Rattle.negotiation.specs.declared.fault.EachFault.TheVariants as each
use Rattle.refusals.specs.declared.refusal.Refusal.TheVariants.{Command}
use Rattle.refusals.specs.declared.refusal.CommandRefusal.TheVariants.{Sign}
use Rattle.signing.specs.declared.fault.SignFault.{SignFault}
use Rattle.signing.specs.declared.fault.SignFault.TheVariants.{Memory, Lacks}
use Rattle.signing.specs.Signed.{IsSignedMessage}
use Rattle.signing.specs.declared.spec.SignSpec.{SignSpec}
use Rattle.commands.specs.Layers.{IsUnrefused}
use Rattle.commands.specs.Sign.{IsSignRefused}
use Rattle.intake.specs.declared.stop.Stop.{Stop}
use Rattle.intake.specs.declared.stop.Stop.TheVariants as ends
use Rattle.commands.specs.tools.Prepared.{SaysFault}

-- the index of a component that lacks a value is below this count
abbrev pub HasIndexIn : ℕ → SignFault → Type 0
HasIndexIn count (Lacks index lack) = index < count
HasIndexIn count fault = ⊤

-- the stop says the fault, of these components, or that memory ran out
abbrev pub SaysSignFault : List ComponentId → SignFault → Stop → Type 0
SaysSignFault ids Memory stop = stop ≡ ends.Memory
SaysSignFault ids (Lacks index lack) stop = SaysFault ids (value.Lacks index lack) stop
SaysSignFault ids fault stop = stop ≡ ends.Refused (Command (Sign fault))

-- the signature that isn't made is one of these, and so is the component of it that lacks a value
abbrev pub HasPlaceIn : List SignSpec → EachFault → Type 0
HasPlaceIn specs each.Memory = ⊤
HasPlaceIn specs (each.Sign index fault) =
    IsSomeAnd (slice_get specs index) (λ spec. HasIndexIn (length spec.params.ids) fault)

-- the stop says the fault of one of these signatures, or that memory ran out
abbrev pub SaysEachFault : List SignSpec → EachFault → Stop → Type 0
SaysEachFault specs each.Memory stop = stop ≡ ends.Memory
SaysEachFault specs (each.Sign index fault) stop =
    IsSomeAnd (slice_get specs index) (λ spec. SaysSignFault spec.params.ids fault stop)

-- the text is that of the signed message
pub record IsSignedText (context : MessageContext) (spec : SignSpec) (text : List ℕ)
    : Type 0 where
  pub written : Message
  pub spells : Spells (answers_head context.related) written text
  pub is : IsUnrefused (IsSignedMessage context spec) (IsSignRefused context spec) written
