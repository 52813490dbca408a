-- What `sign` comes to: the message of a context with a signature, or with more than one.
use Rattle.std.specs.Prelude.{◌≡◌, ℕ, Option, Some, None, List, [], ◌∷◌, IsSomeAnd, slice_get}
use Rattle.msg_body.specs.Messages.{Message, message_text}
use Rattle.framing.specs.Framings.{is_request}
use Rattle.component_ids.specs.Identifiers.{id_text}
use Rattle.component_values.specs.Context.{MessageContext, context_with}
use Rattle.conf.specs.Configuration.{Configuration}
use Rattle.signing.specs.Asked.{IsSpecOf}
use Rattle.signing.specs.SignCauses.{IsSignFault}
use Rattle.signing.specs.Signed.{IsSignedMessage}
use Rattle.signing.specs.WishCauses.{IsWantFault}
use Rattle.signing.specs.Wishes.{AreWished}
use Rattle.signing.specs.declared.fault.SignFault.TheVariants.{Lacks as LacksAt}
use Rattle.signing.specs.declared.spec.SignSpec.{SignSpec}
use Rattle.commands.specs.Layers.{MakesThen}
use Rattle.refusals.specs.declared.refusal.Refusal.TheVariants.{Command}
use Rattle.refusals.specs.declared.refusal.CommandRefusal.{CommandRefusal}
use Rattle.refusals.specs.declared.refusal.CommandRefusal.TheVariants.{Lacks, Sign, Wishes}
use Rattle.commands.specs.declared.outcome.Outcome.{Outcome}
use Rattle.commands.specs.declared.outcome.Outcome.TheVariants.{Done}

-- why the message isn't signed: the first fault whose cause holds, a lack by the identifier of its
-- component
abbrev pub IsSignRefused : MessageContext → SignSpec → CommandRefusal → Type 0
IsSignRefused context spec (Sign (LacksAt index lack)) = ⊥
IsSignRefused context spec (Sign fault) = IsSignFault context spec fault
IsSignRefused context spec (Lacks lack id) =
    (index : ℕ) × IsSignFault context spec (LacksAt index lack)
    × IsSomeAnd (slice_get spec.params.ids index) (λ lacking. id ≡ id_text lacking)
IsSignRefused context spec refusal = ⊥

-- the message with each of these signatures in order, each over the message that the one before it
-- gave
abbrev pub ReportsEach : MessageContext → List SignSpec → Outcome → Type 0
ReportsEach context [] outcome = outcome ≡ Done (message_text context.message)
ReportsEach context (spec ∷ specs) outcome =
    MakesThen (IsSignedMessage context spec) (IsSignRefused context spec) Command
    (λ written. ReportsEach (context_with context written) specs) outcome

-- ---- what the configuration asks for

-- the message with the signature that the configuration asks for
pub record ReportsSign (nonce : Option (List ℕ)) (moment : ℕ) (conf : Configuration)
    (context : MessageContext) (outcome : Outcome) : Type 0 where
  pub spec : SignSpec
  pub is : IsSpecOf conf (is_request context.message.head.start) moment nonce spec
  pub reports : ReportsEach context (spec ∷ []) outcome

-- ---- what a message wishes (RFC 9421 section 5.1)

-- why the wishes aren't met: the first fault whose cause holds
abbrev pub AreWishesRefused : Configuration → Message → CommandRefusal → Type 0
AreWishesRefused conf wanted (Wishes fault) = IsWantFault conf wanted fault
AreWishesRefused conf wanted refusal = ⊥

-- the message with each signature that is wished, in order
abbrev pub ReportsWished : ℕ → Configuration → Message → MessageContext → Outcome → Type 0
ReportsWished moment conf wanted context =
    MakesThen (AreWished conf moment wanted) (AreWishesRefused conf wanted) Command
    (ReportsEach context)

-- the message with the signatures that another message wishes, or, where there is no such message,
-- with the one that the configuration asks for
abbrev pub ReportsSigning : Option (List ℕ) → ℕ → Configuration → Option Message → MessageContext
    → Outcome → Type 0
ReportsSigning given moment conf None = ReportsSign given moment conf
ReportsSigning given moment conf (Some wishes) = ReportsWished moment conf wishes
