-- What `negotiate` comes to: a response with the signatures and the digest that its request asks
-- for (RFC 9421 section 5, RFC 9530 section 4).
use Rattle.std.specs.Prelude.{◌≡◌, ℕ, Some, List, IsSomeAnd, slice_get}
use Rattle.msg_body.specs.Messages.{Message, message_text}
use Rattle.component_ids.specs.Identifiers.{id_text}
use Rattle.component_values.specs.Context.{MessageContext}
use Rattle.conf.specs.Configuration.{Configuration}
use Rattle.signing.specs.Wishes.{AreWished}
use Rattle.signing.specs.declared.fault.SignFault.TheVariants.{Lacks as LacksAt}
use Rattle.signing.specs.declared.spec.SignSpec.{SignSpec}
use Rattle.negotiation.specs.NegotiateCauses.{IsNegotiateFault}
use Rattle.negotiation.specs.Negotiated.{IsNegotiated}
use Rattle.negotiation.specs.declared.fault.NegotiateFault.{NegotiateFault}
use Rattle.negotiation.specs.declared.fault.NegotiateFault.TheVariants as fault
use Rattle.refusals.specs.declared.refusal.Refusal.TheVariants.{Command}
use Rattle.refusals.specs.declared.refusal.CommandRefusal.{CommandRefusal}
use Rattle.refusals.specs.declared.refusal.CommandRefusal.TheVariants.{Lacks, Sign, Wishes, Digest}
use Rattle.refusals.specs.declared.refusal.DigestRefusal.TheVariants.{Malformed, Unacceptable, Unmet}
use Rattle.commands.specs.Layers.{IsUnrefused, ReadsThen}
use Rattle.commands.specs.declared.outcome.Outcome.{Outcome}
use Rattle.commands.specs.declared.outcome.Outcome.TheVariants.{Done}

-- the text is the identifier of the component at this place of the wish at the index
pub record IsIdOfWish (conf : Configuration) (moment : ℕ) (context : MessageContext)
    (index place : ℕ) (id : List ℕ) : Type 0 where
  pub request : Message
  pub request_is : context.related ≡ Some request
  pub specs : List SignSpec
  pub wished : AreWished conf moment request specs
  pub spec : SignSpec
  pub there : slice_get specs index ≡ Some spec
  pub id_is : IsSomeAnd (slice_get spec.params.ids place) (λ lacking. id ≡ id_text lacking)

-- the refusal for a fault: that of the digest, of the wishes, or of a signature, as `sign` has it,
-- a lack by the identifier of its component
abbrev pub IsRefusalOf : ℕ → Configuration → MessageContext → NegotiateFault → CommandRefusal
    → Type 0
IsRefusalOf moment conf context fault.Memory refusal = ⊥
IsRefusalOf moment conf context fault.WishMalformed refusal = refusal ≡ Digest Malformed
IsRefusalOf moment conf context fault.Unacceptable refusal = refusal ≡ Digest Unacceptable
IsRefusalOf moment conf context fault.DigestUnmet refusal = refusal ≡ Digest Unmet
IsRefusalOf moment conf context (fault.Wanted own) refusal = refusal ≡ Wishes own
IsRefusalOf moment conf context (fault.Sign index (LacksAt place lack)) refusal =
    (id : List ℕ) × IsIdOfWish conf moment context index place id × (refusal ≡ Lacks lack id)
IsRefusalOf moment conf context (fault.Sign index own) refusal = refusal ≡ Sign own

-- why the response isn't signed as its request asks: the first fault whose cause holds
abbrev pub IsNegotiateRefused : ℕ → Configuration → MessageContext → CommandRefusal → Type 0
IsNegotiateRefused moment conf context refusal =
    (own : NegotiateFault) × IsNegotiateFault conf moment context own
    × IsRefusalOf moment conf context own refusal

-- the response with each signature that its request wishes, where there is no fault
abbrev pub ReportsNegotiation : ℕ → Configuration → MessageContext → Outcome → Type 0
ReportsNegotiation moment conf context =
    ReadsThen
    (IsUnrefused (IsNegotiated conf moment context) (IsNegotiateFault conf moment context))
    (IsNegotiateRefused moment conf context) Command
    (λ written outcome. outcome ≡ Done (message_text written))
