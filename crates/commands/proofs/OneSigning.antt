-- What is signed by a configuration has one outcome.
use Rattle.std.proofs.Common.{◌≡◌, ℕ, Some, None, List, [], ◌∷◌, refl, sym, ap, subst, ◌∙◌, inl, inr}
use Rattle.std.specs.Prelude.{IsSome}
use Rattle.msg_body.specs.Messages.{Message, message_text}
use Rattle.framing.specs.Framings.{is_request}
use Rattle.component_ids.specs.declared.id.ComponentId.{ComponentId}
use Rattle.component_values.specs.Context.{MessageContext, context_with}
use Rattle.component_values.specs.Values.{Lacks as LacksSo}
use Rattle.conf.specs.Configuration.{Configuration}
use Rattle.signing.specs.SignCauses.{IsSignFault}
use Rattle.signing.specs.Signed.{IsSignedMessage}
use Rattle.signing.specs.Written.{context_with_digest}
use Rattle.derived_values.specs.declared.lack.Lack.{Lack}
use Rattle.signing.specs.declared.fault.SignFault.{SignFault}
use Rattle.signing.specs.declared.fault.SignFault.TheVariants as fault
use Rattle.signing.specs.declared.fault.WantFault.{WantFault}
use Rattle.signing.specs.declared.spec.SignSpec.{SignSpec}
use Rattle.commands.specs.Laws.{HasOneSigning, HasSomeSigning}
use Rattle.intake.specs.Layers.{HasAnswer}
use Rattle.commands.specs.Layers.{IsUnrefused}
use Rattle.commands.specs.Sign.{AreWishesRefused, IsSignRefused, ReportsEach, ReportsWished}
use Rattle.commands.specs.declared.outcome.Outcome.{Outcome}
use Rattle.commands.specs.declared.outcome.Outcome.TheVariants.{Done, Refused}
use Rattle.refusals.specs.declared.refusal.CommandRefusal.{CommandRefusal}
use Rattle.refusals.specs.declared.refusal.CommandRefusal.TheVariants.{Syntax, Ids, Lacks, Sign, Wishes, NotTaken, Explain, ToMessage, FromMessage, Digest}
use Rattle.refusals.specs.declared.refusal.Refusal.TheVariants.{Command}
use Rattle.commands.proofs.Lacking.{id_there, one_id}
use Rattle.commands.proofs.Signing.{fault_of, said, want_fault_of}
use Rattle.commands.proofs.LowerSigning.{one_signed_message, one_sign_fault, signed_or_fault, one_spec, has_spec, one_list_of_specs, one_want_fault, specs_or_fault}

-- ---- one signature

module _ (context : MessageContext) (spec : SignSpec) where
  -- the refusal for a fault
  pub refusal_of : (f : SignFault) → IsSignFault context spec f → (cause : CommandRefusal) × IsSignRefused context spec cause
  refusal_of fault.Memory is = absurd is.holds
  refusal_of fault.InputMalformed is = (Sign fault.InputMalformed, is)
  refusal_of fault.SignatureMalformed is = (Sign fault.SignatureMalformed, is)
  refusal_of fault.LabelThere is = (Sign fault.LabelThere, is)
  refusal_of (fault.SelfCover i) is = (Sign (fault.SelfCover i), is)
  refusal_of (fault.TooLong n) is = (Sign (fault.TooLong n), is)
  refusal_of (fault.Lacks i lack) is =
      let id = id_there (λ (lacking : ComponentId). LacksSo (context_with_digest context spec.digest) lacking lack) spec.params.ids i is.holds.there in
      (Lacks lack id.0, (i, is, id.1))

  -- two refusals for one fault are one
  same_lack : (l m : Lack) (i k : List ℕ) (a : IsSignRefused context spec (Lacks l i)) (b : IsSignRefused context spec (Lacks m k)) → Lacks l i ≡ Lacks m k
  same_lack l m i k a b =
      let same = one_sign_fault context spec (fault.Lacks a.0 l) (fault.Lacks b.0 m) a.1 b.1 in
      let index : a.0 ≡ b.0 = cc same in
      let lack : l ≡ m = cc same in
      let texts = one_id spec.params.ids a.0 b.0 i k index a.2 b.2 in
      λ t. Lacks (lack t) (texts t)

  sign_is : (f : SignFault) (id : List ℕ) (l : Lack) → IsSignRefused context spec (Sign f) → IsSignRefused context spec (Lacks l id) → ⊥
  sign_is f id l a b =
      let same = one_sign_fault context spec f (fault.Lacks b.0 l) (said context spec f a) b.1 in
      subst (λ (g : SignFault). IsSignRefused context spec (Sign g)) same a

  one_refusal : (c d : CommandRefusal) → IsSignRefused context spec c → IsSignRefused context spec d → c ≡ d
  one_refusal (Syntax i) d a b = absurd a
  one_refusal (Ids f) d a b = absurd a
  one_refusal (Wishes f) d a b = absurd a
  one_refusal (NotTaken f) d a b = absurd a
  one_refusal (Explain f) d a b = absurd a
  one_refusal (ToMessage f) d a b = absurd a
  one_refusal (FromMessage f) d a b = absurd a
  one_refusal (Digest c) d a b = absurd a
  one_refusal (Lacks l i) (Syntax j) a b = absurd b
  one_refusal (Lacks l i) (Ids g) a b = absurd b
  one_refusal (Lacks l i) (Wishes g) a b = absurd b
  one_refusal (Lacks l i) (NotTaken g) a b = absurd b
  one_refusal (Lacks l i) (Explain g) a b = absurd b
  one_refusal (Lacks l i) (ToMessage g) a b = absurd b
  one_refusal (Lacks l i) (FromMessage g) a b = absurd b
  one_refusal (Lacks l i) (Digest c) a b = absurd b
  one_refusal (Lacks l i) (Lacks m k) a b = same_lack l m i k a b
  one_refusal (Lacks l i) (Sign g) a b = absurd (sign_is g i l b a)
  one_refusal (Sign f) (Syntax j) a b = absurd b
  one_refusal (Sign f) (Ids g) a b = absurd b
  one_refusal (Sign f) (Wishes g) a b = absurd b
  one_refusal (Sign f) (NotTaken g) a b = absurd b
  one_refusal (Sign f) (Explain g) a b = absurd b
  one_refusal (Sign f) (ToMessage g) a b = absurd b
  one_refusal (Sign f) (FromMessage g) a b = absurd b
  one_refusal (Sign f) (Digest c) a b = absurd b
  one_refusal (Sign f) (Lacks m k) a b = absurd (sign_is f k m a b)
  one_refusal (Sign f) (Sign g) a b = ap (λ (h : SignFault). Sign h) (one_sign_fault context spec f g (said context spec f a) (said context spec g b))

  signed_answer : HasAnswer (IsUnrefused (IsSignedMessage context spec) (IsSignRefused context spec)) (IsSignRefused context spec)
  signed_answer = elim (signed_or_fault context spec) [
    | inl made ↦ inl (made.0, record { made = made.1; none = λ cause is. let f = fault_of context spec cause is in made.2 f.0 f.1 })
    | inr f ↦ inr (refusal_of f.0 f.1)
  ]

-- ---- each signature

pub one_of_each : (specs : List SignSpec) (context : MessageContext) (one other : Outcome) → ReportsEach context specs one → ReportsEach context specs other → one ≡ other
one_of_each [] context one other a b = a ∙ sym b
one_of_each (spec ∷ specs) context one other (inl a) (inl b) =
    let same : a.0 ≡ b.0 = one_signed_message context spec a.0 b.0 a.1.made b.1.made in
    one_of_each specs (context_with context b.0) one other (subst (λ (m : Message). ReportsEach (context_with context m) specs one) same a.2) b.2
one_of_each (spec ∷ specs) context one other (inl a) (inr b) = absurd (a.1.none b.0 b.1)
one_of_each (spec ∷ specs) context one other (inr a) (inl b) = absurd (b.1.none a.0 a.1)
one_of_each (spec ∷ specs) context one other (inr a) (inr b) =
    a.2 ∙ (ap (λ (c : CommandRefusal). Refused (Command c)) (one_refusal context spec a.0 b.0 a.1 b.1) ∙ sym b.2)

some_of_each : (specs : List SignSpec) (context : MessageContext) → (outcome : Outcome) × ReportsEach context specs outcome
some_of_each [] context = (Done (message_text context.message), refl)
some_of_each (spec ∷ specs) context = elim (signed_answer context spec) [
  | inl made ↦ let rest = some_of_each specs (context_with context made.0) in (rest.0, inl (made.0, made.1, rest.1))
  | inr cause ↦ (Refused (Command cause.0), inr (cause.0, cause.1, refl))
]

-- ---- wishes

module _ (conf : Configuration) (moment : ℕ) (wishes : Message) (configured : IsSome conf.sign) where
  one_unmet : (c d : CommandRefusal) → AreWishesRefused conf wishes c → AreWishesRefused conf wishes d → c ≡ d
  one_unmet (Syntax i) d a b = absurd a
  one_unmet (Ids f) d a b = absurd a
  one_unmet (Lacks l i) d a b = absurd a
  one_unmet (Sign f) d a b = absurd a
  one_unmet (NotTaken f) d a b = absurd a
  one_unmet (Explain f) d a b = absurd a
  one_unmet (ToMessage f) d a b = absurd a
  one_unmet (FromMessage f) d a b = absurd a
  one_unmet (Digest c) d a b = absurd a
  one_unmet (Wishes f) (Syntax i) a b = absurd b
  one_unmet (Wishes f) (Ids g) a b = absurd b
  one_unmet (Wishes f) (Lacks l i) a b = absurd b
  one_unmet (Wishes f) (Sign g) a b = absurd b
  one_unmet (Wishes f) (NotTaken g) a b = absurd b
  one_unmet (Wishes f) (Explain g) a b = absurd b
  one_unmet (Wishes f) (ToMessage g) a b = absurd b
  one_unmet (Wishes f) (FromMessage g) a b = absurd b
  one_unmet (Wishes f) (Digest c) a b = absurd b
  one_unmet (Wishes f) (Wishes g) a b = ap (λ (h : WantFault). Wishes h) (one_want_fault conf wishes f g configured a b)

  one_wished : (context : MessageContext) (one other : Outcome) → ReportsWished moment conf wishes context one → ReportsWished moment conf wishes context other → one ≡ other
  one_wished context one other (inl a) (inl b) =
      let same : a.0 ≡ b.0 = one_list_of_specs conf moment wishes a.0 b.0 a.1.made b.1.made in
      one_of_each b.0 context one other (subst (λ (ss : List SignSpec). ReportsEach context ss one) same a.2) b.2
  one_wished context one other (inl a) (inr b) = absurd (a.1.none b.0 b.1)
  one_wished context one other (inr a) (inl b) = absurd (b.1.none a.0 a.1)
  one_wished context one other (inr a) (inr b) = a.2 ∙ (ap (λ (c : CommandRefusal). Refused (Command c)) (one_unmet a.0 b.0 a.1 b.1) ∙ sym b.2)

  some_wished : (context : MessageContext) → (outcome : Outcome) × ReportsWished moment conf wishes context outcome
  some_wished context = elim (specs_or_fault conf moment wishes configured) [
    | inl specs ↦
        let rest = some_of_each specs.0 context in
        (rest.0, inl (specs.0, record { made = specs.1; none = λ cause is. let f = want_fault_of conf moment wishes context cause is in specs.2 f.0 f.1 }, rest.1))
    | inr f ↦ (Refused (Command (Wishes f.0)), inr (Wishes f.0, f.1, refl))
  ]

-- ---- both

pub one_signing : HasOneSigning
one_signing given moment conf None context one other configured a b =
    let same : a.spec ≡ b.spec = one_spec conf (is_request context.message.head.start) moment given a.spec b.spec a.is b.is in
    one_of_each (b.spec ∷ []) context one other (subst (λ (s : SignSpec). ReportsEach context (s ∷ []) one) same a.reports) b.reports
one_signing given moment conf (Some wishes) context one other configured a b = one_wished conf moment wishes configured context one other a b

pub has_some_signing : HasSomeSigning
has_some_signing given moment conf None context sign is key =
    let spec = has_spec conf sign (is_request context.message.head.start) moment given is key in
    let rest = some_of_each (spec.0 ∷ []) context in
    (rest.0, record { spec = spec.0; is = spec.1; reports = rest.1 })
has_some_signing given moment conf (Some wishes) context sign is key = some_wished conf moment wishes (rw is refl) context
