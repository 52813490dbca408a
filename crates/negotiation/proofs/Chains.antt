-- Signatures that are made one after the other.
use Rattle.std.proofs.Common.{◌≡◌, ◌⊎◌, ℕ, zero, suc, List, [], ◌∷◌, ◌++◌, take, refl, sym, ap, subst, ◌∙◌, inl, inr}
use Rattle.std.specs.List.{All, slice_get}
use Rattle.std.specs.Prelude.{⊤}
use Rattle.std.proofs.lemmas.List.Elements.{All-head, All-tail}
use Rattle.byte_grammar.proofs.Indices.{some_and_parts}
use Rattle.msg_body.specs.Messages.{Message, Spells, message_text}
use Rattle.component_values.specs.Context.{HasWholeMessage, MessageContext, answers_head, context_with}
use Rattle.signing.specs.SignCauses.{IsSignFault}
use Rattle.signing.specs.Signed.{IsVerifiable}
use Rattle.signing.specs.Specs.{IsValidSpec}
use Rattle.signing.specs.declared.fault.SignFault.{SignFault}
use Rattle.signing.specs.declared.spec.SignSpec.{SignSpec}
use Rattle.signing.proofs.OneSigned.{one_signed_message, one_sign_fault}
use Rattle.signing.proofs.SomeSigned.{signed_or_fault, verifiable_where_signed}
use Rattle.negotiation.specs.Each.{IsEachFault, IsSignedEach, IsSignedFaultless, IsUnsignedAt}
use Rattle.negotiation.specs.Laws.{HasOneEachFault, HasOneSignedEach, HasSignedEachOrFault, IsMessageWhereSignedEach}
use Rattle.negotiation.specs.declared.fault.EachFault.{EachFault}
use Rattle.negotiation.specs.declared.fault.EachFault.TheVariants.{Memory, Sign}

-- one more signature
pub one_more : (context : MessageContext) (specs : List SignSpec) (message : Message) (spec : SignSpec) (written : Message) → IsSignedEach context specs message
    → IsSignedFaultless (context_with context message) spec written → IsSignedEach context (specs ++ spec ∷ []) written
one_more context [] message spec written is one = (written, subst (λ (m : Message). IsSignedFaultless (context_with context m) spec written) is one, refl)
one_more context (s ∷ ss) message spec written is one = (is.0, is.1, one_more (context_with context is.0) ss message spec written is.2 one)

-- ---- at most one

pub one_signed_each : HasOneSignedEach
one_signed_each context [] written other a b = a ∙ sym b
one_signed_each context (spec ∷ specs) written other a b =
    let same : a.0 ≡ b.0 = one_signed_message context spec a.0 b.0 a.1.signed b.1.signed in
    one_signed_each (context_with context b.0) specs written other (subst (λ (m : Message). IsSignedEach (context_with context m) specs written) same a.2) b.2

-- what isn't made over a message that was signed in one way
moved : (context : MessageContext) (spec : SignSpec) (specs : List SignSpec) (index : ℕ) (fault : SignFault) (message : Message) → IsSignedFaultless context spec message
    → IsUnsignedAt context (spec ∷ specs) (suc index) fault → IsUnsignedAt (context_with context message) specs index fault
moved context spec specs index fault message one is =
    let same : is.signed.0 ≡ message = one_signed_message context spec is.signed.0 message is.signed.1.signed one.signed in
    record { before = is.before; signed = subst (λ (m : Message). IsSignedEach (context_with context m) (take index specs) is.before) same is.signed.2; there = is.there }

-- the first that isn't made
first_fault : (context : MessageContext) (spec : SignSpec) (specs : List SignSpec) (fault : SignFault) → IsUnsignedAt context (spec ∷ specs) 0 fault → IsSignFault context spec fault
first_fault context spec specs fault is = subst (λ (m : Message). IsSignFault (context_with context m) spec fault) is.signed is.there

none_of_nothing : (context : MessageContext) (index : ℕ) (fault : SignFault) → IsUnsignedAt context [] index fault → ⊥
none_of_nothing context index fault is =
    let there = some_and_parts (λ (spec : SignSpec). IsSignFault (context_with context is.before) spec fault) (slice_get [] index) is.there in
    let none = there.1 in
    absurd (cc none)

one_unsigned : (context : MessageContext) (specs : List SignSpec) (i j : ℕ) (f g : SignFault) → IsUnsignedAt context specs i f → IsUnsignedAt context specs j g → (i ≡ j) × (f ≡ g)
one_unsigned context [] i j f g a b = absurd (none_of_nothing context i f a)
one_unsigned context (spec ∷ specs) zero zero f g a b =
    (refl, one_sign_fault context spec f g (first_fault context spec specs f a) (first_fault context spec specs g b))
one_unsigned context (spec ∷ specs) zero (suc j) f g a b = absurd (b.signed.1.none f (first_fault context spec specs f a))
one_unsigned context (spec ∷ specs) (suc i) zero f g a b = absurd (a.signed.1.none g (first_fault context spec specs g b))
one_unsigned context (spec ∷ specs) (suc i) (suc j) f g a b =
    let message = b.signed.0 in
    let one = b.signed.1 in
    let same = one_unsigned (context_with context message) specs i j f g (moved context spec specs i f message one a) (moved context spec specs j g message one b) in
    (ap suc same.0, same.1)

pub one_each_fault : HasOneEachFault
one_each_fault context specs (Sign i f) (Sign j g) a b = let same = one_unsigned context specs i j f g a b in λ k. Sign (same.0 k) (same.1 k)
one_each_fault context specs Memory other a b = absurd a
one_each_fault context specs (Sign i f) Memory a b = absurd b

-- ---- signed, or not

not_unsigned : (context : MessageContext) (specs : List SignSpec) (written : Message) (index : ℕ) (fault : SignFault) → IsSignedEach context specs written → ¬ IsUnsignedAt context specs index fault
not_unsigned context [] written index fault is unsigned = none_of_nothing context index fault unsigned
not_unsigned context (spec ∷ specs) written zero fault is unsigned = is.1.none fault (first_fault context spec specs fault unsigned)
not_unsigned context (spec ∷ specs) written (suc index) fault is unsigned =
    not_unsigned (context_with context is.0) specs written index fault is.2 (moved context spec specs index fault is.0 is.1 unsigned)

pub not_both : (context : MessageContext) (specs : List SignSpec) (written : Message) (fault : EachFault) → IsSignedEach context specs written → ¬ IsEachFault context specs fault
not_both context specs written (Sign index fault) is unsigned = not_unsigned context specs written index fault is unsigned
not_both context specs written Memory is unsigned = unsigned

each_or_unsigned : (context : MessageContext) (specs : List SignSpec)
    → ((written : Message) × IsSignedEach context specs written) ⊎ ((index : ℕ) × (fault : SignFault) × IsUnsignedAt context specs index fault)
each_or_unsigned context [] = inl (context.message, refl)
each_or_unsigned context (spec ∷ specs) = elim (signed_or_fault context spec) [
  | inr fault ↦ inr (0, fault.0, record { before = context.message; signed = refl; there = fault.1 })
  | inl made ↦
      let one : IsSignedFaultless context spec made.0 = record { signed = made.1; none = made.2 } in
      elim (each_or_unsigned (context_with context made.0) specs) [
        | inl all ↦ inl (all.0, (made.0, one, all.1))
        | inr fault ↦ inr (suc fault.0, fault.1, record { before = fault.2.before; signed = (made.0, one, fault.2.signed); there = fault.2.there })
      ]
]

pub each_or_fault : HasSignedEachOrFault
each_or_fault = record {
  either = λ context specs. elim (each_or_unsigned context specs) [
    | inl all ↦ inl all
    | inr fault ↦ inr (Sign fault.0 fault.1, fault.2)
  ];
  apart = not_both;
}

-- ---- what the last message keeps

-- the message that is signed without a fault is one, and can be verified
pub step : (context : MessageContext) (spec : SignSpec) (written : Message) → IsValidSpec spec → HasWholeMessage context → IsSignedFaultless context spec written
    → Spells (answers_head context.related) written (message_text written) × IsVerifiable context spec (message_text written)
step context spec written valid whole is = verifiable_where_signed context spec (message_text context.message) written valid (record { is = whole; text = refl }) is.signed is.none

-- what each signature keeps is kept by all
module _ (P : MessageContext → Type 0) (Q : SignSpec → Type 0)
    (keeps : (context : MessageContext) (spec : SignSpec) (written : Message) → IsValidSpec spec → Q spec → HasWholeMessage context → IsSignedFaultless context spec written → P context → P (context_with context written)) where
  pub over_each : (context : MessageContext) (specs : List SignSpec) (written : Message) → All IsValidSpec specs → All Q specs → HasWholeMessage context → P context → IsSignedEach context specs written
      → Spells (answers_head context.related) written (message_text written) × (written.head.start ≡ context.message.head.start) × P (context_with context written)
  over_each context [] written valid are whole holds is =
      let back : context.message ≡ written = sym is in (
        subst (λ (m : Message). Spells (answers_head context.related) m (message_text m)) back (record { is = whole; text = refl }),
        ap (λ (m : Message). m.head.start) is,
        subst (λ (m : Message). P (context_with context m)) back holds,
      )
  over_each context (spec ∷ specs) written valid are whole holds is =
      let own = All-head IsValidSpec spec specs valid in
      let next = step context spec is.0 own whole is.1 in
      let rest = over_each (context_with context is.0) specs written (All-tail IsValidSpec spec specs valid) (All-tail Q spec specs are) next.0.is
      (keeps context spec is.0 own (All-head Q spec specs are) whole is.1 holds) is.2 in
      (rest.0, rest.1 ∙ ap (λ (m : Message). m.head.start) is.1.signed.written_is, rest.2)

pub message_where_each : IsMessageWhereSignedEach
message_where_each context specs written whole valid is =
    let end = over_each (λ _. ⊤) IsValidSpec (λ _ _ _ _ _ _ _ _. tt) context specs written valid valid whole tt is in
    (end.0, end.1)
