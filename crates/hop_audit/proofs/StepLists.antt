-- The steps of a list lead to one message, or stop at one index; and a label's signature permits them, or not.
use Rattle.std.proofs.Common.{◌≡◌, ◌⊎◌, ℕ, zero, suc, Bool, true, false, Option, Some, None, List, [], ◌∷◌, inl, inr, refl, sym, ap, subst, ◌∙◌}
use Rattle.std.specs.Prelude.{IsTrue}
use Rattle.std.specs.List.{list_all}
use Rattle.std.proofs.lemmas.Bool.{and_parts}
use Rattle.msg_body.specs.Messages.{Message, IsMessage, message_text}
use Rattle.msg_body.proofs.OneMessages.{one_message_law}
use Rattle.component_ids.specs.declared.params.SigParams.{SigParams}
use Rattle.component_values.specs.Context.{MessageContext, answers_head, context_with}
use Rattle.signatures.specs.Signatures.{HasSignature}
use Rattle.signatures.proofs.Reading.{has_one_signature, has_signature_or_not, has_no_failure_where_read}
use Rattle.rewrite_script.specs.Lines.{is_writable}
use Rattle.rewrite_script.specs.declared.rewrite.Rewrite.{Rewrite}
use Rattle.rewrites.specs.Permitted.{Permits}
use Rattle.rewrites.specs.Steps.{Step, Steps, IsNotApplicable}
use Rattle.rewrites.proofs.StepKinds.{gives_kind}
use Rattle.rewrites.proofs.StepLaws.{gives_one_message, has_message_or_none, permits_or_not}
use Rattle.hop_audit.specs.Hops.{IsStoppedAt, IsExplanation, IsPermitted, IsPermission}
use Rattle.hop_audit.proofs.Equal.{decided_bytes}

-- ---- at most one

-- the steps lead to at most one message
pub one_end : (context : MessageContext) (script : List Rewrite) (a b : Message) → Steps Step context script a → Steps Step context script b → a ≡ b
one_end context [] a b lead also = sym lead ∙ also
one_end context (step ∷ script) a b lead also =
    let same = gives_one_message context step lead.0 also.0 lead.1 also.1 in
    one_end (context_with context also.0) script a b (subst (λ (m : Message). Steps Step (context_with context m) script a) same lead.2) also.2

-- where none of the steps before it is passed, the first stops
stopped_first : (context : MessageContext) (step : Rewrite) (script : List Rewrite) → IsStoppedAt context (step ∷ script) zero → IsNotApplicable context step
stopped_first context step script stopped =
    let same : step ≡ stopped.step = cc (stopped.there) in
    rw same (subst (λ (m : Message). IsNotApplicable (context_with context m) stopped.step) (sym stopped.before) stopped.stops)

-- a later one stops where it does in the message that the first gives
stopped_later : (context : MessageContext) (step : Rewrite) (script : List Rewrite) (index : ℕ) → IsStoppedAt context (step ∷ script) (suc index)
    → (next : Message) × Step context step next × IsStoppedAt (context_with context next) script index
stopped_later context step script index stopped = (
  stopped.before.0,
  stopped.before.1,
  record {
    met = stopped.met;
    before = stopped.before.2;
    step = stopped.step;
    there = stopped.there;
    stops = stopped.stops;
  },
)

pub one_stop : (script : List Rewrite) (context : MessageContext) (i j : ℕ) → IsStoppedAt context script i → IsStoppedAt context script j → i ≡ j
one_stop [] context i j stopped also = absurd (cc (stopped.there))
one_stop (step ∷ script) context zero zero stopped also = refl
one_stop (step ∷ script) context zero (suc j) stopped also =
    let later = stopped_later context step script j also in
    absurd (stopped_first context step script stopped later.0 later.1)
one_stop (step ∷ script) context (suc i) zero stopped also =
    let later = stopped_later context step script i stopped in
    absurd (stopped_first context step script also later.0 later.1)
one_stop (step ∷ script) context (suc i) (suc j) stopped also =
    let one = stopped_later context step script i stopped in
    let two = stopped_later context step script j also in
    let same = gives_one_message context step one.0 two.0 one.1 two.1 in
    ap (λ (n : ℕ). suc n) (one_stop script (context_with context two.0) i j (subst (λ (m : Message). IsStoppedAt (context_with context m) script i) same one.2) two.2)

-- steps that lead to a message don't stop
pub leads_or_stops : (script : List Rewrite) (context : MessageContext) (after : Message) (i : ℕ) → Steps Step context script after → ¬ IsStoppedAt context script i
leads_or_stops [] context after i lead stopped = absurd (cc (stopped.there))
leads_or_stops (step ∷ script) context after zero lead stopped = stopped_first context step script stopped lead.0 lead.1
leads_or_stops (step ∷ script) context after (suc i) lead stopped =
    let later = stopped_later context step script i stopped in
    let same = gives_one_message context step lead.0 later.0 lead.1 later.1 in
    leads_or_stops script (context_with context later.0) after i (subst (λ (m : Message). Steps Step (context_with context m) script after) same lead.2) later.2

-- a hop is explained, or not, in one way
pub one_explanation : (context : MessageContext) (script : List Rewrite) (after : Message) (b c : Bool) (i j : Option ℕ) → IsExplanation context script after b i
    → IsExplanation context script after c j → (b ≡ c) × (i ≡ j)
one_explanation context script after true c (Some i) j is also = absurd is
one_explanation context script after true true None (Some j) is also = absurd also
one_explanation context script after true true None None is also = (refl, refl)
one_explanation context script after true false None None is also = absurd (also.differs (one_end context script also.other after also.lead is))
one_explanation context script after true false None (Some j) is also = absurd (leads_or_stops script context after j is also)
one_explanation context script after false true None (Some j) is also = absurd also
one_explanation context script after false true None None is also = absurd (is.differs (one_end context script is.other after is.lead also))
one_explanation context script after false false None None is also = (refl, refl)
one_explanation context script after false false None (Some j) is also = absurd (leads_or_stops script context is.other j is.lead also)
one_explanation context script after false true (Some i) (Some j) is also = absurd also
one_explanation context script after false true (Some i) None is also = absurd (leads_or_stops script context after i also is)
one_explanation context script after false false (Some i) None is also = absurd (leads_or_stops script context also.other i also.lead is)
one_explanation context script after false false (Some i) (Some j) is also = (refl, ap (λ (n : ℕ). Some n) (one_stop script context i j is also))

-- what is permitted is explained
pub permitted_leads : (label : List ℕ) (script : List Rewrite) (context : MessageContext) (after : Message) → IsPermitted label context script after → Steps Step context script after
permitted_leads label [] context after permitted = permitted
permitted_leads label (step ∷ script) context after permitted =
    (permitted.0, permitted.1.gives, permitted_leads label script (context_with context permitted.0) after permitted.2)

pub one_permission : (label : List ℕ) (context : MessageContext) (script : List Rewrite) (after : Message) (b c : Bool) → IsPermission label context script after b
    → IsPermission label context script after c → b ≡ c
one_permission label context script after true true is also = refl
one_permission label context script after true false is also = absurd (also is)
one_permission label context script after false true is also = absurd (is also)
one_permission label context script after false false is also = refl

-- ---- some

-- messages are the same or not: each is known by its text
pub same_or_not : (to_head : Bool) (a b : Message) → IsMessage to_head a → IsMessage to_head b → (a ≡ b) ⊎ (¬ (a ≡ b))
same_or_not to_head a b is also = elim (decided_bytes (message_text a) (message_text b)) [
  | inl same ↦ inl (one_message_law to_head (message_text a) a b (record { is = is; text = refl }) (record { is = also; text = same }))
  | inr differ ↦ inr (λ same. differ (ap message_text same))
]

-- a message to which steps lead
pub record LeadTo (context : MessageContext) (script : List Rewrite) : Type 0 where
  pub end : Message
  pub lead : Steps Step context script end
  pub is : IsMessage (answers_head context.related) end

-- the steps lead to a message, or stop
pub end_or_stop : (script : List Rewrite) (context : MessageContext) → IsTrue (list_all is_writable script) → IsMessage (answers_head context.related) context.message
    → LeadTo context script ⊎ ((index : ℕ) × IsStoppedAt context script index)
end_or_stop [] context writable message = inl (record { end = context.message; lead = refl; is = message })
end_or_stop (step ∷ script) context writable message =
    let parts = and_parts (is_writable step) (list_all is_writable script) writable in
    elim (has_message_or_none context step parts.0 message) [
      | inr none ↦ inr (zero, record { met = context.message; before = refl; step = step; there = refl; stops = none })
      | inl gives ↦ elim (end_or_stop script (context_with context gives.0) parts.1 (gives_kind context step gives.0 gives.1).0) [
        | inl led ↦ inl (record { end = led.end; lead = (gives.0, gives.1, led.lead); is = led.is })
        | inr stopped ↦ inr (
          suc stopped.0,
          record {
            met = stopped.1.met;
            before = (gives.0, gives.1, stopped.1.before);
            step = stopped.1.step;
            there = stopped.1.there;
            stops = stopped.1.stops;
          },
        )
      ]
    ]

-- a hop is explained, or not
pub has_explanation : (context : MessageContext) (script : List Rewrite) (after : Message) → IsTrue (list_all is_writable script) → IsMessage (answers_head context.related) context.message
    → IsMessage (answers_head context.related) after → (b : Bool) × (i : Option ℕ) × IsExplanation context script after b i
has_explanation context script after writable message is = elim (end_or_stop script context writable message) [
  | inr stopped ↦ (false, Some stopped.0, stopped.1)
  | inl led ↦ elim (same_or_not (answers_head context.related) led.end after led.is is) [
    | inl same ↦ (true, None, subst (λ (m : Message). Steps Step context script m) same led.lead)
    | inr differs ↦ (false, None, record { other = led.end; lead = led.lead; differs = differs })
  ]
]

module _ (label : List ℕ) where
  -- a step that gives a message is permitted or not, and so are those after it
  abbrev IsDecided : MessageContext → List Rewrite → Message → Type 0
  IsDecided context script after = IsPermitted label context script after ⊎ (¬ IsPermitted label context script after)

  module _ (context : MessageContext) (step : Rewrite) (script : List Rewrite) (after next : Message) (gives : Step context step next) where
    by_permission : (params : SigParams) (tag : List ℕ) → HasSignature context.message label params tag → IsDecided (context_with context next) script after
        → Permits context step label params ⊎ (¬ Permits context step label params) → IsDecided context (step ∷ script) after
    by_permission params tag has (inl rest) (inl permits) =
        inl (next, record { gives = gives; params = params; tag = tag; signature = has; permits = permits }, rest)
    by_permission params tag has (inr no_rest) permits = inr (λ permitted.
        let same = gives_one_message context step permitted.0 next permitted.1.gives gives in
        no_rest (subst (λ (m : Message). IsPermitted label (context_with context m) script after) same permitted.2))
    by_permission params tag has (inl rest) (inr forbids) = inr (λ permitted.
        let same = has_one_signature context.message label permitted.1.params params permitted.1.tag tag permitted.1.signature has in
        forbids (subst (λ (p : SigParams). Permits context step label p) same.0 permitted.1.permits))

    one_decided : IsDecided (context_with context next) script after → IsDecided context (step ∷ script) after
    one_decided rest = elim (has_signature_or_not context.message label) [
      | inl read ↦ by_permission read.0 read.1 read.2 rest (permits_or_not context step label read.0)
      | inr unread ↦ inr (λ permitted. has_no_failure_where_read context.message label permitted.1.params permitted.1.tag unread.0 unread.1 permitted.1.signature unread.2.holds)
    ]

  pub permitted_or_not : (script : List Rewrite) (context : MessageContext) (after : Message) → IsTrue (list_all is_writable script) → IsMessage (answers_head context.related) context.message
      → IsMessage (answers_head context.related) after → IsDecided context script after
  permitted_or_not [] context after writable message is = same_or_not (answers_head context.related) context.message after message is
  permitted_or_not (step ∷ script) context after writable message is =
      let parts = and_parts (is_writable step) (list_all is_writable script) writable in
      elim (has_message_or_none context step parts.0 message) [
        | inr none ↦ inr (λ permitted. none permitted.0 permitted.1.gives)
        | inl gives ↦ one_decided context step script after gives.0 gives.1
            (permitted_or_not script (context_with context gives.0) after parts.1 (gives_kind context step gives.0 gives.1).0 is)
      ]

-- a hop is permitted for a label, or not
pub has_permission : (label : List ℕ) (context : MessageContext) (script : List Rewrite) (after : Message) → IsTrue (list_all is_writable script)
    → IsMessage (answers_head context.related) context.message → IsMessage (answers_head context.related) after → (b : Bool) × IsPermission label context script after b
has_permission label context script after writable message is = elim (permitted_or_not label script context after writable message is) [
  | inl permitted ↦ (true, permitted)
  | inr forbidden ↦ (false, forbidden)
]
