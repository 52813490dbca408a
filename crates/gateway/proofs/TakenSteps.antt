-- The steps that a gateway takes: they lead to one message, and keep the accepted signature.
use Rattle.std.proofs.Common.{◌≡◌, ℕ, true, List, [], ◌∷◌, refl, sym, subst, ◌∙◌, inl, inr}
use Rattle.std.specs.List.{list_all}
use Rattle.std.proofs.lemmas.Bool.{and_from, and_parts}
use Rattle.framing.specs.Framings.{is_request}
use Rattle.msg_body.specs.Messages.{IsMessage, Message}
use Rattle.component_ids.specs.declared.params.SigParams.{SigParams}
use Rattle.component_values.specs.Context.{HasWholeMessage, MessageContext, answers_head, context_with}
use Rattle.rewrite_script.specs.Lines.{is_writable}
use Rattle.rewrite_script.specs.Scripts.{HaveValues}
use Rattle.rewrite_script.specs.declared.rewrite.Rewrite.{Rewrite}
use Rattle.rewrites.specs.Laws.{IsPermittedStep, KeepsSignature}
use Rattle.rewrites.specs.Steps.{Steps}
use Rattle.rewrites.proofs.Kept.{keeps_over_steps, keeps_where_permitted}
use Rattle.rewrites.proofs.StepKinds.{gives_kind}
use Rattle.rewrites.proofs.StepLaws.{gives_one_message, has_message_or_none, permits_or_not}
use Rattle.signatures.specs.Signatures.{HasSignature}
use Rattle.gateway.specs.Forwarded.{IsForwarded, TakesStep}

-- ---- what they lead to

-- Those of the steps that are taken lead from the context's message to this one, and the label's
-- signature permits each. It is a message of the same kind.
pub record TakesTo (label : List ℕ) (context : MessageContext) (after : Message) : Type 0 where
  pub done : List Rewrite
  pub writable : list_all is_writable done ≡ true
  pub values : HaveValues done
  pub lead : Steps (IsPermittedStep label) context done after
  pub whole : IsMessage (answers_head context.related) after
  pub kind : is_request after.head.start ≡ is_request context.message.head.start

module _ (label : List ℕ) (params : SigParams) where
  -- ---- one message

  one_taken : (context : MessageContext) (step : Rewrite) (after other : Message) → TakesStep label params context step after → TakesStep label params context step other → after ≡ other
  one_taken context step after other (inl a) (inl b) = gives_one_message context step after other a.gives b.gives
  one_taken context step after other (inl a) (inr b) = absurd (b.0 after a)
  one_taken context step after other (inr a) (inl b) = absurd (a.0 other b)
  one_taken context step after other (inr a) (inr b) = a.1 ∙ sym b.1

  pub one_forwarded : (steps : List Rewrite) (context : MessageContext) (after other : Message) → IsForwarded steps label params context after → IsForwarded steps label params context other → after ≡ other
  one_forwarded [] context after other a b = sym a ∙ b
  one_forwarded (step ∷ steps) context after other a b =
      let same = one_taken context step a.0 b.0 a.1 b.1 in
      let rest = subst (λ (m : Message). IsForwarded steps label params (context_with context m) after) same a.2 in
      one_forwarded steps (context_with context b.0) after other rest b.2

  -- ---- some message

  some_taken : (context : MessageContext) (step : Rewrite) → is_writable step ≡ true → HasWholeMessage context
      → (after : Message) × TakesStep label params context step after × IsMessage (answers_head context.related) after
  some_taken context step writable whole = elim (permits_or_not context step label params) [
    | inr not ↦ (context.message, inr ((λ other taken. not taken.permits), refl), whole)
    | inl permits ↦ elim (has_message_or_none context step writable whole) [
      | inr none ↦ (context.message, inr ((λ other taken. none other taken.gives), refl), whole)
      | inl made ↦ (made.0, inl (record { permits = permits; gives = made.1 }), (gives_kind context step made.0 made.1).0)
    ]
  ]

  pub some_forwarded : (steps : List Rewrite) (context : MessageContext) → list_all is_writable steps ≡ true → HasWholeMessage context
      → (after : Message) × IsForwarded steps label params context after
  some_forwarded [] context writable whole = (context.message, refl)
  some_forwarded (step ∷ steps) context writable whole =
      let parts = and_parts (is_writable step) (list_all is_writable steps) writable in
      let first = some_taken context step parts.0 whole in
      let rest = some_forwarded steps (context_with context first.0) parts.1 first.2 in
      (rest.0, (first.0, first.1, rest.1))

  -- ---- what is kept

  taken_to : (steps : List Rewrite) (context : MessageContext) (tag : List ℕ) (after : Message) → list_all is_writable steps ≡ true → HaveValues steps → HasSignature context.message label params tag
      → HasWholeMessage context → IsForwarded steps label params context after → TakesTo label context after
  taken_to [] context tag after writable values has whole same =
      subst (λ (m : Message). TakesTo label context m) same (record { done = []; writable = refl; values = tt; lead = refl; whole = whole; kind = refl })
  taken_to (step ∷ steps) context tag after writable values has whole (next, inl takes, rest) =
      let parts = and_parts (is_writable step) (list_all is_writable steps) writable in
      let keeps = keeps_where_permitted context step label params tag next parts.0 values.0 has takes.gives takes.permits in
      let kind = gives_kind context step next takes.gives in
      let later = taken_to steps (context_with context next) tag after parts.1 values.1 keeps.signature kind.0 rest in
      record {
        done = step ∷ later.done;
        writable = and_from (is_writable step) (list_all is_writable later.done) parts.0 later.writable;
        values = (values.0, later.values);
        lead = (next, record { gives = takes.gives; params = params; tag = tag; signature = has; permits = takes.permits }, later.lead);
        whole = later.whole;
        kind = later.kind ∙ kind.1;
      }
  taken_to (step ∷ steps) context tag after writable values has whole (next, inr left, rest) =
      let parts = and_parts (is_writable step) (list_all is_writable steps) writable in
      taken_to steps context tag after parts.1 values.1 has whole
      (subst (λ (m : Message). IsForwarded steps label params (context_with context m) after) left.1 rest)

  -- the message after the steps keeps the signature, and is a message of the same kind
  pub record KeepsTo (context : MessageContext) (tag : List ℕ) (after : Message) : Type 0 where
    pub keeps : KeepsSignature context label params tag after
    pub whole : HasWholeMessage (context_with context after)
    pub kind : is_request after.head.start ≡ is_request context.message.head.start

  pub kept_to : (steps : List Rewrite) (context : MessageContext) (tag : List ℕ) (after : Message) → list_all is_writable steps ≡ true → HaveValues steps → HasSignature context.message label params tag
      → HasWholeMessage context → IsForwarded steps label params context after → KeepsTo context tag after
  kept_to steps context tag after writable values has whole leads =
      let taken = taken_to steps context tag after writable values has whole leads in
      record {
        keeps = keeps_over_steps context taken.done label params tag after taken.writable taken.values has taken.lead;
        whole = taken.whole;
        kind = taken.kind;
      }
