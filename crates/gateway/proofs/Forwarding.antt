-- The steps of a gateway one after the other: those that are left out, and the one that is taken.
use Rattle.std.proofs.Common.{◌≡◌, ◌<◌, ◌≤◌, ◌+◌, ℕ, suc, true, Option, Some, None, Result, Ok, Err, List, [], ◌∷◌, ◌++◌, length, get_or, take, drop, length-append, refl, sym, ap, subst, ◌∙◌, inl, inr, arith}
use Rattle.std.specs.Prelude.{IfOk, IsTrue}
use Rattle.std.specs.List.{All, list_all}
use Rattle.std.proofs.Math.Seq.{drop-append-add}
use Rattle.std.proofs.lemmas.Bool.{and_parts}
use Rattle.std.proofs.lemmas.List.{drop_more, take-append-drop}
use Rattle.std.proofs.lemmas.List.Elements.{All-head, All-tail}
use Rattle.msg_body.specs.Messages.{Message}
use Rattle.msg_body.specs.Views.{message_content}
use Rattle.msg_body.proofs.OneMessages.{one_message_law}
use Rattle.component_values.specs.Context.{MessageContext, answers_head, context_with}
use Rattle.line_rewrites.specs.Sized.{SpellsSized}
use Rattle.rewrite_script.specs.Lines.{HasValues, is_writable}
use Rattle.rewrite_script.specs.Scripts.{HaveValues}
use Rattle.rewrite_script.specs.declared.rewrite.Rewrite.{Rewrite}
use Rattle.rewrites.specs.Steps.{Step}
use Rattle.rewrites.proofs.Kept.{keeps_where_permitted}
use Rattle.gateway.specs.Forwarded.{TakesStep}
use Rattle.gateway.specs.declared.accepted.AcceptedLabel.{AcceptedLabel}
use Rattle.gateway.specs.declared.forward.Forwarding.{Forwarding}
use Rattle.gateway.specs.declared.forward.Made.{Made}
use Rattle.gateway.specs.declared.forward.Met.{Met}
use Rattle.gateway.specs.declared.forward.Met.TheVariants as met
use Rattle.gateway.specs.declared.own_signature.Forwarded.{Forwarded}
use Rattle.gateway.specs.tools.Walked.{ComesAfter, GoesOn, HasSignatureOf, IsFirstMade, IsLeftOut, IsOfNone, IsOnTheWay, LeadsOn, SaysAfterSteps, SaysMet, SpellsGiven}

-- ---- lists of steps

-- where all steps have values, each has, and those after it
pub values_at : (before : List Rewrite) (step : Rewrite) (rest : List Rewrite) → HaveValues (before ++ step ∷ rest) → HasValues step × HaveValues rest
values_at [] step rest values = values
values_at (first ∷ before) step rest values = values_at before step rest values.1

-- where all can be written, each can be, and those after it
pub writable_at : (before : List Rewrite) (step : Rewrite) (rest : List Rewrite) → list_all is_writable (before ++ step ∷ rest) ≡ true → (is_writable step ≡ true) × (list_all is_writable rest ≡ true)
writable_at [] step rest writable = and_parts (is_writable step) (list_all is_writable rest) writable
writable_at (first ∷ before) step rest writable = writable_at before step rest (and_parts (is_writable first) (list_all is_writable (before ++ step ∷ rest)) writable).1

-- steps come apart at an index
pub parts_at : (steps : List Rewrite) (index : ℕ) (step : Rewrite) → index < length steps → step ≡ get_or steps index step → steps ≡ take index steps ++ step ∷ drop (index + 1) steps
parts_at steps index step lt is =
    sym (take-append-drop index steps)
    ∙ ap (λ (ss : List Rewrite). take index steps ++ ss) (drop_more steps index step lt ∙ ap (λ (s : Rewrite). s ∷ drop (index + 1) steps) (sym is))

-- ---- from a message on

module _ (accepted : AcceptedLabel) (context : MessageContext) where
  -- steps that are left out keep the message
  pub passes : (message : Message) (before rest : List Rewrite) (after : Message) → All (IsLeftOut accepted (context_with context message)) before → LeadsOn accepted context message rest after
      → LeadsOn accepted context message (before ++ rest) after
  passes message [] rest after out leads = leads
  passes message (step ∷ before) rest after out leads = (
    message,
    inr (All-head (IsLeftOut accepted (context_with context message)) step before out, refl),
    passes message before rest after (All-tail (IsLeftOut accepted (context_with context message)) step before out) leads,
  )

  pub stays : (message : Message) (steps : List Rewrite) → All (IsLeftOut accepted (context_with context message)) steps → LeadsOn accepted context message steps message
  stays message [] out = refl
  stays message (step ∷ steps) out = (
    message,
    inr (All-head (IsLeftOut accepted (context_with context message)) step steps out, refl),
    stays message steps (All-tail (IsLeftOut accepted (context_with context message)) step steps out),
  )

  -- a message that was given has as much content as the one that came
  pub as_long : (given : Option (List ℕ)) (message : Message) → SpellsGiven context given message → length (message_content message) ≡ length (message_content context.message)
  as_long None message is = ap (λ (m : Message). length (message_content m)) is
  as_long (Some text) message is = is.sized

  -- one message is given
  pub one_given : (given : Option (List ℕ)) (message other : Message) → SpellsGiven context given message → SpellsGiven context given other → message ≡ other
  one_given None message other is also = is ∙ sym also
  one_given (Some text) message other is also = one_message_law (answers_head context.related) text message other is.spells also.spells

  module _ (message : Message) (steps : List Rewrite) (made : Made) (long : length (message_content message) ≡ length (message_content context.message))
      (first : IsFirstMade accepted (context_with context message) steps made) where
    pub left_is : drop made.count steps ≡ first.rest
    left_is =
        ap (λ (n : ℕ). drop n steps) first.count
        ∙ (ap (λ (ss : List Rewrite). drop (length first.before + 1) ss) first.parts ∙ drop-append-add first.before (first.step ∷ first.rest) 1)

    steps_long : length steps ≡ length first.before + suc (length first.rest)
    steps_long = ap length first.parts ∙ length-append first.before (first.step ∷ first.rest)

    pub within : made.count ≤ length steps
    within = omega (arith, first.count, steps_long)

    pub shorter : length (drop made.count steps) < length steps
    shorter = let e = ap length left_is in omega (arith, e, steps_long)

    -- the message of the text is what the step gives
    gives : (after : Message) → SpellsGiven context (Some made.text) after → Step (context_with context message) first.step after
    gives after spelled = (first.is.1 after).1 (subst (λ (n : ℕ). SpellsSized (answers_head context.related) made.text n after) (sym long) spelled)

    out_where_none : IsOfNone context made.text → IsLeftOut accepted (context_with context message) first.step
    out_where_none none after taken =
        none after (subst (λ (n : ℕ). SpellsSized (answers_head context.related) made.text n after) long ((first.is.1 after).0 taken.gives))

    takes : (after : Message) → ComesAfter context message made.text after → TakesStep accepted.label accepted.params (context_with context message) first.step after
    takes after (inl spelled) = inl (record { permits = first.is.0; gives = gives after spelled })
    takes after (inr none) = inr (out_where_none none.0, none.1)

    -- the steps up to it lead to the message that comes after
    pub leads_over : (after : Message) → ComesAfter context message made.text after → (end : Message) → LeadsOn accepted context after (drop made.count steps) end
        → LeadsOn accepted context message steps end
    leads_over after comes end leads =
        let rest = subst (λ (ss : List Rewrite). LeadsOn accepted context after ss end) left_is leads in
        subst (λ (ss : List Rewrite). LeadsOn accepted context message ss end) (sym first.parts)
        (passes message first.before (first.step ∷ first.rest) end first.out (after, takes after comes, rest))

    module _ (writable : IsTrue (list_all is_writable steps)) (values : HaveValues steps) where
      can : (is_writable first.step ≡ true) × (list_all is_writable first.rest ≡ true)
      can = writable_at first.before first.step first.rest (subst (λ (ss : List Rewrite). list_all is_writable ss ≡ true) first.parts writable)

      have : HasValues first.step × HaveValues first.rest
      have = values_at first.before first.step first.rest (subst (λ (ss : List Rewrite). HaveValues ss) first.parts values)

      pub writable_left : IsTrue (list_all is_writable (drop made.count steps))
      writable_left = subst (λ (ss : List Rewrite). list_all is_writable ss ≡ true) (sym left_is) can.1

      pub values_left : HaveValues (drop made.count steps)
      values_left = subst (λ (ss : List Rewrite). HaveValues ss) (sym left_is) have.1

      -- the message of the text keeps the signature
      pub keeps : HasSignatureOf accepted message → (after : Message) → SpellsGiven context (Some made.text) after → HasSignatureOf accepted after
      keeps signed after spelled = (
        signed.0,
        (keeps_where_permitted (context_with context message) first.step accepted.label accepted.params signed.0 after can.0 have.0 signed.1 (gives after spelled) first.is.0).signature,
      )

      pub signed_after : HasSignatureOf accepted message → (after : Message) → ComesAfter context message made.text after → HasSignatureOf accepted after
      signed_after signed after (inl spelled) = keeps signed after spelled
      signed_after signed after (inr none) = subst (λ (m : Message). HasSignatureOf accepted m) (sym none.1) signed

-- ---- on the way

-- where the text is no message, the message comes again
pub goes_again : {E : Type 0} (forwarding : Forwarding) (context : MessageContext) (steps : List Rewrite) (message : Message) (made : List ℕ) (given : Option (List ℕ)) (result : Result Met E)
    → IsOfNone context made → SpellsGiven context given message → IfOk result (SaysMet forwarding (context_with context message) steps)
    → IfOk result (GoesOn forwarding context steps message made given)
goes_again forwarding context steps message made given (Ok own) none given_is says = record { after = message; comes = inr (none, refl); given_is = given_is; says = says }
goes_again forwarding context steps message made given (Err fault) none given_is says = tt

module _ (forwarding : Forwarding) (context : MessageContext) (steps : List Rewrite) where
  pub done : (given : Option (List ℕ)) (left : List Rewrite) (outcome : Forwarded) → IsOnTheWay forwarding context steps given left (met.Done outcome)
      → SaysAfterSteps forwarding context steps outcome
  done given left outcome way = (way.message, way.leads way.message (stays forwarding.accepted.now context way.message left way.says.0), way.says.1)

  module _ (given : Option (List ℕ)) (left : List Rewrite) (made : Made) (way : IsOnTheWay forwarding context steps given left (met.Made made)) where
    long : length (message_content way.message) ≡ length (message_content context.message)
    long = as_long forwarding.accepted.now context given way.message way.given_is

    pub count_within : made.count ≤ length left
    count_within = within forwarding.accepted.now context way.message left made long way.says

    pub left_shorter : length (drop made.count left) < length left
    left_shorter = shorter forwarding.accepted.now context way.message left made long way.says

    pub left_writable : IsTrue (list_all is_writable (drop made.count left))
    left_writable = writable_left forwarding.accepted.now context way.message left made long way.says way.writable way.values

    pub made_signed : (after : Message) → SpellsGiven context (Some made.text) after → HasSignatureOf forwarding.accepted.now after
    made_signed = keeps forwarding.accepted.now context way.message left made long way.says way.writable way.values way.signature

    pub further : (new : Option (List ℕ)) (own : Met) → GoesOn forwarding context (drop made.count left) way.message made.text new own
        → IsOnTheWay forwarding context steps new (drop made.count left) own
    further new own goes = record {
      message = goes.after;
      given_is = goes.given_is;
      signature = signed_after forwarding.accepted.now context way.message left made long way.says way.writable way.values way.signature goes.after goes.comes;
      writable = left_writable;
      values = values_left forwarding.accepted.now context way.message left made long way.says way.writable way.values;
      leads = λ after leads. way.leads after (leads_over forwarding.accepted.now context way.message left made long way.says goes.after goes.comes after leads);
      says = goes.says;
    }
