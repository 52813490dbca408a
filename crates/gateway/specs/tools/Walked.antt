-- The steps of a gateway one after the other. No public clause cites this module.
use Rattle.std.specs.Prelude.{◌≡◌, ◌⊎◌, ◌≤◌, ◌+◌, ℕ, IsSome, IsTrue, Option, Some, None, List, ◌∷◌, ◌++◌, length}
use Rattle.std.specs.List.{All, FoldsTo, list_all}
use Rattle.msg_body.specs.Messages.{Message}
use Rattle.msg_body.specs.Views.{message_content}
use Rattle.component_values.specs.Context.{MessageContext, answers_head, context_with}
use Rattle.line_rewrites.specs.Sized.{HasNoSized, SpellsSized}
use Rattle.nonces.specs.declared.limits.TheConstants.{MAX_MOMENT}
use Rattle.rewrite_script.specs.Lines.{is_writable}
use Rattle.rewrite_script.specs.Scripts.{HaveValues}
use Rattle.rewrite_script.specs.declared.rewrite.Rewrite.{Rewrite}
use Rattle.rewrites.specs.Permitted.{Permits}
use Rattle.rewrites.specs.Steps.{SpellsStep}
use Rattle.settings.specs.ConfMeaning.{meaning}
use Rattle.signatures.specs.Signatures.{HasSignature}
use Rattle.gateway.specs.Forwarded.{IsForwarded, IsTaken, TakesStep}
use Rattle.gateway.specs.declared.accepted.AcceptedLabel.{AcceptedLabel}
use Rattle.gateway.specs.declared.forward.Forwarding.{Forwarding}
use Rattle.gateway.specs.declared.forward.Made.{Made}
use Rattle.gateway.specs.declared.forward.Met.{Met}
use Rattle.gateway.specs.declared.forward.Met.TheVariants as met
use Rattle.gateway.specs.declared.own_signature.Forwarded.{Forwarded}
use Rattle.gateway.specs.tools.Judged.{SaysForwarded}

-- ---- one step

-- the message has the signature of the accepted label
abbrev pub HasSignatureOf : AcceptedLabel → Message → Type 0
HasSignatureOf accepted message =
    (tag : List ℕ) × HasSignature message accepted.label accepted.params tag

-- the step is left out
abbrev pub IsLeftOut : AcceptedLabel → MessageContext → Rewrite → Type 0
IsLeftOut accepted context step =
    (after : Message) → ¬ IsTaken accepted.label accepted.params context step after

-- what the permitted step makes tells what it gives; where it makes nothing, it is left out
abbrev pub SaysMade : AcceptedLabel → MessageContext → Rewrite → Option (List ℕ) → Type 0
SaysMade accepted context step (Some text) =
    Permits context step accepted.label accepted.params × SpellsStep context step text
SaysMade accepted context step None = IsLeftOut accepted context step

-- the step is permitted, and made this; those before it, all that were gone over, are left out
pub record IsFirstMade (accepted : AcceptedLabel) (context : MessageContext) (steps : List Rewrite)
    (made : Made) : Type 0 where
  pub before : List Rewrite
  pub step : Rewrite
  pub rest : List Rewrite
  pub parts : steps ≡ before ++ step ∷ rest
  pub count : made.count ≡ length before + 1
  pub out : All (IsLeftOut accepted context) before
  pub is : SaysMade accepted context step (Some made.text)

-- what the first step makes that makes something, or each is left out
abbrev pub SaysFirstMade : AcceptedLabel → MessageContext → List Rewrite → Option Made → Type 0
SaysFirstMade accepted context steps (Some made) = IsFirstMade accepted context steps made
SaysFirstMade accepted context steps None = All (IsLeftOut accepted context) steps

-- ---- texts of messages

-- the message of the text, with as much content as the context's, or the context's, where there is
-- no text
abbrev pub SpellsGiven : MessageContext → Option (List ℕ) → Message → Type 0
SpellsGiven context None message = message ≡ context.message
SpellsGiven context (Some text) message = SpellsSized (answers_head context.related) text
    (length (message_content context.message)) message

-- the text is that of no such message
abbrev pub IsOfNone : MessageContext → List ℕ → Type 0
IsOfNone context text = HasNoSized (answers_head context.related) text
    (length (message_content context.message))

-- ---- messages on the way

-- the gateway can sign: the configuration says what is signed, and the moment isn't too late
pub record CanSign (forwarding : Forwarding) : Type 0 where
  pub table : IsSome (meaning forwarding.conf.now).sign
  pub moment : forwarding.moment ≤ MAX_MOMENT

-- this becomes of the context's message, where no more steps are taken
abbrev pub SaysDone : Forwarding → MessageContext → Forwarded → Type 0
SaysDone forwarding context outcome = SaysForwarded (meaning forwarding.conf.now)
    forwarding.moment context forwarding.accepted.now.params outcome

-- what comes of the context's message and the steps that are left
abbrev pub SaysMet : Forwarding → MessageContext → List Rewrite → Met → Type 0
SaysMet forwarding context steps (met.Made made) =
    IsFirstMade forwarding.accepted.now context steps made
SaysMet forwarding context steps (met.Done outcome) =
    All (IsLeftOut forwarding.accepted.now context) steps × SaysDone forwarding context outcome

-- the same of the message of the text, where it is that of one
abbrev pub SaysMetText : Forwarding → MessageContext → List ℕ → List Rewrite → Option Met → Type 0
SaysMetText forwarding context text steps (Some own) = (message : Message)
    × SpellsGiven context (Some text) message
    × SaysMet forwarding (context_with context message) steps own
SaysMetText forwarding context text steps None = IsOfNone context text

-- after the message comes that of the text, where it is that of one, or the message again
abbrev pub ComesAfter : MessageContext → Message → List ℕ → Message → Type 0
ComesAfter context message text after = SpellsGiven context (Some text) after
    ⊎ (IsOfNone context text × (after ≡ message))

-- what comes of the steps that are left and of the message that comes after this one and the text
pub record GoesOn (forwarding : Forwarding) (context : MessageContext) (steps : List Rewrite)
    (message : Message) (made : List ℕ) (given : Option (List ℕ)) (own : Met) : Type 0 where
  pub after : Message
  pub comes : ComesAfter context message made after
  pub given_is : SpellsGiven context given after
  pub says : SaysMet forwarding (context_with context after) steps own

-- the steps lead to a message of which this becomes
abbrev pub SaysAfterSteps : Forwarding → MessageContext → List Rewrite → Forwarded → Type 0
SaysAfterSteps forwarding context steps outcome = (after : Message)
    × IsForwarded steps forwarding.accepted.now.label forwarding.accepted.now.params context after
    × SaysDone forwarding (context_with context after) outcome

-- the steps lead from the message to another, each on the message that those before it gave
abbrev pub LeadsOn : AcceptedLabel → MessageContext → Message → List Rewrite → Message → Type 0
LeadsOn accepted context message steps after = FoldsTo (λ met step next.
    TakesStep accepted.label accepted.params (context_with context met) step next)
    message steps after

-- The message that was given last has the signature still. To where the steps that are left lead
-- from it, all steps lead; and this comes of it and of them.
pub record IsOnTheWay (forwarding : Forwarding) (context : MessageContext) (steps : List Rewrite)
    (given : Option (List ℕ)) (left : List Rewrite) (own : Met) : Type 0 where
  pub message : Message
  pub given_is : SpellsGiven context given message
  pub signature : HasSignatureOf forwarding.accepted.now message
  pub writable : IsTrue (list_all is_writable left)
  pub values : HaveValues left
  pub leads : (after : Message) → LeadsOn forwarding.accepted.now context message left after
      → LeadsOn forwarding.accepted.now context context.message steps after
  pub says : SaysMet forwarding (context_with context message) left own
