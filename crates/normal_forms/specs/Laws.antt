-- Laws of normal messages and of explanations.
use Rattle.std.specs.Prelude.{◌≡◌, ◌⊎◌, ◌↔◌, ℕ, Bool, List, []}
use Rattle.std.specs.List.{All}
use Rattle.msg_body.specs.Messages.{Message, IsMessage}
use Rattle.component_ids.specs.declared.params.SigParams.{SigParams}
use Rattle.component_values.specs.Context.{MessageContext, HasWholeMessage, answers_head, context_with}
use Rattle.rewrite_script.specs.declared.rewrite.Rewrite.{Rewrite}
use Rattle.signatures.specs.Signatures.{HasSignature}
use Rattle.normal_forms.specs.Agreement.{AgreeOn, AreOfOneBasis}
use Rattle.normal_forms.specs.Causes.{IsExplainFault}
use Rattle.normal_forms.specs.Explanations.{Explains}
use Rattle.normal_forms.specs.declared.explanation.Explained.{Explained}
use Rattle.normal_forms.specs.declared.fault.ExplainFault.{ExplainFault}
use Rattle.normal_forms.specs.NormalMessages.{AreAlike, IsNormal}
use Rattle.normal_forms.specs.Steps.{HasNormalSteps, IsNormalForm}

-- the steps that make a message normal are applicable and permitted, and what they give is normal
abbrev pub LeadToNormal : Type 0
LeadToNormal =
    (context : MessageContext) (label : List ℕ) (params : SigParams) (tag : List ℕ)
    (steps : List Rewrite) (normal : Message) → HasWholeMessage context
    → HasSignature context.message label params tag
    → HasNormalSteps (answers_head context.related) params context.message steps normal
    → IsNormalForm context label params steps normal

-- a normal message has no steps, and is its own normal form
abbrev pub StaysNormal : Type 0
StaysNormal =
    (to_head : Bool) (params : SigParams) (message : Message) (steps : List Rewrite)
    (normal : Message) → IsMessage to_head message → IsNormal params message
    → HasNormalSteps to_head params message steps normal
    → (steps ≡ []) × (normal ≡ message)

-- Two messages of one basis have normal forms that are alike exactly where they agree on each
-- component that is covered.
abbrev pub AreAlikeWhereAgreed : Type 0
AreAlikeWhereAgreed =
    (to_head : Bool) (params : SigParams) (message other : Message) (steps others : List Rewrite)
    (normal another : Message) → IsMessage to_head message → IsMessage to_head other
    → AreOfOneBasis message other → HasNormalSteps to_head params message steps normal
    → HasNormalSteps to_head params other others another
    → AreAlike normal another ↔ All (AgreeOn message other) params.ids

-- ---- that there is one normal form

-- A message has at most one list of steps that make it normal for a signature of these parameters,
-- and at most one normal message.
abbrev pub HasOneNormalForm : Type 0
HasOneNormalForm =
    (to_head : Bool) (params : SigParams) (message : Message) (steps others : List Rewrite)
    (normal another : Message) → HasNormalSteps to_head params message steps normal
    → HasNormalSteps to_head params message others another
    → (steps ≡ others) × (normal ≡ another)

-- each message has them
abbrev pub HasSomeNormalForm : Type 0
HasSomeNormalForm =
    (to_head : Bool) (params : SigParams) (message : Message) → IsMessage to_head message
    → (steps : List Rewrite) × (normal : Message)
    × HasNormalSteps to_head params message steps normal

-- ---- that there is one answer

-- two messages have at most one explanation for a label
abbrev pub HasOneExplanation : Type 0
HasOneExplanation =
    (first second : MessageContext) (label : List ℕ) (one other : Explained)
    → Explains first second label one → Explains first second label other → one ≡ other

-- there is at most one fault for which they have none
abbrev pub HasOneExplainFault : Type 0
HasOneExplainFault =
    (first second : MessageContext) (label : List ℕ) (one other : ExplainFault)
    → IsExplainFault first second label one → IsExplainFault first second label other
    → one ≡ other

-- there is such a fault; or there is none, and they have an explanation
abbrev pub HasExplanationOrFault : Type 0
HasExplanationOrFault =
    (first second : MessageContext) (label : List ℕ) → HasWholeMessage first
    → HasWholeMessage second → second ≡ context_with first second.message
    → ((fault : ExplainFault) × IsExplainFault first second label fault)
    ⊎ (((fault : ExplainFault) → ¬ IsExplainFault first second label fault)
    × ((explained : Explained) × Explains first second label explained))
