-- What an explanation of two records of one message says.
use Rattle.std.specs.Prelude.{ℕ, IsSomeAnd, List, take, slice_get}
use Rattle.std.specs.List.{All}
use Rattle.msg_body.specs.Messages.{Message}
use Rattle.component_ids.specs.declared.id.ComponentId.{ComponentId}
use Rattle.component_ids.specs.declared.params.SigParams.{SigParams}
use Rattle.component_values.specs.Context.{MessageContext}
use Rattle.rewrite_script.specs.declared.rewrite.Rewrite.{Rewrite}
use Rattle.signatures.specs.Signatures.{HasSignature}
use Rattle.normal_forms.specs.declared.explanation.Explained.{Explained}
use Rattle.normal_forms.specs.declared.explanation.Explained.TheVariants.{Same, Differs}
use Rattle.normal_forms.specs.Agreement.{AgreeOn}
use Rattle.normal_forms.specs.NormalMessages.{AreAlike}
use Rattle.normal_forms.specs.Steps.{IsNormalForm}

-- The messages agree on all that is covered, and the lists of steps lead from each to its normal
-- message. The normal messages are alike.
pub record AreExplained (first second : MessageContext) (label : List ℕ) (params : SigParams)
    (steps others : List Rewrite) : Type 0 where
  pub agree : All (AgreeOn first.message second.message) params.ids
  pub normal : Message
  pub first_form : IsNormalForm first label params steps normal
  pub other : Message
  pub second_form : IsNormalForm second label params others other
  pub alike : AreAlike normal other

-- the messages don't agree on the component of the index, and agree on those before it
pub record DifferFirstAt (first second : Message) (index : ℕ) (ids : List ComponentId)
    : Type 0 where
  pub before : All (AgreeOn first second) (take index ids)
  pub there : IsSomeAnd (slice_get ids index) (λ id. ¬ AgreeOn first second id)

-- what is said of messages with a signature of these parameters
abbrev pub ExplainsFor : MessageContext → MessageContext → List ℕ → SigParams → Explained → Type 0
ExplainsFor first second label params (Same steps others) =
    AreExplained first second label params steps others
ExplainsFor first second label params (Differs index) =
    DifferFirstAt first.message second.message index params.ids

-- what is said of the label's signature in the two messages, which both have it
pub record Explains (first second : MessageContext) (label : List ℕ) (explained : Explained)
    : Type 0 where
  pub params : SigParams
  pub tag : List ℕ
  pub first_has : HasSignature first.message label params tag
  pub second_has : HasSignature second.message label params tag
  pub explains : ExplainsFor first second label params explained
