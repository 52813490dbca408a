-- What `explain` comes to: of two records of one message, the steps that lead both to messages that
-- are alike, or the first covered field that differs.
use Rattle.std.specs.Prelude.{◌≡◌, ℕ, IsSomeAnd, List, ◌++◌, length, codes, slice_get}
use Rattle.std.specs.Fmt.{decimal}
use Rattle.msg_body.specs.Messages.{Message}
use Rattle.component_ids.specs.Identifiers.{id_text}
use Rattle.component_ids.specs.declared.id.ComponentId.{ComponentId}
use Rattle.component_ids.specs.declared.params.SigParams.{SigParams}
use Rattle.component_values.specs.Context.{MessageContext, context_with}
use Rattle.normal_forms.specs.Causes.{IsExplainFault}
use Rattle.normal_forms.specs.Explanations.{Explains}
use Rattle.normal_forms.specs.declared.explanation.Explained.{Explained}
use Rattle.normal_forms.specs.declared.explanation.Explained.TheVariants.{Same, Differs}
use Rattle.rewrite_script.specs.Scripts.{script_text}
use Rattle.rewrite_script.specs.declared.rewrite.Rewrite.{Rewrite}
use Rattle.signatures.specs.Signatures.{HasSignature}
use Rattle.commands.specs.Layers.{MakesThen}
use Rattle.refusals.specs.declared.refusal.Refusal.TheVariants.{Command}
use Rattle.refusals.specs.declared.refusal.CommandRefusal.TheVariants.{Explain}
use Rattle.commands.specs.declared.outcome.Outcome.{Outcome}
use Rattle.commands.specs.declared.outcome.Outcome.TheVariants.{Done, NotOk}

-- how many steps lead from the first message, how many from the second, and the lines of the steps,
-- as a script has them
abbrev pub explained_text : List Rewrite → List Rewrite → List ℕ
explained_text first second =
    codes "explained " ++ (decimal (length first) ++ (codes " " ++ (decimal (length second)
    ++ (codes "\n" ++ (script_text first ++ script_text second)))))

-- the line of a component on which the messages don't agree
abbrev pub differing_text : ComponentId → List ℕ
differing_text id = codes "differs " ++ (id_text id ++ codes "\n")

-- the line of the component that has the index among those that the label's signature covers
pub record IsDifference (message : Message) (label : List ℕ) (index : ℕ) (outcome : Outcome)
    : Type 0 where
  pub params : SigParams
  pub tag : List ℕ
  pub signature : HasSignature message label params tag
  pub there : IsSomeAnd (slice_get params.ids index) (λ id. outcome ≡ NotOk (differing_text id))

-- what is written of an explanation of the message and another
abbrev pub WritesExplained : Message → List ℕ → Explained → Outcome → Type 0
WritesExplained message label (Same first second) outcome =
    outcome ≡ Done (explained_text first second)
WritesExplained message label (Differs index) outcome = IsDifference message label index outcome

-- the explanation of the context's message and the other one, for the label's signature; or why
-- there is none
abbrev pub ReportsExplanation : List ℕ → Message → MessageContext → Outcome → Type 0
ReportsExplanation label other context =
    MakesThen (Explains context (context_with context other) label)
    (IsExplainFault context (context_with context other) label) (λ fault. Command (Explain fault))
    (λ explained. WritesExplained context.message label explained)
