-- What is answered of two messages has its cause.
use Rattle.std.proofs.Common.{◌≢◌, ℕ, List, Result, Ok, Err, refl, inl, inr}
use Rattle.std.specs.Prelude.{IfOk}
use Rattle.byte_grammar.specs.Causes.{AnswersWhere}
use Rattle.byte_grammar.proofs.AnswerLaws.{IsMemoryDecided, NamesFault, answers_where}
use Rattle.component_values.specs.Context.{MessageContext}
use Rattle.normal_forms.specs.Causes.{IsExplainFault}
use Rattle.normal_forms.specs.Explanations.{Explains}
use Rattle.normal_forms.specs.declared.explanation.Explained.{Explained}
use Rattle.normal_forms.specs.declared.fault.ExplainFault.{ExplainFault}
use Rattle.normal_forms.specs.declared.fault.ExplainFault.TheVariants.{Memory, Unread, NotPlain, OtherBasis}
use Rattle.normal_forms.specs.tools.Explained.{ExplainsMessages}
use Rattle.normal_forms.proofs.OneExplanation.{has_one_explain_fault}

memory_decided : IsMemoryDecided Memory
memory_decided Memory = inl refl
memory_decided Unread = inr (λ same. cc)
memory_decided (NotPlain index) = inr (λ same. cc)
memory_decided (OtherBasis basis) = inr (λ same. cc)

module _ (first second : MessageContext) (label : List ℕ) where
  pub explained_ok : (result : Result Explained ExplainFault) → ExplainsMessages first second label result → IfOk result (Explains first second label)
  explained_ok (Ok explained) is = is.0
  explained_ok (Err fault) is = tt

  names_fault : (result : Result Explained ExplainFault) → ExplainsMessages first second label result → NamesFault Memory (IsExplainFault first second label) result
  names_fault (Ok explained) is = λ fault first_holds. is.1 fault first_holds.holds
  names_fault (Err fault) is = is

  pub explained_fault : (result : Result Explained ExplainFault) → ExplainsMessages first second label result → (fault : ExplainFault) → fault ≢ Memory
      → AnswersWhere Memory result fault (IsExplainFault first second label fault)
  explained_fault result is fault own =
      answers_where Memory memory_decided (IsExplainFault first second label) result (has_one_explain_fault first second label) (names_fault result is) fault own
