use Rattle.normal_forms.proofs.OneExplanation.{has_explanation_or_fault, has_one_explain_fault, has_one_explanation}
use Rattle.normal_forms.proofs.laws.explanations_are_decided.Goals as goal

pub returns : goal.returns
returns c = record { one = has_one_explanation; fault = has_one_explain_fault; some = has_explanation_or_fault }
