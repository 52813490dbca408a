-- Laws of explanations, over those of the crate below.
use Rattle.normal_forms.proofs.OneExplanation.{has_explanation_or_fault, has_one_explain_fault, has_one_explanation}
use Rattle.commands.specs.Laws.{HasOneExplained, HasSomeExplained}
use Rattle.commands.proofs.Explaining as explaining

pub one_explained : HasOneExplained
one_explained = explaining.one_explained has_one_explanation has_one_explain_fault

pub has_some_explained : HasSomeExplained
has_some_explained = explaining.has_some_explained has_explanation_or_fault
