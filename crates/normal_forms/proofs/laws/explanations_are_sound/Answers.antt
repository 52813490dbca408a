use Rattle.normal_forms.proofs.AlikeForms.{alike_where_agreed}
use Rattle.normal_forms.proofs.LeadLaws.{lead_to_normal, stays_normal}
use Rattle.normal_forms.proofs.LeadLines.{lead_on_side}
use Rattle.normal_forms.proofs.NormalLists.{makes_normal, stays_normal as stays_normal_lines}
use Rattle.normal_forms.proofs.laws.explanations_are_sound.Goals as goal

pub returns-clause-lead : goal.returns-clause-lead
returns-clause-lead c = lead_to_normal lead_on_side (λ side params lines steps normal is made. makes_normal side params lines steps normal made)

pub returns-clause-normal : goal.returns-clause-normal
returns-clause-normal c = stays_normal stays_normal_lines

pub returns-clause-alike : goal.returns-clause-alike
returns-clause-alike c = alike_where_agreed
