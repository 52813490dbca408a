use Rattle.normal_forms.proofs.OneExplanation.{some_normal}
use Rattle.normal_forms.proofs.OneNormal.{one_normal}
use Rattle.normal_forms.proofs.laws.a_message_has_one_normal_form.Goals as goal

pub returns : goal.returns
returns c = record { one = one_normal; some = some_normal }
