use Rattle.refusals.proofs.Statuses.{status_of_refusal}
use Rattle.refusals.proofs.laws.a_refusal_has_a_status_of_its_own.Goals as goal

pub returns : goal.returns
returns c = status_of_refusal
