use Rattle.derived_values.proofs.StartTargets.{is_one_request, is_request_or_not}
use Rattle.derived_values.proofs.target_laws.a_start_line_is_of_one_target.Goals as goal

pub returns : goal.returns
returns c = record { one = is_one_request; decided = is_request_or_not }
