use Rattle.line_rewrites.proofs.PermittedSteps.{is_same_where_permitted}
use Rattle.line_rewrites.proofs.Permitting.{permits_or_not}
use Rattle.line_rewrites.proofs.laws.a_line_step_is_permitted_or_not.Goals as goal

pub returns : goal.returns
returns c = record { decided = permits_or_not; same = is_same_where_permitted }
