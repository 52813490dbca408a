use Rattle.rewrites.proofs.Keeping.{keeps_where_alike, keeps_where_same}
use Rattle.rewrites.proofs.Kept.{keeps_over_steps, keeps_where_permitted}
use Rattle.rewrites.proofs.laws.permitted_steps_keep_a_signature.Goals as goal

pub returns : goal.returns
returns c = record {
  where_same = keeps_where_same;
  where_alike = keeps_where_alike;
  step = keeps_where_permitted;
  steps = keeps_over_steps;
}
