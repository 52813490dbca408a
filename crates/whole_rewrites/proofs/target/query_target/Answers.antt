use Rattle.whole_rewrites.proofs.TargetOffers.{front_before}
use Rattle.derived_values.specs.Views.{parts_of}
use Rattle.whole_rewrites.proofs.target.query_target.Goals as goal

pub before_query-requires : goal.before_query-requires
before_query-requires c = front_before c.args.line.now.method.now c.args.line.now.target.now (parts_of c.args.line.now.parts) _ c.requires c.in-Some.ensures
