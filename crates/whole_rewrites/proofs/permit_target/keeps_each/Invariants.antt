use Rattle.std.specs.Prelude.{take}
use Rattle.std.specs.List.{All}
use Rattle.whole_rewrites.specs.Conditions.{KeepsParamIn}
use Rattle.whole_rewrites.proofs.permit_target.keeps_each.Given as goal

abbrev pub invariant-loop-id : goal.invariant-loop-id
invariant-loop-id l = All (KeepsParamIn l.queries.query l.queries.other) (take l.id-index l.ids)
