use Rattle.std.proofs.Common.{not, sym, ap, ◌∙◌}
use Rattle.std.proofs.lemmas.Bool.{false≢true}
use Rattle.whole_rewrites.proofs.TargetPermitQueries.{kept_by_values}
use Rattle.whole_rewrites.proofs.permit_target.keeps_param.Goals as goal

pub returns-then-not-is_own_of : goal.returns-then-not-is_own_of
returns-then-not-is_own_of c = (λ yes own. absurd (false≢true (sym c.if-not-is_own_of.true ∙ (c.is_own_of.ensures ∙ own))), λ keeps. ap not c.if-not-is_own_of.true)

pub returns-else-not-is_own_of : goal.returns-else-not-is_own_of
returns-else-not-is_own_of c =
    kept_by_values c.have_same_values.result c.args.queries.now.query c.args.queries.now.other c.param_name.result.now c.args.id.now c.param_name.ensures
    (sym c.is_own_of.ensures ∙ c.if-not-is_own_of.false) c.have_same_values.ensures
