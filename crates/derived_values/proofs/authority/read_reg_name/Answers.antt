use Rattle.std.proofs.Common.{sym}
use Rattle.std.proofs.lemmas.Bool.{eqb-true}
use Rattle.derived_values.proofs.AuthorityParts.{empty_name}
use Rattle.derived_values.proofs.authority.read_reg_name.Goals as goal

pub returns-then-is_empty-clause-none : goal.returns-then-is_empty-clause-none
returns-then-is_empty-clause-none c =
    empty_name _ _ _ c.read_all.ensures.joined c.read_all.ensures.all c.read_all.ensures.ends (eqb-true _ _ (sym c.if-is_empty.ensures))
