use Rattle.std.proofs.Common.{sym, ◌∙◌}
use Rattle.derived_values.specs.Views.{authority_parts}
use Rattle.field_lists.proofs.FromParts.{authority_there}
use Rattle.field_lists.proofs.into_list.is_authority.Goals as goal

pub returns-clause-yes : goal.returns-clause-yes
returns-clause-yes c = λ there.
    authority_there authority_parts c.args.scheme.now c.args.text.now c.authority_of.result c.authority_of.ensures.some (sym c.is_some.ensures ∙ there)
