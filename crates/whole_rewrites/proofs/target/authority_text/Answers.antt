use Rattle.std.proofs.Common.{Err, sym, ap, ◌∙◌}
use Rattle.derived_values.specs.Derived.{derived_of}
use Rattle.component_values.specs.Context.{context_of}
use Rattle.whole_rewrites.proofs.TargetOffers.{lacks_authority, no_param}
use Rattle.whole_rewrites.proofs.target.authority_text.Goals as goal

pub returns-in-Err-Lacks : goal.returns-in-Err-Lacks
returns-in-Err-Lacks c =
    lacks_authority (context_of c.args.context.now) c.in_ok-from_bytes.field-0 c.new.result c.derived_value.result c.in-Err-Lacks.field-0-0 c.in_ok-from_bytes.ensures.ok c.new.ensures c.derived_value.ensures.row
    (c.in-Err-Lacks.is ∙ ap Err c.in-Err-Lacks.field-0-is)

pub unreachable-requires : goal.unreachable-requires
unreachable-requires c =
    no_param (sym (ap derived_of c.in_ok-from_bytes.ensures.ok) ∙ c.derived_value.ensures.needed (c.in-Err-Memory.is ∙ ap Err c.in-Err-Memory.field-0-is))
