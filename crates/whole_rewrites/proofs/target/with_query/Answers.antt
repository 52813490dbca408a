use Rattle.component_values.specs.Context.{context_of}
use Rattle.derived_values.specs.Views.{parts_of, request_line_of}
use Rattle.whole_rewrites.specs.Targets.{HasOtherQuery}
use Rattle.whole_rewrites.specs.tools.Retargeted.{new_target_text}
use Rattle.whole_rewrites.proofs.Targeted.{changes_none}
use Rattle.whole_rewrites.proofs.TargetOffers.{query_offers}
use Rattle.whole_rewrites.proofs.target.with_query.Goals as goal

pub returns-in_default : goal.returns-in_default
returns-in_default c = λ made makes is. c.in_default.ensures.none makes.line makes.parts makes.has

pub returns-in_default-query_target : goal.returns-in_default-query_target
returns-in_default-query_target c = λ made makes is.
    changes_none (context_of c.args.context.now) (HasOtherQuery c.args.text.now) (request_line_of c.in-Some.line) (parts_of c.in-Some.line.parts) c.in-Some.ensures.some
    c.in_default-query_target.ensures.none made makes

pub returns : goal.returns
returns c =
    query_offers (context_of c.args.context.now) c.args.text.now c.bytes.result.now (request_line_of c.in-Some.line) (parts_of c.in-Some.line.parts) (new_target_text c.in-Some-query_target.target) c.retargeted.result
    c.requires.writable (record { is = c.requires.whole; text = c.bytes.ensures }) c.in-Some.ensures.some c.in-Some-query_target.ensures.some c.retargeted.ensures
