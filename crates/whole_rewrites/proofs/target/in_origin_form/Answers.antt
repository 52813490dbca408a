use Rattle.component_values.specs.Context.{context_of}
use Rattle.derived_values.specs.Views.{parts_of, request_line_of}
use Rattle.whole_rewrites.specs.Targets.{IsOriginOf}
use Rattle.whole_rewrites.specs.tools.Retargeted.{new_target_text}
use Rattle.whole_rewrites.proofs.Targeted.{changes_none}
use Rattle.whole_rewrites.proofs.TargetOffers.{origin_offers}
use Rattle.whole_rewrites.proofs.target.in_origin_form.Goals as goal

pub returns-in_default : goal.returns-in_default
returns-in_default c = λ made makes is. c.in_default.ensures.none makes.line makes.parts makes.has

pub returns-in_default-origin_target : goal.returns-in_default-origin_target
returns-in_default-origin_target c = λ made makes is.
    changes_none (context_of c.args.context.now) (λ line. IsOriginOf) (request_line_of c.in-Some.line) (parts_of c.in-Some.line.parts) c.in-Some.ensures.some
    c.in_default-origin_target.ensures.none made makes

pub returns : goal.returns
returns c =
    let line = request_line_of c.in-Some.line in
    origin_offers (context_of c.args.context.now) c.bytes.result.now line (parts_of c.in-Some.line.parts) (new_target_text c.in-Some-origin_target.target) c.retargeted.result (record { is = c.requires.whole; text = c.bytes.ensures })
    c.in-Some.ensures.some c.in-Some-origin_target.ensures.some c.retargeted.ensures
