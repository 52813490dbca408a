use Rattle.std.proofs.Common.{◌++◌}
use Rattle.std.specs.Prelude.{codes}
use Rattle.component_values.specs.Context.{context_of}
use Rattle.derived_values.specs.Views.{parts_of, request_line_of}
use Rattle.whole_rewrites.proofs.TargetOffers.{absolute_offers}
use Rattle.whole_rewrites.proofs.target.in_absolute_form.Goals as goal

pub returns-in_default : goal.returns-in_default
returns-in_default c = λ made makes is. c.in_default.ensures.none makes.line makes.parts makes.has

pub returns : goal.returns
returns c =
    let line = c.in-Some.line in
    absolute_offers (context_of c.args.context.now) c.bytes-2.result.now (request_line_of line) (parts_of line.parts) (c.scheme_text.result.now ++ (codes "://" ++ (c.bytes.result.now ++ line.target.now)))
    c.retargeted.result (record { is = c.requires.whole; text = c.bytes-2.ensures }) c.in-Some.ensures.some
    (record {
      form = c.in-Origin.is;
      authority = c.in-Ok.authority;
      has = c.in-Ok.ensures;
      target_is = λ i. c.scheme_text.ensures.is i ++ (codes "://" ++ (c.bytes.ensures i ++ line.target.now));
    })
    c.retargeted.ensures
