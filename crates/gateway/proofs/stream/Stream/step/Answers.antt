use Rattle.std.proofs.Common.{ap, ◌∙◌}
use Rattle.gateway.specs.Arrivals.{arrival_of}
use Rattle.gateway.specs.tools.HeldStreams.{HeldStream, related_held}
use Rattle.gateway.proofs.AddedRecords.{added_inside}
use Rattle.gateway.proofs.stream.Stream.step.Goals as goal

pub returns-clause-added : goal.returns-clause-added
returns-clause-added g c = λ settings is.
    added_inside settings c.args.self.now c.self.inside.gateway c.step.new.self c.self.inside.moment (related_held c.self.inside.related) (arrival_of c.args.arrival) c.in_ok-answer.answer
    c.self.view_is c.requires.alone c.step.ensures.conf c.in_ok-answer.ensures.count (c.in_ok-answer.ensures.answers settings (ap (λ (h : HeldStream). h.conf.gateway) c.self.view_is ∙ is))
