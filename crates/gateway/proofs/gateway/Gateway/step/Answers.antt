use Rattle.std.proofs.Common.{◌≤◌, ℕ, Option, sym, subst}
use Rattle.nonces.specs.declared.limits.TheConstants.{MAX_MOMENT}
use Rattle.settings.specs.ConfMeaning.{meaning}
use Rattle.settings.proofs.ValidInside.{valid_inside}
use Rattle.gateway.specs.Arrivals.{arrival_of}
use Rattle.gateway.specs.Records.{GatewayState}
use Rattle.gateway.specs.declared.accepted.AcceptedLabel.{AcceptedLabel}
use Rattle.gateway.specs.tools.Judged.{RemembersAccepted}
use Rattle.gateway.proofs.RecordRanges.{record_in_range}
use Rattle.gateway.proofs.Stepping.{some_there}
use Rattle.gateway.proofs.gateway.Gateway.step.Goals as goal

pub returns-clause-in_range : goal.returns-clause-in_range
returns-clause-in_range g c =
    let conf = meaning c.self.inside.conf.now in
    let own = some_there conf.gateway c.self.invariant.gateway in
    let state : GatewayState = record { conf = conf; seen = c.advance.new.self; count = c.self.inside.count } in
    let arrival = arrival_of c.args.arrival in
    let after = c.remember.new.book in
    let early : state.seen.moment ≤ MAX_MOMENT = subst (λ (n : ℕ). n ≤ MAX_MOMENT) (sym c.advance.ensures.moment) c.requires.now in
    let remembers = subst (λ (o : Option AcceptedLabel). RemembersAccepted conf o state.seen after) c.as_ref.ensures.value c.remember.ensures.remembers in
    record_in_range own.0 state arrival c.in_ok-answer.field-0.answer after (valid_inside conf c.self.inside.conf.now.valid) early (c.in_ok-answer.ensures.is own.0 own.1 after remembers)
