use Rattle.std.proofs.Common.{◌≡◌, ◌+◌, refl, ◌∙◌, ap, arith, map}
use Rattle.nonces.specs.tools.Nodes.{let_go}
use Rattle.nonces.specs.tools.Wheels.{is_dead}
use Rattle.nonces.proofs.Turned.{hour_is, pass_none, pass_on, pass_within}
use Rattle.nonces.proofs.wheels.Wheels.drop_seconds.Goals as goal

pub seconds-init : goal.seconds-init
seconds-init g c = (
  pass_none c.args.self.now.entries c.args.first c.requires.last.0 c.requires.last.1,
  refl,
  omega arith,
  c.requires.order,
  omega arith,
  omega arith,
)

pub drop_second-requires-clause-last : goal.drop_second-requires-clause-last
drop_second-requires-clause-last g c = (
  c.requires.last.0,
  pass_within c.args.self.now.entries c.seconds.self.entries c.args.first c.seconds.second c.requires.last.0 c.requires.last.1
      c.seconds.invariant.0,
)

pub drop_second-requires-clause-hour : goal.drop_second-requires-clause-hour
drop_second-requires-clause-hour g c =
    let held = c.seconds.invariant in
    hour_is c.seconds.self.hour c.seconds.second (omega (arith, c.requires.begins, held.1, held.2))
    (omega (arith, c.requires.ends, held.1, held.3))

pub seconds-preserved : goal.seconds-preserved
seconds-preserved g c =
    let held = c.seconds.invariant in
    let second = c.drop_second.ensures in (
      pass_on c.args.self.now.entries c.seconds.self.entries c.drop_second.new.self.entries c.seconds.second (c.seconds.second + 1)
          (omega arith) held.0 second.entries,
      second.hour ∙ held.1,
      omega (arith, held.2),
      omega arith,
      omega (arith, held.4, second.rises),
      omega (arith, held.2, held.5, second.cost),
    )

pub returns-clause-entries : goal.returns-clause-entries
returns-clause-entries g c =
    let held = c.seconds.invariant in
    let ended : c.seconds.second ≡ c.args.end = omega (arith, held.3) in
    held.0 ∙ ap (λ t. map (let_go (is_dead t)) c.args.self.now.entries) ended
