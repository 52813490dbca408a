use Rattle.std.proofs.Common.{◌≡◌, subst, refl, ◌∙◌, rules}
use Rattle.std.specs.Prelude.{option_copied}
use Rattle.conf.specs.ConfMeaning.{meaning}
use Rattle.verdicts.specs.Verification.{Verification, verification_by, verification_for}
use Rattle.commands.specs.tools.Verdicts.{WritesVerdict}
use Rattle.commands.proofs.VerdictLines.{more_lines}
use Rattle.commands.proofs.verify.add_lines.Goals as goal

pub loop-label-preserved : goal.loop-label-preserved
loop-label-preserved g c =
    let conf = meaning c.args.verifier.now.conf.now in
    let moment = c.args.verifier.now.moment in
    let context = c.args.exchange.now.context in
    let label = c.label-item.result in
    let by : verification_by c.args.verifier.now c.loop-label.exchange.context c.bytes.result.now ≡ verification_for conf moment context label =
    λ i. record { context = c.loop-label.invariant.1 i; label = c.bytes.ensures i; conf = conf; now = moment; seen = option_copied (c.requires.seen i) } in
    let writes = subst (λ (v : Verification). WritesVerdict v c.loop-label.lines c.write_line.new.lines c.in_ok-is_accepted.is_accepted) by c.in_ok-is_accepted.ensures.writes in (
      more_lines conf moment context c.args.labels.now c.loop-label.label-index label c.loop-label.lines c.write_line.new.lines
          c.loop-label.all_accepted c.in_ok-is_accepted.is_accepted _ c.loop-label-test.true c.label-item.is c.loop-label.invariant.0 writes refl,
      c.in_ok-is_accepted.ensures.exchange ∙ c.loop-label.invariant.1,
    )

pub loop-label-init : goal.loop-label-init
loop-label-init g c = (search (rules, c.requires.lines), refl)
