use Rattle.std.proofs.Common.{refl, subst, arith}
use Rattle.settings.specs.ConfMeaning.{meaning}
use Rattle.settings.specs.Configuration.{Configuration}
use Rattle.recording.specs.tools.RecordingViews.{place}
use Rattle.recording.proofs.RecordingLaws.{place_bodies}
use Rattle.hop_audit.specs.Report.{IsReport}
use Rattle.samples.specs.tools.Made.{chain_made, items_made}
use Rattle.samples.proofs.MadeChains.{items_allowed, items_short, made_count, no_fault, report_is}
use Rattle.samples.proofs.chain.report_on.Goals as goal

pub recorded-requires : goal.recorded-requires
recorded-requires c =
    let is = c.requires.made.3 in
    let long = made_count c.requires.made.0 c.requires.made.1 c.args.first.now is.own c.args.hops.now is.are in
    omega (arith, long, c.requires.made.2)

pub audit_chain-requires : goal.audit_chain-requires
audit_chain-requires c =
    let is = c.requires.made.3 in
    let bodies = items_made c.args.first.now c.args.hops.now in
    let items = place 0 bodies in
    let say = place_bodies 0 bodies in (
      items,
      c.in_ok-chain.ensures items say,
      items_allowed c.requires.made.0 c.requires.made.1 c.args.first.now is.own c.args.hops.now is.are items say,
      items_short c.requires.made.0 c.requires.made.1 c.args.first.now is.own c.args.hops.now is.are items say,
    )

pub returns-in-Ok : goal.returns-in-Ok
returns-in-Ok c = λ seed count few is.
    let bodies = items_made c.args.first.now c.args.hops.now in
    let items = place 0 bodies in
    let say = place_bodies 0 bodies in
    subst (λ (conf : Configuration). IsReport conf (chain_made is) c.in-Ok.lines) c.requires.conf
    (report_is seed count c.args.first.now is.own c.args.hops.now is.are items say few (meaning c.args.conf.now) c.in-Ok.lines
    (c.in-Ok.ensures.report items (c.in_ok-chain.ensures items say)))

pub unreachable-requires : goal.unreachable-requires
unreachable-requires c =
    let is = c.requires.made.3 in
    let bodies = items_made c.args.first.now c.args.hops.now in
    let items = place 0 bodies in
    let say = place_bodies 0 bodies in
    no_fault c.requires.made.0 c.requires.made.1 c.args.first.now is.own c.args.hops.now is.are items say c.requires.made.2 (meaning c.args.conf.now) c.in-Err.fault
    ((c.in-Err.ensures.fault items (c.in_ok-chain.ensures items say) c.in-Err.fault c.in_default.not-Memory).only refl)
