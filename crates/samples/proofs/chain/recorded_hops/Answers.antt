use Rattle.std.proofs.Common.{None, refl, ◌+◌, ◌*◌}
use Rattle.samples.proofs.MadeItems.{hops_done, hops_more}
use Rattle.samples.proofs.chain.recorded_hops.Goals as goal

pub loop-count-preserved : goal.loop-count-preserved
loop-count-preserved c =
    let hop = c.index-hops-count.result in
    hops_more c.args.hops.now c.loop-count.count c.loop-count.recorded c.loop-count.invariant c.push.new.self hop hop
    (record { moment = None; item = 2 * c.loop-count.count + 2; script = c.bytes.result; message = c.bytes-in-loop-count.result })
    c.loop-count-test.true c.index-hops-count.is c.in_ok-push.ensures.ok refl
    (λ i. record { moment = None; script = c.bytes.ensures i; message = c.bytes-in-loop-count.ensures i })

pub returns : goal.returns
returns c = hops_done c.args.hops.now c.loop-count.count c.loop-count.recorded c.loop-count.invariant c.loop-count-test.false
