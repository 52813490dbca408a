use Rattle.std.proofs.Common.{◌+◌, refl}
use Rattle.nonces.proofs.Powers.{doubled_least, doubled_power, one_is_least}
use Rattle.nonces.proofs.buckets.bucket_count.Goals as goal

pub powers-init : goal.powers-init
powers-init c = (0, refl, λ k _. one_is_least k)

pub powers-preserved : goal.powers-preserved
powers-preserved c =
    let old = c.powers.invariant in (
      old.0 + 1,
      doubled_power c.args.capacity c.powers.count old.0 old.1,
      doubled_least c.args.capacity c.powers.count old.0 old.1 c.powers-test.true,
    )

pub returns : goal.returns
returns c =
    let old = c.powers.invariant in
    record { exponent = old.0; power = old.1; reaches = c.powers-test.false; first = old.2 }
