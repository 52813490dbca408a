use Rattle.std.proofs.Common.{◌+◌, ◌≤◌, length, arith}
use Rattle.std.proofs.lemmas.Grind.{common_steps}
use Rattle.hms_io.proofs.Known.{loses_at_most, loses_kept, loses_prefix}
use Rattle.hms_io.proofs.read_write.fill.Goals as goal

pub returns-in_err-append-clause-prefix : goal.returns-in_err-append-clause-prefix
returns-in_err-append-clause-prefix g c =
    let given = c.in_ok-count.ensures in
    let n = c.in_ok-count.count in
    let within : length c.reads.text + n ≤ c.args.limit + 1 = grind (arith, common_steps) in
    loses_at_most _ _ _ _ c.reads.text c.read.new.into n _ within given.bound.0 c.reads.invariant.took given.bytes.0

pub returns-in_err-count-clause-prefix : goal.returns-in_err-count-clause-prefix
returns-in_err-count-clause-prefix g c =
    let within : length c.reads.text ≤ c.args.limit + 1 = omega (arith, c.reads.invariant.size) in
    loses_kept _ _ _ _ c.reads.text _ within c.reads.invariant.took c.in_err-count.ensures.bytes

pub returns-clause-prefix : goal.returns-clause-prefix
returns-clause-prefix g c =
    let within : length c.reads.text ≤ c.args.limit + 1 = omega (arith, c.reads.invariant.size) in
    (length c.reads.text, within, loses_prefix _ _ c.reads.text c.reads.invariant.took)
