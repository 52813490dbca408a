use Rattle.std.proofs.Common.{arith}
use Rattle.recording.proofs.FoundLaws.{first_found, first_within}
use Rattle.recording.proofs.reader.find_first.Goals as goal

pub overflow_sub-result : goal.overflow_sub-result
overflow_sub-result c = omega (arith, first_within c.args.bytes.now c.in-Ok.rest.now c.in-Ok.moment c.in-Ok.ensures.is)

pub overflow_sub-result-in-Ok : goal.overflow_sub-result-in-Ok
overflow_sub-result-in-Ok c = omega (arith, first_within c.args.bytes.now c.in-Ok.rest.now c.in-Ok.moment c.in-Ok.ensures.is)

pub returns-in-Ok : goal.returns-in-Ok
returns-in-Ok c = first_found c.args.bytes.now c.in-Ok.rest.now c.in-Ok.moment c.in-Ok.ensures.is
