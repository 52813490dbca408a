use Rattle.std.proofs.Common.{sym}
use Rattle.rewrite_script.proofs.Cuts.{cut_there, cut_missing}
use Rattle.rewrite_script.proofs.argument.cut.Goals as goal

pub returns-in-None : goal.returns-in-None
returns-in-None c =
    let read = c.read_all.ensures in
    sym (cut_missing c.args.end c.args.bytes.now c.read_all.result.0.now c.read_all.result.1.now read.joined read.all c.in-None.ensures.cases)

pub returns-in-Some : goal.returns-in-Some
returns-in-Some c =
    let read = c.read_all.ensures in
    sym (cut_there c.args.end c.args.bytes.now c.read_all.result.0.now c.read_all.result.1.now c.in-Some.field-0-0.now c.in-Some.after.now read.joined read.all read.ends c.in-Some.ensures.cases.0)
