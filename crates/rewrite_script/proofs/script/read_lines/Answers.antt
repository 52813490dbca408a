use Rattle.std.proofs.Common.{◌<◌, length, arith}
use Rattle.std.proofs.lemmas.Bool.Decides.{nat_tests}
use Rattle.rewrite_script.proofs.ScriptLaws.{IsNotRead, shorter, read_more, bad_line}
use Rattle.rewrite_script.proofs.script.read_lines.Goals as goal

pub lines-smaller : goal.lines-smaller
lines-smaller c = shorter c.lines.rest.now c.in-Ok.rewrite c.in-Ok.after.now c.in-Ok.ensures.0

pub lines-preserved : goal.lines-preserved
lines-preserved c =
    rw c.in_ok-push-in-Ok.ensures.ok (read_more c.args.text.now c.lines.script c.lines.rest.now c.in-Ok.rewrite c.in-Ok.after.now c.lines.invariant c.in-Ok.ensures.0 c.in-Ok.ensures.1)

pub returns-in-Err-NotSpelled : goal.returns-in-Err-NotSpelled
returns-in-Err-NotSpelled c =
    let none : IsNotRead c.lines.rest.now = rw c.in-Err-NotSpelled.field-0-is at c.in-Err-NotSpelled.ensures in
    let test = c.lines-test.true in
    let empty = c.is_empty.ensures in
    let some : 0 < length c.lines.rest.now = grind (arith, nat_tests) in
    rw c.len.ensures (bad_line c.args.text.now c.lines.script c.lines.rest.now c.lines.invariant some none)
