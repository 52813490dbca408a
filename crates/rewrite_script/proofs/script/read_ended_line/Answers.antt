use Rattle.std.proofs.Common.{sym}
use Rattle.rewrite_script.proofs.ScriptLaws.{ended_err}
use Rattle.rewrite_script.proofs.script.read_ended_line.Goals as goal

pub returns-in-Err : goal.returns-in-Err
returns-in-Err c =
    ended_err c.args.bytes.now c.in-Some.line.now c.in-Some.rest.now c.in-Err.fault (sym c.in-Some.ensures) c.in-Err.ensures
