use Rattle.recording.proofs.ReadLaws.{rest_left, left_at, long_at, falls_at, within_left, within_long, within_falls, within_rest}
use Rattle.recording.proofs.ViewLaws.{recorded}
use Rattle.recording.proofs.read.judge.Goals as goal

pub of-requires : goal.of-requires
of-requires c = recorded c.args.text.now c.in-Ok-empty.field-0.now c.in-Ok-empty.ensures c.in-Ok-empty.len_below

pub overflow_sub-result : goal.overflow_sub-result
overflow_sub-result c = within_rest c.args.text.now c.in-Ok.ensures.0 c.in-Ok.rest.now c.in-Ok.ensures.1

pub overflow_sub-result-in-Err-Left : goal.overflow_sub-result-in-Err-Left
overflow_sub-result-in-Err-Left c = within_left c.args.text.now c.in-Err-Left.left (rw c.in-Err-Left.field-0-is at c.in-Err-Left.ensures)

pub overflow_sub-result-in-Err-TooLong : goal.overflow_sub-result-in-Err-TooLong
overflow_sub-result-in-Err-TooLong c = within_long c.args.text.now c.in-Err-TooLong.left (rw c.in-Err-TooLong.field-0-is at c.in-Err-TooLong.ensures)

pub overflow_sub-result-in-Err-MomentFalls : goal.overflow_sub-result-in-Err-MomentFalls
overflow_sub-result-in-Err-MomentFalls c = within_falls c.args.text.now c.in-Err-MomentFalls.left (rw c.in-Err-MomentFalls.field-0-is at c.in-Err-MomentFalls.ensures)

pub returns-in-Ok : goal.returns-in-Ok
returns-in-Ok c = rest_left c.args.text.now c.in-Ok.ensures.0 c.in-Ok.rest.now c.in-Ok.ensures.1 c.in-Ok.len_at_least

pub returns-in-Err-Left : goal.returns-in-Err-Left
returns-in-Err-Left c = left_at c.args.text.now c.in-Err-Left.left (rw c.in-Err-Left.field-0-is at c.in-Err-Left.ensures)

pub returns-in-Err-TooLong : goal.returns-in-Err-TooLong
returns-in-Err-TooLong c = long_at c.args.text.now c.in-Err-TooLong.left (rw c.in-Err-TooLong.field-0-is at c.in-Err-TooLong.ensures)

pub returns-in-Err-MomentFalls : goal.returns-in-Err-MomentFalls
returns-in-Err-MomentFalls c = falls_at c.args.text.now c.in-Err-MomentFalls.left (rw c.in-Err-MomentFalls.field-0-is at c.in-Err-MomentFalls.ensures)
