use Rattle.std.proofs.Common.{◌≡◌, ◌+◌, ℕ, length, Err, subst, arith}
use Rattle.byte_grammar.proofs.Indices.{all_at}
use Rattle.component_values.specs.Context.{answers_head, context_of}
use Rattle.rewrite_script.specs.Lines.{is_writable}
use Rattle.rewrites.specs.tools.Walked.{SaysGiven, count_in}
use Rattle.rewrites.proofs.Walking.{done, ended_more, ends_here, made_more, next_there}
use Rattle.rewrites.proofs.walks.walk.Goals as goal

pub made_after-requires-clause-writable : goal.made_after-requires-clause-writable
made_after-requires-clause-writable g c =
    let there = next_there c.args.steps.now c.in-Some.others.now c.in-Some.first.now c.loop-index.index c.index-others-index.result c.in-Some.ensures.cases.0 c.loop-index-test.true c.index-others-index.is in
    all_at is_writable c.args.steps.now (c.loop-index.index + 1) c.index-others-index.result c.requires.writable there

pub returns-in-Err-made_after : goal.returns-in-Err-made_after
returns-in-Err-made_after g c =
    let there = next_there c.args.steps.now c.in-Some.others.now c.in-Some.first.now c.loop-index.index c.index-others-index.result c.in-Some.ensures.cases.0 c.loop-index-test.true c.index-others-index.is in
    ended_more g.W.Watcher.judges (context_of c.args.context.now) c.args.watcher.now c.args.steps.now c.loop-index.index c.loop-index.watcher c.loop-index.made c.loop-index.invariant c.index-others-index.result there
    c.made_after.new.watcher c.in-Err-made_after.fault c.in-Err-made_after.ensures

pub loop-index-preserved : goal.loop-index-preserved
loop-index-preserved g c =
    let there = next_there c.args.steps.now c.in-Some.others.now c.in-Some.first.now c.loop-index.index c.index-others-index.result c.in-Some.ensures.cases.0 c.loop-index-test.true c.index-others-index.is in
    made_more g.W.Watcher.judges (context_of c.args.context.now) c.args.watcher.now c.args.steps.now c.loop-index.index c.loop-index.watcher c.loop-index.made c.loop-index.invariant c.index-others-index.result there
    c.made_after.new.watcher c.in-Ok-made_after.next c.in-Ok-made_after.ensures

pub returns-in-Err-given : goal.returns-in-Err-given
returns-in-Err-given g c =
    let context = context_of c.args.context.now in
    let last : length c.in-Some.others.now ≡ c.loop-index.index = omega (arith, c.loop-index.auto.index-end, c.loop-index-test.false) in
    ends_here g.W.Watcher.judges context c.args.watcher.now c.args.steps.now c.loop-index.index c.loop-index.watcher c.loop-index.made c.loop-index.invariant c.in-Err-given.fault
    (subst (λ (n : ℕ). SaysGiven (answers_head context.related) (count_in context) n c.loop-index.made (Err c.in-Err-given.fault)) last c.in-Err-given.ensures)

pub returns : goal.returns
returns g c =
    done g.W.Watcher.judges (context_of c.args.context.now) c.args.watcher.now c.args.steps.now c.loop-index.index c.loop-index.watcher c.loop-index.made c.loop-index.invariant
    (omega (arith, c.in-Some.ensures.cases.1, c.loop-index-test.false)) _ c.in-Ok-given.ensures.0 c.in-Ok-given.ensures.1
