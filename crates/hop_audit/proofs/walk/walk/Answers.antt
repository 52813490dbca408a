use Rattle.component_values.specs.Context.{context_of}
use Rattle.hop_audit.proofs.WalkSteps.{walk_done, walk_stopped}
use Rattle.hop_audit.proofs.walk.walk.Goals as goal

pub returns-in-Ok : goal.returns-in-Ok
returns-in-Ok c =
    walk_done (context_of c.args.context.now) c.args.marks.now c.requires.marks c.args.script.now c.walk.new.watcher c.in-Ok.text c.requires.writable c.requires.values c.in-Ok.ensures

pub returns-in-Err-NotApplicable : goal.returns-in-Err-NotApplicable
returns-in-Err-NotApplicable c =
    walk_stopped (context_of c.args.context.now) c.args.marks.now c.requires.marks c.args.script.now c.walk.new.watcher c.in-Err-NotApplicable.index
    (rw c.in-Err-NotApplicable.field-0-is at c.in-Err-NotApplicable.ensures)
