use Rattle.hop_audit.proofs.ItemTexts.{script_refused}
use Rattle.hop_audit.proofs.read.item_script.Goals as goal

pub returns-in-Err : goal.returns-in-Err
returns-in-Err c =
    rw c.script_fault.ensures (script_refused c.args.item c.args.text.now c.in-Err.fault c.if-text-gt-MAX_SCRIPT_BYTES.false c.in-Err.ensures.fault)
