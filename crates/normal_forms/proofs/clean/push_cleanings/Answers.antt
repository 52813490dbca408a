use Rattle.std.proofs.Common.{Result, Ok, Err, OnOk}
use Rattle.msg_head.specs.Views.{field_line_of}
use Rattle.normal_forms.proofs.SideCleaned.{clean_one}
use Rattle.normal_forms.proofs.clean.push_cleanings.Goals as goal

on_ok : {T E P Q : Type 0} (result : Result T E) → (P → Q) → OnOk result P → OnOk result Q
on_ok (Ok v) f is = f is
on_ok (Err e) f is = tt

pub returns : goal.returns
returns c =
    on_ok c.push_trim.result
    (clean_one c.args.side c.args.index (field_line_of c.args.line) c.args.steps.now c.push_case.new.steps c.push_unfolds.new.steps c.push_trim.new.steps c.in_ok-push_case.ensures c.in_ok-push_unfolds.ensures)
    c.push_trim.ensures
