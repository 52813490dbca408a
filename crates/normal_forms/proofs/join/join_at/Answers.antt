use Rattle.std.proofs.Common.{Result, Ok, Err, OnOk, arith}
use Rattle.normal_forms.proofs.SideJoined.{joins_at}
use Rattle.normal_forms.proofs.join.join_at.Goals as goal

on_ok : {T E P Q : Type 0} (result : Result T E) → (P → Q) → OnOk result P → OnOk result Q
on_ok (Ok v) f is = f is
on_ok (Err e) f is = tt

pub returns-clause-lines : goal.returns-clause-lines
returns-clause-lines c =
    on_ok c.join.result
    (joins_at c.args.lines.now.items c.remove-other.new.self.items c.args.index c.args.later c.index_mut.result.now c.remove-other.result c.join.new.self (omega (arith, c.args.lines.now.ok.0)) c.remove-other.ensures.by_index.2 c.remove-other.ensures.value c.index_mut.ensures.value)
    c.join.ensures
