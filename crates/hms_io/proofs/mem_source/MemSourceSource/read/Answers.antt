use Rattle.std.proofs.Common.{◌+◌, ◌≤◌, ◌∙◌, ap, sym, length, drop, arith}
use Rattle.std.proofs.lemmas.Grind.{common_steps}
use Rattle.std.proofs.lemmas.List.{drop_all}
use Rattle.hms_io.proofs.Known.{given_prefix}
use Rattle.hms_io.proofs.mem_source.MemSourceSource.read.Goals as goal

pub returns-clause-bytes : goal.returns-clause-bytes
returns-clause-bytes c =
    let s = c.self.inside in
    let n = c.min-amount.result in
    let within : s.at + n ≤ length s.bytes.items = grind (arith, common_steps) in
    let given = rw c.deref.ensures.value at c.copy_from_slice.ensures.after in
    let prefix = given_prefix s.bytes.items c.copy_from_slice.new.self (drop n c.args.into.now) s.at n within given in
    let first = ap (λ v. v.left) (sym c.self.view_is) ∙ prefix in
    (first, λ none room. drop_all (s.at + n) s.bytes.items (grind (arith, common_steps)))
