use Rattle.std.proofs.Common.{List, ℕ, map, string_bytes, subst}
use Rattle.command_line.specs.tools.Wrong.{AreFound}
use Rattle.command_line.proofs.OptionFaults.{at_end, at_next, if_err, if_ok, next_found}
use Rattle.command_line.proofs.fault.+options_or_fault.Goals as goal

pub returns-in-Ok-None-clause-ok : goal.returns-in-Ok-None-clause-ok
returns-in-Ok-None-clause-ok n c all so_far =
    subst (λ (words : List (List ℕ)). AreFound c.args.command c.args.found all words)
    (at_end c.args.command c.args.found (map string_bytes c.args.words.now) c.in-Ok-None.field-0 c.in-Ok-None.ensures.ok c.in-Ok-None.field-0-is) so_far

pub returns-in-Ok-Some-clause-ok : goal.returns-in-Ok-Some-clause-ok
returns-in-Ok-Some-clause-ok n c =
    let next = at_next c.args.command c.args.found (map string_bytes c.args.words.now) c.in-Ok-Some.field-0 c.in-Ok-Some.next c.in-Ok-Some.ensures.ok c.in-Ok-Some.field-0-is in
    if_ok c.options_or_fault.result
    (λ more has all so_far. has all (next_found c.args.command c.args.found c.with.result all (map string_bytes c.args.words.now) c.in-Ok-Some.next next c.with.ensures so_far))
    c.options_or_fault.ensures.ok

pub returns-in-Ok-Some-clause-err : goal.returns-in-Ok-Some-clause-err
returns-in-Ok-Some-clause-err n c =
    let next = at_next c.args.command c.args.found (map string_bytes c.args.words.now) c.in-Ok-Some.field-0 c.in-Ok-Some.next c.in-Ok-Some.ensures.ok c.in-Ok-Some.field-0-is in
    if_err c.options_or_fault.result
    (λ fault has start all starts so_far plain. has start all starts
    (next_found c.args.command c.args.found c.with.result all (map string_bytes c.args.words.now) c.in-Ok-Some.next next c.with.ensures so_far) plain)
    c.options_or_fault.ensures.err
