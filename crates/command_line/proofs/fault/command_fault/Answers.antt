use Rattle.std.proofs.Common.{map, string_bytes, sym}
use Rattle.command_line.proofs.FirstWords.{whole}
use Rattle.command_line.proofs.OptionFaults.{missing, none_yet, nothing_missing}
use Rattle.command_line.proofs.fault.command_fault.Goals as goal

pub returns-in-Err-clause-some : goal.returns-in-Err-clause-some
returns-in-Err-clause-some c start starts plain =
    c.in-Err.ensures.err start (map string_bytes c.args.words.now) starts (none_yet c.args.command c.new.result (map string_bytes c.args.words.now) c.new.ensures) plain

pub returns-in_err-option-clause-none : goal.returns-in_err-option-clause-none
returns-in_err-option-clause-none c = rw c.from_residual.ensures (λ start starts.
    let so_far = c.in-Ok.ensures.ok (map string_bytes c.args.words.now) (none_yet c.args.command c.new.result (map string_bytes c.args.words.now) c.new.ensures) in
    whole c.args.command start (map string_bytes c.args.words.now) starts
    (nothing_missing c.args.command start (map string_bytes c.args.words.now) c.in-Ok.found starts so_far (sym c.in_err-option.ensures)))

pub returns-clause-some : goal.returns-clause-some
returns-clause-some c start starts plain =
    let so_far = c.in-Ok.ensures.ok (map string_bytes c.args.words.now) (none_yet c.args.command c.new.result (map string_bytes c.args.words.now) c.new.ensures) in
    missing c.args.command start (map string_bytes c.args.words.now) c.in-Ok.found c.in_ok-option.option starts so_far (sym c.in_ok-option.ensures)
