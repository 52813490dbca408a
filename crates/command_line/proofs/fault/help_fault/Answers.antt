use Rattle.std.proofs.Common.{List, ℕ, ◌∷◌, subst, sym, Some}
use Rattle.std.specs.Prelude.{codes}
use Rattle.command_line.specs.Faults.{IsWordsFault}
use Rattle.command_options.specs.Names.{command_word}
use Rattle.command_line.specs.tools.Wrong.{AreCommand}
use Rattle.command_line.specs.declared.fault.WordsReason.TheVariants.{LeftOver}
use Rattle.command_line.proofs.OtherFaults.{help_command, help_left_over}
use Rattle.command_line.proofs.fault.help_fault.Goals as goal

pub returns-in_err-first_of-clause-none : goal.returns-in_err-first_of-clause-none
returns-in_err-first_of-clause-none c =
    let end = c.in_err-first_of.ensures.none in
    rw c.from_residual.ensures (subst (λ (words : List (List ℕ)). AreCommand (command_word c.args.command ∷ codes "--help" ∷ words)) (sym end) (help_command c.args.command))

pub returns-clause-some : goal.returns-clause-some
returns-clause-some c =
    let rest = c.in_ok-first_of.ensures.some in
    subst (λ (words : List (List ℕ)). IsWordsFault (command_word c.args.command ∷ codes "--help" ∷ words) (Some c.args.command) LeftOver words) (sym rest)
    (help_left_over c.args.command _ _ c.requires)
