use Rattle.std.proofs.Common.{List, ℕ, ◌∷◌, subst, sym}
use Rattle.command_options.specs.Names.{command_word}
use Rattle.command_line.specs.tools.Wrong.{AreCommand, HasFault}
use Rattle.command_line.proofs.Results.{if_none, if_some}
use Rattle.command_line.proofs.fault.plain_fault.Goals as goal

pub returns-in-Some-clause-none : goal.returns-in-Some-clause-none
returns-in-Some-clause-none c =
    if_none c.help_fault.result (λ is. subst (λ (words : List (List ℕ)). AreCommand (command_word c.args.command ∷ words)) (sym c.in-Some.ensures.some) is) c.help_fault.ensures.none

pub returns-in-Some-clause-some : goal.returns-in-Some-clause-some
returns-in-Some-clause-some c =
    if_some c.help_fault.result (λ fault is. subst (λ (words : List (List ℕ)). HasFault (command_word c.args.command ∷ words) fault) (sym c.in-Some.ensures.some) is) c.help_fault.ensures.some
