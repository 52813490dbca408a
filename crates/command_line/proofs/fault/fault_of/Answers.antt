use Rattle.std.proofs.Common.{List, ℕ, ◌∷◌, map, string_bytes, subst, sym}
use Rattle.command_line.specs.tools.Wrong.{AreCommand, HasFault}
use Rattle.command_line.proofs.Results.{if_none, if_some}
use Rattle.command_line.proofs.SomeCommand.{name_is}
use Rattle.command_line.proofs.fault.fault_of.Goals as goal

pub returns-in-Some-of_word-clause-none : goal.returns-in-Some-of_word-clause-none
returns-in-Some-of_word-clause-none c =
    let named = name_is c.in-Some.name.now c.in-Some-of_word.command (sym c.in-Some-of_word.ensures) in
    if_none c.named_fault.result
    (λ is. subst (λ (words : List (List ℕ)). AreCommand words) (sym c.in-Some.ensures.some)
    (subst (λ (word : List ℕ). AreCommand (word ∷ map string_bytes c.in-Some.others.now)) (sym named) is)) c.named_fault.ensures.none

pub returns-in-Some-of_word-clause-some : goal.returns-in-Some-of_word-clause-some
returns-in-Some-of_word-clause-some c =
    let named = name_is c.in-Some.name.now c.in-Some-of_word.command (sym c.in-Some-of_word.ensures) in
    if_some c.named_fault.result
    (λ fault is. subst (λ (words : List (List ℕ)). HasFault words fault) (sym c.in-Some.ensures.some)
    (subst (λ (word : List ℕ). HasFault (word ∷ map string_bytes c.in-Some.others.now) fault) (sym named) is)) c.named_fault.ensures.some
