use Rattle.std.proofs.Common.{◌∷◌, List, ℕ, map, string_bytes, sym, subst, refl}
use Rattle.std.specs.Prelude.{codes}
use Rattle.command_line.specs.tools.Wrong.{AreCommand, HasFault}
use Rattle.command_line.proofs.Results.{if_none, if_some}
use Rattle.command_line.proofs.OtherFaults.{no_params}
use Rattle.command_line.proofs.fault.base_fault.Goals as goal

pub returns-in-None-clause-some : goal.returns-in-None-clause-some
returns-in-None-clause-some c = no_params (map string_bytes c.args.words.now) c.in-None.ensures.none

pub returns-in-Some-clause-none : goal.returns-in-Some-clause-none
returns-in-Some-clause-none c =
    if_none c.command_fault.result (λ is. subst (λ (words : List (List ℕ)). AreCommand (codes "base" ∷ words)) (sym c.in-Some.ensures.some) (is _ (_, refl))) c.command_fault.ensures.none

pub returns-in-Some-clause-some : goal.returns-in-Some-clause-some
returns-in-Some-clause-some c =
    if_some c.command_fault.result (λ fault is. subst (λ (words : List (List ℕ)). HasFault (codes "base" ∷ words) fault) (sym c.in-Some.ensures.some) (is _ (_, refl) tt)) c.command_fault.ensures.some
