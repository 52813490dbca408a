use Rattle.std.proofs.Common.{◌∷◌, List, ℕ, Some, map, string_bytes, sym, subst}
use Rattle.std.specs.Prelude.{codes}
use Rattle.command_line.specs.Faults.{IsWordsFault}
use Rattle.command_line.specs.tools.Wrong.{AreCommand, HasFault}
use Rattle.command_line.specs.declared.fault.WordsReason.TheVariants.{BadSeed}
use Rattle.command_options.specs.declared.options.CommandName.TheVariants.{Sample}
use Rattle.command_line.proofs.Results.{if_none, if_some}
use Rattle.command_line.proofs.OtherFaults.{bad_seed, no_seed}
use Rattle.command_line.proofs.fault.sample_fault.Goals as goal

pub returns-in_default-clause-some : goal.returns-in_default-clause-some
returns-in_default-clause-some c plain = no_seed (map string_bytes c.args.words.now) c.in_default.ensures.none

pub returns-in_default-seed_of-clause-some : goal.returns-in_default-seed_of-clause-some
returns-in_default-seed_of-clause-some c plain =
    subst (λ (words : List (List ℕ)). IsWordsFault (codes "sample" ∷ words) (Some Sample) BadSeed words) (sym c.in-Some.ensures.some)
    (bad_seed c.in-Some.seed.now (map string_bytes c.in-Some.others.now) (plain c.in-Some.seed.now (map string_bytes c.in-Some.others.now) c.in-Some.ensures.some) c.in_default-seed_of.ensures.none)

pub returns-clause-none : goal.returns-clause-none
returns-clause-none c =
    if_none c.count_fault.result (λ is. subst (λ (words : List (List ℕ)). AreCommand (codes "sample" ∷ words)) (sym c.in-Some.ensures.some)
    (is c.in-Some.seed.now _ c.in-Some-seed_of.ensures.some)) c.count_fault.ensures.none

pub returns-clause-some : goal.returns-clause-some
returns-clause-some c =
    if_some c.count_fault.result (λ fault is plain. subst (λ (words : List (List ℕ)). HasFault (codes "sample" ∷ words) fault) (sym c.in-Some.ensures.some)
    (is c.in-Some.seed.now _ c.in-Some-seed_of.ensures.some)) c.count_fault.ensures.some
