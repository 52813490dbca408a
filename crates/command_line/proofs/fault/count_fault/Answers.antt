use Rattle.std.proofs.Common.{◌∷◌, List, ℕ, Some, map, string_bytes, sym, subst}
use Rattle.std.specs.Prelude.{codes}
use Rattle.command_line.specs.Faults.{IsWordsFault}
use Rattle.command_line.specs.tools.Wrong.{AreCommand}
use Rattle.command_line.specs.declared.fault.WordsReason.TheVariants.{LeftOver, BadCount}
use Rattle.command_options.specs.declared.options.CommandName.TheVariants.{Sample}
use Rattle.command_line.proofs.OtherFaults.{bad_count, no_count, sample_left_over, sample_whole}
use Rattle.command_line.proofs.fault.count_fault.Goals as goal

pub returns-in_default-clause-some : goal.returns-in_default-clause-some
returns-in_default-clause-some c seed n is = no_count seed n (map string_bytes c.args.words.now) is c.in_default.ensures.none

pub returns-in_default-count_of-clause-some : goal.returns-in_default-count_of-clause-some
returns-in_default-count_of-clause-some c seed n is =
    subst (λ (words : List (List ℕ)). IsWordsFault (codes "sample" ∷ seed ∷ words) (Some Sample) BadCount words) (sym c.in-Some.ensures.some)
    (bad_count seed c.in-Some.count.now n (map string_bytes c.in-Some.after.now) is c.in_default-count_of.ensures.none)

pub returns-in_err-first_of-clause-none : goal.returns-in_err-first_of-clause-none
returns-in_err-first_of-clause-none c = rw c.from_residual.ensures (λ seed n is.
    let end = c.in_err-first_of.ensures.none in
    subst (λ (words : List (List ℕ)). AreCommand (codes "sample" ∷ seed ∷ words)) (sym c.in-Some.ensures.some)
    (subst (λ (words : List (List ℕ)). AreCommand (codes "sample" ∷ seed ∷ c.in-Some.count.now ∷ words)) (sym end)
    (sample_whole seed c.in-Some.count.now n _ is c.in-Some-count_of.ensures.some)))

pub returns-clause-some : goal.returns-clause-some
returns-clause-some c seed n is =
    let rest = c.in_ok-first_of.ensures.some in
    subst (λ (words : List (List ℕ)). IsWordsFault (codes "sample" ∷ seed ∷ words) (Some Sample) LeftOver (map string_bytes c.in-Some.after.now)) (sym c.in-Some.ensures.some)
    (subst (λ (words : List (List ℕ)). IsWordsFault (codes "sample" ∷ seed ∷ c.in-Some.count.now ∷ words) (Some Sample) LeftOver words) (sym rest)
    (sample_left_over seed c.in-Some.count.now _ n _ _ is c.in-Some-count_of.ensures.some))
