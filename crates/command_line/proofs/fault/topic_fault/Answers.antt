use Rattle.std.proofs.Common.{List, ℕ, None, ◌∷◌, map, string_bytes, subst, sym}
use Rattle.std.specs.Prelude.{codes}
use Rattle.command_line.specs.Faults.{IsWordsFault}
use Rattle.command_line.specs.declared.fault.WordsReason.TheVariants.{LeftOver, NoCommand}
use Rattle.command_line.proofs.OtherFaults.{bad_topic, topic_alone, topic_left_over, topic_whole}
use Rattle.command_line.proofs.fault.topic_fault.Goals as goal

pub returns-in_default-clause-none : goal.returns-in_default-clause-none
returns-in_default-clause-none c = topic_alone (map string_bytes c.args.words.now) c.in_default.ensures.none

pub returns-in_default-of_word-clause-some : goal.returns-in_default-of_word-clause-some
returns-in_default-of_word-clause-some c =
    subst (λ (words : List (List ℕ)). IsWordsFault (codes "help" ∷ words) None NoCommand words) (sym c.in-Some.ensures.some)
    (bad_topic c.in-Some.name.now (map string_bytes c.in-Some.others.now) (sym c.in_default-of_word.ensures))

pub returns-in_err-first_of-clause-none : goal.returns-in_err-first_of-clause-none
returns-in_err-first_of-clause-none c = rw c.from_residual.ensures
    (topic_whole (map string_bytes c.args.words.now) c.in-Some.name.now (map string_bytes c.in-Some.others.now) _ c.in-Some.ensures.some c.in_err-first_of.ensures.none (sym c.in-Some-of_word.ensures))

pub returns-clause-some : goal.returns-clause-some
returns-clause-some c =
    let rest = c.in_ok-first_of.ensures.some in
    subst (λ (words : List (List ℕ)). IsWordsFault (codes "help" ∷ words) None LeftOver (map string_bytes c.in-Some.others.now)) (sym c.in-Some.ensures.some)
    (subst (λ (words : List (List ℕ)). IsWordsFault (codes "help" ∷ c.in-Some.name.now ∷ words) None LeftOver words) (sym rest)
    (topic_left_over c.in-Some.name.now _ _ _ (sym c.in-Some-of_word.ensures)))
