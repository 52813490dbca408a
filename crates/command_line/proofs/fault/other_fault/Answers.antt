use Rattle.std.proofs.Common.{◌∷◌, List, ℕ, None, map, string_bytes, sym, subst}
use Rattle.std.specs.Prelude.{codes}
use Rattle.command_line.specs.Faults.{IsWordsFault}
use Rattle.command_line.specs.tools.Wrong.{AreCommand, HasFault}
use Rattle.command_line.specs.declared.fault.WordsReason.TheVariants.{LeftOver, NoCommand}
use Rattle.std.proofs.lemmas.Slice.Eq.{bytes_eq-Decides}
use Rattle.command_line.proofs.Results.{if_none, if_some}
use Rattle.command_line.proofs.OtherFaults.{no_command, no_words, text_command, text_left_over}
use Rattle.command_line.proofs.fault.other_fault.Goals as goal

pub returns-in_default-clause-some : goal.returns-in_default-clause-some
returns-in_default-clause-some c = no_words (map string_bytes c.args.words.now) c.in_default.ensures.none

pub returns-then-not-is_text_name-clause-some : goal.returns-then-not-is_text_name-clause-some
returns-then-not-is_text_name-clause-some c =
    subst (λ (words : List (List ℕ)). IsWordsFault words None NoCommand words) (sym c.in-Some.ensures.some)
    (no_command c.in-Some.name.now (map string_bytes c.in-Some.others.now) (rw c.in-Some.ensures.some at c.requires) (sym c.if-eq.ensures) (sym c.if-not-is_text_name.ensures))

pub returns-in_err-first_of-clause-none : goal.returns-in_err-first_of-clause-none
returns-in_err-first_of-clause-none c =
    let end = c.in_err-first_of.ensures.none in
    rw c.from_residual.ensures (subst (λ (words : List (List ℕ)). AreCommand words) (sym c.in-Some.ensures.some)
    (subst (λ (words : List (List ℕ)). AreCommand (c.in-Some.name.now ∷ words)) (sym end) (text_command c.in-Some.name.now (sym c.if-not-is_text_name.ensures))))

pub returns-clause-some : goal.returns-clause-some
returns-clause-some c =
    let rest = c.in_ok-first_of.ensures.some in
    subst (λ (words : List (List ℕ)). IsWordsFault words None LeftOver (map string_bytes c.in-Some.others.now)) (sym c.in-Some.ensures.some)
    (subst (λ (words : List (List ℕ)). IsWordsFault (c.in-Some.name.now ∷ words) None LeftOver words) (sym rest)
    (text_left_over c.in-Some.name.now _ _ (rw c.in-Some.ensures.some at c.requires) (sym c.if-eq.ensures) (sym c.if-not-is_text_name.ensures)))

pub returns-then-eq-clause-none : goal.returns-then-eq-clause-none
returns-then-eq-clause-none c =
    let help = (bytes_eq-Decides c.in-Some.name.now (codes "help")).0 (sym c.if-eq.ensures) in
    if_none c.topic_fault.result
    (λ is. subst (λ (words : List (List ℕ)). AreCommand words) (sym c.in-Some.ensures.some)
    (subst (λ (word : List ℕ). AreCommand (word ∷ map string_bytes c.in-Some.others.now)) (sym help) is)) c.topic_fault.ensures.none

pub returns-then-eq-clause-some : goal.returns-then-eq-clause-some
returns-then-eq-clause-some c =
    let help = (bytes_eq-Decides c.in-Some.name.now (codes "help")).0 (sym c.if-eq.ensures) in
    if_some c.topic_fault.result
    (λ fault is. subst (λ (words : List (List ℕ)). HasFault words fault) (sym c.in-Some.ensures.some)
    (subst (λ (word : List ℕ). HasFault (word ∷ map string_bytes c.in-Some.others.now) fault) (sym help) is)) c.topic_fault.ensures.some
