use Rattle.std.proofs.Common.{◌++◌, ◌∷◌, List, ℕ, Some, map, string_bytes, sym, subst, refl}
use Rattle.command_line.specs.tools.Wrong.{AreFound}
use Rattle.command_line.specs.Faults.{IsWordsFault}
use Rattle.command_line.specs.declared.fault.WordsReason.TheVariants.{NoWord, BadWord}
use Rattle.command_line.proofs.OptionFaults.{name_wrong, no_word_after, word_wrong}
use Rattle.command_line.proofs.fault.next_words.Goals as goal

pub returns-in-Err-clause-err : goal.returns-in-Err-clause-err
returns-in-Err-clause-err c start all starts so_far plain =
    subst (λ (words : List (List ℕ)). IsWordsFault (start ++ all) (Some c.args.command) c.in-Err.reason words) (sym c.in-Some.ensures.some)
    (name_wrong c.args.command start all c.args.found c.in-Some.name.now (map string_bytes c.in-Some.others.now) c.in-Err.reason starts
    (subst (λ (words : List (List ℕ)). AreFound c.args.command c.args.found all words) c.in-Some.ensures.some so_far) plain c.in-Err.ensures.err)

pub returns-in_default-first_of-clause-err : goal.returns-in_default-first_of-clause-err
returns-in_default-first_of-clause-err c start all starts so_far plain =
    let none = c.in_default-first_of.ensures.none in
    let whole = subst (λ (words : List (List ℕ)). AreFound c.args.command c.args.found all words) c.in-Some.ensures.some so_far in
    subst (λ (words : List (List ℕ)). IsWordsFault (start ++ all) (Some c.args.command) (NoWord c.in-Ok.option) words) (sym none)
    (no_word_after c.args.command start all c.args.found c.in-Some.name.now c.in-Ok.option starts
    (subst (λ (words : List (List ℕ)). AreFound c.args.command c.args.found all (c.in-Some.name.now ∷ words)) none whole) c.in-Ok.ensures.ok)

pub returns-then-not-may_have-clause-err : goal.returns-then-not-may_have-clause-err
returns-then-not-may_have-clause-err c start all starts so_far plain =
    let joined = c.in-Some-first_of.ensures.some in
    let whole = subst (λ (words : List (List ℕ)). AreFound c.args.command c.args.found all words) c.in-Some.ensures.some so_far in
    subst (λ (words : List (List ℕ)). IsWordsFault (start ++ all) (Some c.args.command) (BadWord c.in-Ok.option) words) (sym joined)
    (word_wrong c.args.command start all c.args.found c.in-Some.name.now c.in-Some-first_of.word.now (map string_bytes c.in-Some-first_of.after.now) c.in-Ok.option starts
    (subst (λ (words : List (List ℕ)). AreFound c.args.command c.args.found all (c.in-Some.name.now ∷ words)) joined whole) plain c.in-Ok.ensures.ok
    (sym c.if-not-may_have.ensures))

pub returns-clause-ok : goal.returns-clause-ok
returns-clause-ok c = record {
  name = c.in-Some.name.now;
  joined = rw (c.in-Some.ensures.some, c.in-Some-first_of.ensures.some) refl;
  is_next = c.in-Ok.ensures.ok;
  had = sym c.if-not-may_have.ensures;
}
