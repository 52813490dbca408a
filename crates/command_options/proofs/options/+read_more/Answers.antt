use Rattle.std.proofs.Common.{◌<◌, List, ℕ, length, map, string_bytes, sym, subst}
use Rattle.std.proofs.lemmas.List.{length-map}
use Rattle.command_options.specs.Found.{AreFoundBefore}
use Rattle.command_options.proofs.OptionLists.{all_found, one_more_found, none_left, none_left_over, none_next, some_left, if_none, if_some}
use Rattle.command_options.proofs.options.+read_more.Goals as goal

pub returns-then-is_empty-clause-some : goal.returns-then-is_empty-clause-some
returns-then-is_empty-clause-some n c =
    let none = none_left string_bytes c.args.words.now (sym c.if-is_empty.ensures) in
    λ all so_far. all_found c.args.command c.args.found all (subst (λ (left : List (List ℕ)). AreFoundBefore c.args.command c.args.found all left) none so_far)

pub returns-else-is_empty-clause-none : goal.returns-else-is_empty-clause-none
returns-else-is_empty-clause-none n c =
    let few : length (map string_bytes c.args.words.now) < 2 = rw (length-map c.args.words.now string_bytes) c.in_default.ensures.none in
    λ all options so_far. none_left_over c.args.command c.args.found all (map string_bytes c.args.words.now) so_far few
    (some_left string_bytes c.args.words.now (sym c.if-is_empty.ensures)) options

pub returns-in-None-clause-none : goal.returns-in-None-clause-none
returns-in-None-clause-none n c =
    λ all options so_far. none_next c.args.command c.args.found all (map string_bytes c.in-Some.after.now) c.in-Some.name.now c.in-Some.word.now
    (subst (λ (left : List (List ℕ)). AreFoundBefore c.args.command c.args.found all left) c.in-Some.ensures.some so_far) c.in-None.ensures.none options

pub returns-in-Some-add_option-clause-some : goal.returns-in-Some-add_option-clause-some
returns-in-Some-add_option-clause-some n c =
    if_some c.read_more.result (λ more has all so_far. has all (one_more_found c.args.command c.args.found c.in-Some-add_option.more all (map string_bytes c.in-Some.after.now)
    c.in-Some.name.now c.in-Some.word.now (subst (λ (left : List (List ℕ)). AreFoundBefore c.args.command c.args.found all left) c.in-Some.ensures.some so_far) c.in-Some-add_option.ensures.some))
    c.read_more.ensures.some

pub returns-in-Some-add_option-clause-none : goal.returns-in-Some-add_option-clause-none
returns-in-Some-add_option-clause-none n c =
    if_none c.read_more.result (λ none all options so_far. none all options (one_more_found c.args.command c.args.found c.in-Some-add_option.more all (map string_bytes c.in-Some.after.now)
    c.in-Some.name.now c.in-Some.word.now (subst (λ (left : List (List ℕ)). AreFoundBefore c.args.command c.args.found all left) c.in-Some.ensures.some so_far) c.in-Some-add_option.ensures.some))
    c.read_more.ensures.none
