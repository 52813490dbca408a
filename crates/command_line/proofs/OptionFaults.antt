-- Why words are no options of a command.
use Rattle.std.proofs.Common.{◌≡◌, ◌⊎◌, ℕ, Bool, true, false, ◌||◌, List, [], ◌∷◌, ◌++◌, Option, Some, None, inl, inr, refl, sym, ap, subst, ◌∙◌, append_assoc}
use Rattle.std.specs.Prelude.{codes, not, is_none, is_some, if◌then◌else◌, option_map, unwrap_or, IfErr, IfOk, Result, Ok, Err, map, string_bytes}
use Rattle.std.specs.List.{find, list_any}
use Rattle.std.specs.Str.{bytes_eq}
use Rattle.std.proofs.lemmas.Bool.{cases_Bool, false≢true}
use Rattle.std.proofs.lemmas.List.{append-nil}
use Rattle.std.proofs.lemmas.Slice.Eq.{bytes_eq-Decides}
use Rattle.sfv_text.specs.Keys.{has_key, value_of}
use Rattle.sfv_text.specs.declared.pair.Pair.{Pair}
use Rattle.command_line.specs.Command.{IsCommand}
use Rattle.command_line.specs.Faults.{BeginsCommand, AreParted, Exclude, HasOption, IsReason, IsStart, IsWordsFault, Need}
use Rattle.command_options.specs.Names.{command_word, first_command}
use Rattle.command_options.specs.Options.{is_taken_by, option_of, row_of, takes, words_of, AreOptions}
use Rattle.command_line.specs.declared.fault.NextWords.{NextWords}
use Rattle.command_line.specs.declared.fault.WordsReason.{WordsReason}
use Rattle.command_line.specs.declared.fault.WordsReason.TheVariants.{NoWords, NoCommand, LeftOver, NotTaken, Twice, Excluded, NoWord, BadWord, Missing, NoParams, NoSeed, BadSeed, NoCount, BadCount}
use Rattle.command_options.specs.declared.options.CommandName.{CommandName}
use Rattle.command_options.specs.declared.options.CommandName.TheVariants as name
use Rattle.command_options.specs.declared.options.CommandOption.{CommandOption}
use Rattle.command_options.specs.declared.options.CommandOption.TheVariants.{Conf, Now, Label, Request, Nonce, Wanted, Script, Other, Into}
use Rattle.command_options.specs.declared.options.OptionWords.{OptionWords}
use Rattle.command_options.specs.Found.{excluding_in, word_in, AreWordsOf}
use Rattle.command_line.specs.tools.Wrong.{needed, AreFound, AreNextWords, BeginsNoHelp, IsFoundAlone, IsNameReason, IsNextName, IsNextOrEnd}
use Rattle.command_line.proofs.Completions.{alone_for, alone_with, begins_name, begins_options, example, none_with, pair_of}
use Rattle.command_line.proofs.FirstWords.{HasAll, HasOne, IsAlone, IsAloneFor, IsOptionLine, NotHelp, started, started_plain}
use Rattle.command_options.proofs.OptionLists.{begins, comes_next, found_none, name_is, none_found_yet, one_more_found, value_none}

no_word : (found : Option (List ℕ)) (word : List ℕ) → found ≡ None → found ≡ Some word → ⊥
no_word found word none some = let e : None ≡ Some word = sym none ∙ some in absurd cc

-- ---- what was found

found_alone : (a b : Option (List ℕ)) → (is_none a || is_none b) ≡ true → (a ≡ None) ⊎ (b ≡ None)
found_alone None b alone = inl refl
found_alone (Some x) None alone = inr refl
found_alone (Some x) (Some y) alone = absurd (false≢true alone)

is_alone : (found : OptionWords) (done : List (Pair (List ℕ))) → AreWordsOf found done → IsFoundAlone found → IsAlone done
is_alone found done are alone = elim (found_alone (word_in found Nonce) (word_in found Wanted) alone) [
  | inl none ↦ inl (sym (are Nonce) ∙ none)
  | inr none ↦ inr (sym (are Wanted) ∙ none)
]

-- the words of an option that has none yet aren't among those found
is_new : (found : OptionWords) (done : List (Pair (List ℕ))) (option : CommandOption) → AreWordsOf found done → word_in found option ≡ None
    → list_any (has_key (row_of option).word) done ≡ false
is_new found done option are none = found_none (row_of option).word done (sym (are option) ∙ none)

if_none : (x : Option (List ℕ)) (other : CommandOption) → (if is_some x then Some other else None) ≡ None → x ≡ None
if_none None other e = refl
if_none (Some word) other e = absurd cc

if_some : (x : Option (List ℕ)) (other given : CommandOption) → (if is_some x then Some other else None) ≡ Some given → (other ≡ given) × ((word : List ℕ) × (x ≡ Some word))
if_some None other given e = absurd cc
if_some (Some word) other given e = (cc, (word, refl))

first : (a b : Option (List ℕ)) → a ≡ None → (is_none a || is_none b) ≡ true
first a b none = rw none refl

second : (a b : Option (List ℕ)) → b ≡ None → (is_none a || is_none b) ≡ true
second None b none = refl
second (Some x) b none = rw none refl

either : (a b c d : Option (List ℕ)) → a ≡ c → b ≡ d → (c ≡ None) ⊎ (d ≡ None) → (is_none a || is_none b) ≡ true
either a b c d x y alone = elim alone [ inl none ↦ first a b (x ∙ none) | inr none ↦ second a b (y ∙ none) ]

-- with an option that can come next
next_alone : (option : CommandOption) (found : OptionWords) (done : List (Pair (List ℕ))) (word : List ℕ) → AreWordsOf found done → IsAlone done
    → list_any (has_key (row_of option).word) done ≡ false → excluding_in found option ≡ None → IsAlone (done ++ pair_of option word ∷ [])
next_alone Conf found done word are alone new none = alone_with done Conf word new refl alone
next_alone Now found done word are alone new none = alone_with done Now word new refl alone
next_alone Label found done word are alone new none = alone_with done Label word new refl alone
next_alone Request found done word are alone new none = alone_with done Request word new refl alone
next_alone Nonce found done word are alone new none = inr (none_with done Nonce word (codes "--wanted") new refl (sym (are Wanted) ∙ if_none (word_in found Wanted) Wanted none))
next_alone Wanted found done word are alone new none = inl (none_with done Wanted word (codes "--nonce") new refl (sym (are Nonce) ∙ if_none (word_in found Nonce) Nonce none))
next_alone Script found done word are alone new none = alone_with done Script word new refl alone
next_alone Other found done word are alone new none = alone_with done Other word new refl alone
next_alone Into found done word are alone new none = alone_with done Into word new refl alone

pub none_yet : (command : CommandName) (found : OptionWords) (words : List (List ℕ)) → ((option : CommandOption) → word_in found option ≡ None)
    → AreFound command found words words
none_yet command found words none = record { before = none_found_yet command found words none; alone = rw (none Nonce) refl }

-- with one more
pub one_more : (command : CommandName) (found now : OptionWords) (words after : List (List ℕ)) (name word : List ℕ) (option : CommandOption)
    → AreFound command found words (name ∷ word ∷ after) → IsNextName command found name option → (row_of option).may_have word ≡ true
    → ((other : CommandOption) → word_in now other ≡ (if bytes_eq (row_of option).word (row_of other).word then Some word else word_in found other))
    → AreFound command now words after
one_more command found now words after name word option so_far next had added = record {
  before = one_more_found command found now words after name word so_far.before
      (record { option = option; next = record { named = next.named; is_new = next.is_new; taken = next.taken; had = had }; added = added });
  alone = with_next option found now word (found_alone (word_in found Nonce) (word_in found Wanted) so_far.alone) next.alone added;
}
  where
    with_next : (option : CommandOption) (found now : OptionWords) (word : List ℕ) → (word_in found Nonce ≡ None) ⊎ (word_in found Wanted ≡ None)
        → excluding_in found option ≡ None
        → ((other : CommandOption) → word_in now other ≡ (if bytes_eq (row_of option).word (row_of other).word then Some word else word_in found other))
        → IsFoundAlone now
    with_next Conf found now word alone none added = either (word_in now Nonce) (word_in now Wanted) (word_in found Nonce) (word_in found Wanted) (added Nonce) (added Wanted) alone
    with_next Now found now word alone none added = either (word_in now Nonce) (word_in now Wanted) (word_in found Nonce) (word_in found Wanted) (added Nonce) (added Wanted) alone
    with_next Label found now word alone none added = either (word_in now Nonce) (word_in now Wanted) (word_in found Nonce) (word_in found Wanted) (added Nonce) (added Wanted) alone
    with_next Request found now word alone none added = either (word_in now Nonce) (word_in now Wanted) (word_in found Nonce) (word_in found Wanted) (added Nonce) (added Wanted) alone
    with_next Script found now word alone none added = either (word_in now Nonce) (word_in now Wanted) (word_in found Nonce) (word_in found Wanted) (added Nonce) (added Wanted) alone
    with_next Other found now word alone none added = either (word_in now Nonce) (word_in now Wanted) (word_in found Nonce) (word_in found Wanted) (added Nonce) (added Wanted) alone
    with_next Into found now word alone none added = either (word_in now Nonce) (word_in now Wanted) (word_in found Nonce) (word_in found Wanted) (added Nonce) (added Wanted) alone
    with_next Nonce found now word alone none added = second (word_in now Nonce) (word_in now Wanted) (added Wanted ∙ if_none (word_in found Wanted) Wanted none)
    with_next Wanted found now word alone none added = first (word_in now Nonce) (word_in now Wanted) (added Nonce ∙ if_none (word_in found Nonce) Nonce none)

-- ---- the words after those found

-- one of them is the name of an option
at_name : (done options : List (Pair (List ℕ))) (word : List ℕ) (more : List (List ℕ)) → words_of done ++ word ∷ more ≡ words_of options
    → (p : Pair (List ℕ)) × (others : List (Pair (List ℕ))) × (options ≡ done ++ p ∷ others) × (word ≡ p.key)
at_name done options word more same =
    let rest = begins done options (word ∷ more) same in
    let first = first_pair rest.0 rest.2 in
    (first.0, first.1, rest.1 ∙ ap (λ (all : List (Pair (List ℕ))). done ++ all) first.2, first.3)
  where
    first_pair : (rest : List (Pair (List ℕ))) → word ∷ more ≡ words_of rest → (p : Pair (List ℕ)) × (others : List (Pair (List ℕ))) × (rest ≡ p ∷ others) × (word ≡ p.key)
    first_pair [] e = absurd cc
    first_pair (p ∷ others) e = (p, others, refl, cc)

-- and the next one is its word
at_word : (done options : List (Pair (List ℕ))) (word next : List ℕ) (more : List (List ℕ)) → words_of done ++ word ∷ next ∷ more ≡ words_of options
    → (p : Pair (List ℕ)) × (others : List (Pair (List ℕ))) × (options ≡ done ++ p ∷ others) × (word ≡ p.key) × (next ≡ p.value)
at_word done options word next more same =
    let rest = begins done options (word ∷ next ∷ more) same in
    let others = begins (record { key = word; value = next } ∷ []) rest.0 more rest.2 in
    (record { key = word; value = next }, others.0, rest.1 ∙ ap (λ (all : List (Pair (List ℕ))). done ++ all) others.1, refl, refl)

joined_twice : (a b c d : List (List ℕ)) → ((a ++ b) ++ c) ++ d ≡ a ++ (b ++ (c ++ d))
joined_twice a b c d = append_assoc (a ++ b) c d ∙ append_assoc a b (c ++ d)

-- the options of a command that these words begin
line_with : (command : CommandName) (start done next : List (List ℕ)) → IsStart command start → (begun : BeginsCommand ((start ++ done) ++ next))
    → NotHelp command (done ++ (next ++ begun.0)) → IsOptionLine command (done ++ (next ++ begun.0))
line_with command start done next starts begun none =
    let is = subst (λ (words : List (List ℕ)). IsCommand words begun.1) (joined_twice start done next begun.0) begun.2 in
    started command start (done ++ (next ++ begun.0)) begun.1 starts is (started_plain command start (done ++ (next ++ begun.0)) begun.1 starts is none)

-- a word that begins no help isn't all of it
plain_at : (all : List (List ℕ)) (done : List (Pair (List ℕ))) (name : List ℕ) (after more : List (List ℕ))
    → ((word : List ℕ) (after : List (List ℕ)) → all ≡ word ∷ after → bytes_eq word (codes "--help") ≡ false)
    → all ≡ words_of done ++ name ∷ after → words_of done ++ name ∷ more ≡ codes "--help" ∷ [] → ⊥
plain_at all [] name after more plain joined asks = false≢true (sym (plain name after joined) ∙ (bytes_eq-Decides name (codes "--help")).1 (first_word name more asks))
  where
    first_word : (name : List ℕ) (more : List (List ℕ)) → name ∷ more ≡ codes "--help" ∷ [] → name ≡ codes "--help"
    first_word name more e = cc
plain_at all (p ∷ done) name after more plain joined asks = absurd cc

some_words : (done : List (Pair (List ℕ))) (name : List ℕ) (more : List (List ℕ)) → words_of done ++ name ∷ more ≡ [] → ⊥
some_words [] name more e = absurd cc
some_words (p ∷ done) name more e = absurd cc

not_help : (command : CommandName) (all : List (List ℕ)) (done : List (Pair (List ℕ))) (name : List ℕ) (after more : List (List ℕ)) → BeginsNoHelp command all
    → all ≡ words_of done ++ name ∷ after → NotHelp command (words_of done ++ name ∷ more)
not_help name.Base all done word after more plain joined = some_words done word more
not_help name.Verify all done word after more plain joined = plain_at all done word after more plain joined
not_help name.Sign all done word after more plain joined = plain_at all done word after more plain joined
not_help name.Rewrite all done word after more plain joined = plain_at all done word after more plain joined
not_help name.Explain all done word after more plain joined = plain_at all done word after more plain joined
not_help name.Audit all done word after more plain joined = plain_at all done word after more plain joined
not_help name.Gateway all done word after more plain joined = plain_at all done word after more plain joined
not_help name.Lists all done word after more plain joined = plain_at all done word after more plain joined
not_help name.Negotiate all done word after more plain joined = plain_at all done word after more plain joined
not_help name.Sample all done word after more plain joined = plain_at all done word after more plain joined

-- ---- no such option can come next

there_is : (key : List ℕ) (done others : List (Pair (List ℕ))) (p : Pair (List ℕ)) → key ≡ p.key → value_of (done ++ p ∷ others) key ≡ None → ⊥
there_is key done others p same none =
    let there : list_any (has_key key) (done ++ p ∷ others) ≡ true = at_end done in
    false≢true (sym (found_none key (done ++ p ∷ others) none) ∙ there)
  where
    at_end : (done : List (Pair (List ℕ))) → list_any (has_key key) (done ++ p ∷ others) ≡ true
    at_end [] = rw ((bytes_eq-Decides p.key key).1 (sym same)) refl
    at_end (q ∷ done) = elim (cases_Bool (has_key key q)) [
      | inl is ↦ rw is refl
      | inr isnt ↦ rw isnt (at_end done)
    ]

-- a word that was found is there with more options
found_with : (key word : List ℕ) (done rest : List (Pair (List ℕ))) → value_of done key ≡ Some word → value_of (done ++ rest) key ≡ Some word
found_with key word [] rest some = absurd cc
found_with key word (q ∷ done) rest some = elim (cases_Bool (has_key key q)) [
  | inl is ↦ rw is (rw is at some)
  | inr isnt ↦ rw isnt (found_with key word done rest (rw isnt at some))
]

-- both of two that exclude each other aren't in the options of a command
both_there : (option given : CommandOption) (command : CommandName) (found : OptionWords) (done others : List (Pair (List ℕ))) (p : Pair (List ℕ))
    → is_taken_by command option ≡ true → excluding_in found option ≡ Some given → AreWordsOf found done → p.key ≡ (row_of option).word
    → IsAloneFor command (done ++ p ∷ others) → ⊥
both_there Conf given command found done others p taken excluded are same alone = absurd cc
both_there Now given command found done others p taken excluded are same alone = absurd cc
both_there Label given command found done others p taken excluded are same alone = absurd cc
both_there Request given command found done others p taken excluded are same alone = absurd cc
both_there Script given command found done others p taken excluded are same alone = absurd cc
both_there Other given command found done others p taken excluded are same alone = absurd cc
both_there Into given command found done others p taken excluded are same alone = absurd cc
both_there Nonce given name.Sign found done others p taken excluded are same alone =
    let wanted = (if_some (word_in found Wanted) Wanted given excluded).1 in
    elim alone [
      | inl none ↦ there_is (codes "--nonce") done others p (sym same) none
      | inr none ↦ no_word (value_of (done ++ p ∷ others) (codes "--wanted")) wanted.0 none (found_with (codes "--wanted") wanted.0 done (p ∷ others) (sym (are Wanted) ∙ wanted.1))
    ]
both_there Nonce given name.Base found done others p taken excluded are same alone = false≢true taken
both_there Nonce given name.Verify found done others p taken excluded are same alone = false≢true taken
both_there Nonce given name.Rewrite found done others p taken excluded are same alone = false≢true taken
both_there Nonce given name.Explain found done others p taken excluded are same alone = false≢true taken
both_there Nonce given name.Audit found done others p taken excluded are same alone = false≢true taken
both_there Nonce given name.Gateway found done others p taken excluded are same alone = false≢true taken
both_there Nonce given name.Lists found done others p taken excluded are same alone = false≢true taken
both_there Nonce given name.Negotiate found done others p taken excluded are same alone = false≢true taken
both_there Nonce given name.Sample found done others p taken excluded are same alone = false≢true taken
both_there Wanted given name.Sign found done others p taken excluded are same alone =
    let nonce = (if_some (word_in found Nonce) Nonce given excluded).1 in
    elim alone [
      | inl none ↦ no_word (value_of (done ++ p ∷ others) (codes "--nonce")) nonce.0 none (found_with (codes "--nonce") nonce.0 done (p ∷ others) (sym (are Nonce) ∙ nonce.1))
      | inr none ↦ there_is (codes "--wanted") done others p (sym same) none
    ]
both_there Wanted given name.Base found done others p taken excluded are same alone = false≢true taken
both_there Wanted given name.Verify found done others p taken excluded are same alone = false≢true taken
both_there Wanted given name.Rewrite found done others p taken excluded are same alone = false≢true taken
both_there Wanted given name.Explain found done others p taken excluded are same alone = false≢true taken
both_there Wanted given name.Audit found done others p taken excluded are same alone = false≢true taken
both_there Wanted given name.Gateway found done others p taken excluded are same alone = false≢true taken
both_there Wanted given name.Lists found done others p taken excluded are same alone = false≢true taken
both_there Wanted given name.Negotiate found done others p taken excluded are same alone = false≢true taken
both_there Wanted given name.Sample found done others p taken excluded are same alone = false≢true taken

taken_key : (command : CommandName) (found : OptionWords) (done others : List (Pair (List ℕ))) (p : Pair (List ℕ)) (words : List (List ℕ))
    → AreOptions command words (done ++ p ∷ others) → AreWordsOf found done → takes command p.key ≡ true
taken_key command found done others p words are are_found =
    let next = comes_next command found done others p words are are_found in
    ap (λ (o : Option CommandOption). unwrap_or (option_map (is_taken_by command) o) false) next.1.named ∙ next.1.taken

one_option : (option other : CommandOption) → Some option ≡ Some other → option ≡ other
one_option option other e = cc

not_next : (reason : WordsReason) (command : CommandName) (found : OptionWords) (done others : List (Pair (List ℕ))) (p : Pair (List ℕ)) (name : List ℕ) (words : List (List ℕ))
    → IsNameReason command found name reason → AreWordsOf found done → name ≡ p.key → AreOptions command words (done ++ p ∷ others)
    → IsAloneFor command (done ++ p ∷ others) → ⊥
not_next (NotTaken other) command found done others p name words is are_found same are alone =
    false≢true (sym is.1 ∙ (ap (takes command) same ∙ taken_key command found done others p words are are_found))
not_next (Twice other option) command found done others p name words is are_found same are alone =
    let next = comes_next command found done others p words are are_found in
    let option_is : next.0 ≡ option = one_option next.0 option (sym next.1.named ∙ (ap option_of (sym same) ∙ is.1)) in
    let none : word_in found option ≡ None = subst (λ (o : CommandOption). word_in found o ≡ None) option_is next.1.is_new in
    false≢true (ap (λ (x : Option (List ℕ)). is_some x) (sym none) ∙ is.2)
not_next (Excluded option given) command found done others p name words is are_found same are alone =
    both_there option given command found done others p is.1 is.2 are_found (sym same ∙ name_is name option is.0) alone
not_next NoWords command found done others p name words is are_found same are alone = is
not_next NoCommand command found done others p name words is are_found same are alone = is
not_next LeftOver command found done others p name words is are_found same are alone = is
not_next (NoWord option) command found done others p name words is are_found same are alone = is
not_next (BadWord option) command found done others p name words is are_found same are alone = is
not_next (Missing other option) command found done others p name words is are_found same are alone = is
not_next NoParams command found done others p name words is are_found same are alone = is
not_next NoSeed command found done others p name words is are_found same are alone = is
not_next BadSeed command found done others p name words is are_found same are alone = is
not_next NoCount command found done others p name words is are_found same are alone = is
not_next BadCount command found done others p name words is are_found same are alone = is

pub if_ok : {T E : Type 0} {P Q : T → Type 0} (result : Result T E) → ((x : T) → P x → Q x) → IfOk result P → IfOk result Q
if_ok (Ok x) f p = f x p
if_ok (Err e) f p = p

pub if_err : {T E : Type 0} {P Q : E → Type 0} (result : Result T E) → ((e : E) → P e → Q e) → IfErr result P → IfErr result Q
if_err (Ok x) f p = p
if_err (Err e) f p = f e p

-- ---- the next words

pub at_end : (command : CommandName) (found : OptionWords) (words : List (List ℕ)) (next : Option NextWords) → IsNextOrEnd command found words next → next ≡ None → words ≡ []
at_end command found words next is none = subst (λ (x : Option NextWords). IsNextOrEnd command found words x) none is

pub at_next : (command : CommandName) (found : OptionWords) (words : List (List ℕ)) (next : Option NextWords) (some : NextWords) → IsNextOrEnd command found words next
    → next ≡ Some some → AreNextWords command found words some
at_next command found words next some is same = subst (λ (x : Option NextWords). IsNextOrEnd command found words x) same is

-- with them those that were found are more
pub next_found : (command : CommandName) (found now : OptionWords) (all words : List (List ℕ)) (next : NextWords) → AreNextWords command found words next
    → ((other : CommandOption) → word_in now other ≡ (if bytes_eq (row_of next.option).word (row_of other).word then Some next.word.now else word_in found other))
    → AreFound command found all words → AreFound command now all (map string_bytes next.after.now)
next_found command found now all words next is added so_far =
    one_more command found now all (map string_bytes next.after.now) is.name next.word.now next.option
    (subst (λ (left : List (List ℕ)). AreFound command found all left) is.joined so_far) is.is_next is.had added

-- a command with options has its name alone before them
pub plain_start : (command : CommandName) → (command ≡ name.Base → ⊥) → (command ≡ name.Sample → ⊥) → IsStart command (command_word command ∷ [])
plain_start name.Base base sample = absurd (base refl)
plain_start name.Verify base sample = refl
plain_start name.Sign base sample = refl
plain_start name.Rewrite base sample = refl
plain_start name.Explain base sample = refl
plain_start name.Audit base sample = refl
plain_start name.Gateway base sample = refl
plain_start name.Lists base sample = refl
plain_start name.Negotiate base sample = refl
plain_start name.Sample base sample = absurd (sample refl)

-- words of which none begins with `--help`
pub plain_words : (command : CommandName) (words : List (List ℕ)) → ((word : List ℕ) (after : List (List ℕ)) → words ≡ word ∷ after → bytes_eq word (codes "--help") ≡ false)
    → BeginsNoHelp command words
plain_words name.Base words plain = tt
plain_words name.Verify words plain = plain
plain_words name.Sign words plain = plain
plain_words name.Rewrite words plain = plain
plain_words name.Explain words plain = plain
plain_words name.Audit words plain = plain
plain_words name.Gateway words plain = plain
plain_words name.Lists words plain = plain
plain_words name.Negotiate words plain = plain
plain_words name.Sample words plain = plain

-- ---- the faults

-- the first words, and another one that doesn't begin a command with them
pub parted_at : (words before : List (List ℕ)) (word : List ℕ) (after : List (List ℕ)) → words ≡ before ++ word ∷ after → BeginsCommand before
    → (BeginsCommand (before ++ word ∷ []) → ⊥) → AreParted words before (word ∷ after)
parted_at words before word after joined begun none = record {
  joined = joined;
  begins = begun;
  wrong = λ other more same begun. none (subst (λ (w : List ℕ). BeginsCommand (before ++ w ∷ [])) (first same) begun);
}
  where
    first : {other : List ℕ} {more : List (List ℕ)} → word ∷ after ≡ other ∷ more → other ≡ word
    first same = cc

-- the words are all there
pub parted_end : (words before : List (List ℕ)) → words ≡ before → BeginsCommand before → AreParted words before []
parted_end words before same begun = record { joined = same ∙ sym (append-nil before); begins = begun; wrong = λ word after none begun. none_is word after none }
  where
    none_is : (word : List ℕ) (after : List (List ℕ)) → [] ≡ word ∷ after → ⊥
    none_is word after e = absurd cc

pub start_command : (command : CommandName) (start words : List (List ℕ)) → IsStart command start → first_command (start ++ words) ≡ Some command
start_command name.Base start words starts = ap (λ (s : List (List ℕ)). first_command (s ++ words)) starts.1
start_command name.Verify start words starts = ap (λ (s : List (List ℕ)). first_command (s ++ words)) starts
start_command name.Sign start words starts = ap (λ (s : List (List ℕ)). first_command (s ++ words)) starts
start_command name.Rewrite start words starts = ap (λ (s : List (List ℕ)). first_command (s ++ words)) starts
start_command name.Explain start words starts = ap (λ (s : List (List ℕ)). first_command (s ++ words)) starts
start_command name.Audit start words starts = ap (λ (s : List (List ℕ)). first_command (s ++ words)) starts
start_command name.Gateway start words starts = ap (λ (s : List (List ℕ)). first_command (s ++ words)) starts
start_command name.Lists start words starts = ap (λ (s : List (List ℕ)). first_command (s ++ words)) starts
start_command name.Negotiate start words starts = ap (λ (s : List (List ℕ)). first_command (s ++ words)) starts
start_command name.Sample start words starts = absurd starts

has_option : (command : CommandName) (start : List (List ℕ)) (found : OptionWords) (done : List (Pair (List ℕ))) (option : CommandOption) (word : List ℕ)
    → IsStart command start → AreOptions command (words_of done) done → AreWordsOf found done → word_in found option ≡ Some word
    → HasOption command (start ++ words_of done) option
has_option command start found done option word starts are are_found some = record {
  start = start;
  options = done;
  joined = refl;
  starts = starts;
  are = are;
  has = elim (cases_Bool (list_any (has_key (row_of option).word) done)) [
    | inl there ↦ there
    | inr none ↦ absurd (no_word (value_of done (row_of option).word) word (value_none (row_of option).word done none) (sym (are_found option) ∙ some))
  ];
}

some_in : (x : Option (List ℕ)) → is_some x ≡ true → (word : List ℕ) × (x ≡ Some word)
some_in None some = absurd (false≢true some)
some_in (Some word) some = (word, refl)

-- who excludes one that a command takes is in the options of `sign`
excluded_by : (option given : CommandOption) (command : CommandName) (found : OptionWords) → is_taken_by command option ≡ true → excluding_in found option ≡ Some given
    → (command ≡ name.Sign) × ((word : List ℕ) × (word_in found given ≡ Some word))
excluded_by Conf given command found taken excluded = absurd cc
excluded_by Now given command found taken excluded = absurd cc
excluded_by Label given command found taken excluded = absurd cc
excluded_by Request given command found taken excluded = absurd cc
excluded_by Script given command found taken excluded = absurd cc
excluded_by Other given command found taken excluded = absurd cc
excluded_by Into given command found taken excluded = absurd cc
excluded_by Nonce given command found taken excluded =
    let wanted = if_some (word_in found Wanted) Wanted given excluded in
    (sign_takes command taken, subst (λ (o : CommandOption). (word : List ℕ) × (word_in found o ≡ Some word)) wanted.0 wanted.1)
  where
    sign_takes : (command : CommandName) → is_taken_by command Nonce ≡ true → command ≡ name.Sign
    sign_takes name.Base taken = absurd (false≢true taken)
    sign_takes name.Verify taken = absurd (false≢true taken)
    sign_takes name.Sign taken = refl
    sign_takes name.Rewrite taken = absurd (false≢true taken)
    sign_takes name.Explain taken = absurd (false≢true taken)
    sign_takes name.Audit taken = absurd (false≢true taken)
    sign_takes name.Gateway taken = absurd (false≢true taken)
    sign_takes name.Lists taken = absurd (false≢true taken)
    sign_takes name.Negotiate taken = absurd (false≢true taken)
    sign_takes name.Sample taken = absurd (false≢true taken)
excluded_by Wanted given command found taken excluded =
    let nonce = if_some (word_in found Nonce) Nonce given excluded in
    (sign_takes command taken, subst (λ (o : CommandOption). (word : List ℕ) × (word_in found o ≡ Some word)) nonce.0 nonce.1)
  where
    sign_takes : (command : CommandName) → is_taken_by command Wanted ≡ true → command ≡ name.Sign
    sign_takes name.Base taken = absurd (false≢true taken)
    sign_takes name.Verify taken = absurd (false≢true taken)
    sign_takes name.Sign taken = refl
    sign_takes name.Rewrite taken = absurd (false≢true taken)
    sign_takes name.Explain taken = absurd (false≢true taken)
    sign_takes name.Audit taken = absurd (false≢true taken)
    sign_takes name.Gateway taken = absurd (false≢true taken)
    sign_takes name.Lists taken = absurd (false≢true taken)
    sign_takes name.Negotiate taken = absurd (false≢true taken)
    sign_takes name.Sample taken = absurd (false≢true taken)

-- what keeps an option out excludes it
exclude_each : (option given : CommandOption) (found : OptionWords) → excluding_in found option ≡ Some given → Exclude option given
exclude_each Nonce given found excluded = sym (if_some (word_in found Wanted) Wanted given excluded).0
exclude_each Wanted given found excluded = sym (if_some (word_in found Nonce) Nonce given excluded).0
exclude_each Conf given found excluded = absurd (cc excluded)
exclude_each Now given found excluded = absurd (cc excluded)
exclude_each Label given found excluded = absurd (cc excluded)
exclude_each Request given found excluded = absurd (cc excluded)
exclude_each Script given found excluded = absurd (cc excluded)
exclude_each Other given found excluded = absurd (cc excluded)
exclude_each Into given found excluded = absurd (cc excluded)

-- the word is a reason that the options before it make one
reason_of : (reason : WordsReason) (command : CommandName) (start : List (List ℕ)) (found : OptionWords) (done : List (Pair (List ℕ))) (name : List ℕ) (after : List (List ℕ))
    → IsStart command start → AreOptions command (words_of done) done → AreWordsOf found done → IsNameReason command found name reason
    → IsReason reason (start ++ words_of done) (name ∷ after)
reason_of (NotTaken other) command start found done name after starts are are_found is = (
  start_command command start (words_of done) starts ∙ ap (λ (c : CommandName). Some c) (sym is.0),
  (name, record { after = after; joined = refl }, subst (λ (c : CommandName). takes c name ≡ false) (sym is.0) is.1),
)
reason_of (Twice other option) command start found done name after starts are are_found is =
    let word = some_in (word_in found option) is.2 in (
      record { after = after; joined = ap (λ (w : List ℕ). w ∷ after) (name_is name option is.1) },
      subst (λ (c : CommandName). HasOption c (start ++ words_of done) option) (sym is.0) (has_option command start found done option word.0 starts are are_found word.1),
    )
reason_of (Excluded option given) command start found done name after starts are are_found is =
    let by = excluded_by option given command found is.1 is.2 in (
      record { after = after; joined = ap (λ (w : List ℕ). w ∷ after) (name_is name option is.0) },
      subst (λ (c : CommandName). HasOption c (start ++ words_of done) given) by.0 (has_option command start found done given by.1.0 starts are are_found by.1.1),
      exclude_each option given found is.2,
    )
reason_of NoWords command start found done name after starts are are_found is = absurd is
reason_of NoCommand command start found done name after starts are are_found is = absurd is
reason_of LeftOver command start found done name after starts are are_found is = absurd is
reason_of (NoWord option) command start found done name after starts are are_found is = absurd is
reason_of (BadWord option) command start found done name after starts are are_found is = absurd is
reason_of (Missing other option) command start found done name after starts are are_found is = absurd is
reason_of NoParams command start found done name after starts are are_found is = absurd is
reason_of NoSeed command start found done name after starts are are_found is = absurd is
reason_of BadSeed command start found done name after starts are are_found is = absurd is
reason_of NoCount command start found done name after starts are are_found is = absurd is
reason_of BadCount command start found done name after starts are are_found is = absurd is

words_parted : (start all done left : List (List ℕ)) → all ≡ done ++ left → start ++ all ≡ (start ++ done) ++ left
words_parted start all done left same = ap (λ (words : List (List ℕ)). start ++ words) same ∙ sym (append_assoc start done left)

-- a name that can't come next
pub name_wrong : (command : CommandName) (start all : List (List ℕ)) (found : OptionWords) (name : List ℕ) (after : List (List ℕ)) (reason : WordsReason)
    → IsStart command start → AreFound command found all (name ∷ after) → BeginsNoHelp command all → IsNameReason command found name reason
    → IsWordsFault (start ++ all) (Some command) reason (name ∷ after)
name_wrong command start all found name after reason starts so_far plain is =
    let done = so_far.before.done in
    record {
      before = start ++ words_of done;
      separated = parted_at (start ++ all) (start ++ words_of done) name after (words_parted start all (words_of done) (name ∷ after) so_far.before.joined)
          (begins_options command start done starts so_far.before.are (is_alone found done so_far.before.are_found so_far.alone)) none;
      is = reason_of reason command start found done name after starts so_far.before.are so_far.before.are_found is;
      command_is = sym (start_command command start all starts);
    }
  where
    none : BeginsCommand ((start ++ words_of so_far.before.done) ++ name ∷ []) → ⊥
    none begun =
        let line = line_with command start (words_of so_far.before.done) (name ∷ []) starts begun (not_help command all so_far.before.done name after begun.0 plain so_far.before.joined) in
        let spot = at_name so_far.before.done line.options name begun.0 line.are.joined in
        not_next reason command found so_far.before.done spot.1 spot.0 name (words_of so_far.before.done ++ name ∷ begun.0) is so_far.before.are_found spot.3
        (subst (λ (options : List (Pair (List ℕ))). AreOptions command (words_of so_far.before.done ++ name ∷ begun.0) options) spot.2 line.are)
        (subst (λ (options : List (Pair (List ℕ))). IsAloneFor command options) spot.2 line.alone)

-- the words up to the name of an option that can come next begin a command
begins_next : (command : CommandName) (start all : List (List ℕ)) (found : OptionWords) (name : List ℕ) (after : List (List ℕ)) (option : CommandOption) → IsStart command start
    → (so_far : AreFound command found all (name ∷ after)) → IsNextName command found name option → BeginsCommand ((start ++ words_of so_far.before.done) ++ name ∷ [])
begins_next command start all found name after option starts so_far next =
    let done = so_far.before.done in
    let new = is_new found done option so_far.before.are_found next.is_new in
    subst (λ (w : List ℕ). BeginsCommand ((start ++ words_of done) ++ w ∷ [])) (sym (name_is name option next.named))
    (begins_name command start done option starts so_far.before.are new next.taken
    (next_alone option found done (example option) so_far.before.are_found (is_alone found done so_far.before.are_found so_far.alone) new next.alone))

-- an option at the end
pub no_word_after : (command : CommandName) (start all : List (List ℕ)) (found : OptionWords) (name : List ℕ) (option : CommandOption)
    → IsStart command start → AreFound command found all (name ∷ []) → IsNextName command found name option
    → IsWordsFault (start ++ all) (Some command) (NoWord option) []
no_word_after command start all found name option starts so_far next =
    let done = so_far.before.done in
    record {
      before = (start ++ words_of done) ++ name ∷ [];
      separated = parted_end (start ++ all) ((start ++ words_of done) ++ name ∷ []) (words_parted start all (words_of done) (name ∷ []) so_far.before.joined)
          (begins_next command start all found name [] option starts so_far next);
      is = (
        record {
          command = command;
          start = start;
          options = done;
          joined = ap (λ (w : List ℕ). (start ++ words_of done) ++ w ∷ []) (name_is name option next.named);
          starts = starts;
          are = so_far.before.are;
        },
        refl,
      );
      command_is = sym (start_command command start all starts);
    }

-- a word that an option can't have
pub word_wrong : (command : CommandName) (start all : List (List ℕ)) (found : OptionWords) (name word : List ℕ) (after : List (List ℕ)) (option : CommandOption)
    → IsStart command start → AreFound command found all (name ∷ word ∷ after) → BeginsNoHelp command all → IsNextName command found name option
    → (row_of option).may_have word ≡ false → IsWordsFault (start ++ all) (Some command) (BadWord option) (word ∷ after)
word_wrong command start all found name word after option starts so_far plain next bad =
    let done = so_far.before.done in
    record {
      before = (start ++ words_of done) ++ name ∷ [];
      separated = parted_at (start ++ all) ((start ++ words_of done) ++ name ∷ []) word after
          (words_parted start all (words_of done) (name ∷ word ∷ after) so_far.before.joined ∙ sym (append_assoc (start ++ words_of done) (name ∷ []) (word ∷ after)))
          (begins_next command start all found name (word ∷ after) option starts so_far next) none;
      is = (
        word,
        record {
          command = command;
          start = start;
          options = done;
          joined = ap (λ (w : List ℕ). (start ++ words_of done) ++ w ∷ []) (name_is name option next.named);
          starts = starts;
          are = so_far.before.are;
        },
        record { after = after; joined = refl },
        bad,
      );
      command_is = sym (start_command command start all starts);
    }
  where
    none : BeginsCommand (((start ++ words_of so_far.before.done) ++ name ∷ []) ++ word ∷ []) → ⊥
    none begun =
        let both = subst (λ (words : List (List ℕ)). BeginsCommand words) (append_assoc (start ++ words_of so_far.before.done) (name ∷ []) (word ∷ [])) begun in
        let line = line_with command start (words_of so_far.before.done) (name ∷ word ∷ []) starts both
        (not_help command all so_far.before.done name (word ∷ after) (word ∷ both.0) plain so_far.before.joined) in
        let spot = at_word so_far.before.done line.options name word both.0 line.are.joined in
        let all_had = subst (λ (options : List (Pair (List ℕ))). AreOptions command (words_of so_far.before.done ++ name ∷ word ∷ both.0) options) spot.2 line.are in
        let comes = comes_next command found so_far.before.done spot.1 spot.0 (words_of so_far.before.done ++ name ∷ word ∷ both.0) all_had so_far.before.are_found in
        let option_is : comes.0 ≡ option = one_option comes.0 option (sym comes.1.named ∙ (ap option_of (sym spot.3) ∙ next.named)) in
        let had : (row_of comes.0).may_have word ≡ true = subst (λ (w : List ℕ). (row_of comes.0).may_have w ≡ true) (sym spot.4) comes.1.had in
        false≢true (sym bad ∙ subst (λ (o : CommandOption). (row_of o).may_have word ≡ true) option_is had)

-- ---- options that are missing

-- one of those that the command needs, and that passes a test
one_of : (test : CommandOption → Bool) (wanted : List CommandOption) (options : List (Pair (List ℕ))) (option : CommandOption) → find test wanted ≡ Some option
    → HasAll options wanted → HasOne options option × (test option ≡ true)
one_of test [] options option e has = absurd cc
one_of test (first ∷ wanted) options option e has = elim (cases_Bool (test first)) [
  | inl holds ↦
      let same : Some first ≡ Some option = rw holds at e in
      let first_is : first ≡ option = cc in
      subst (λ (o : CommandOption). HasOne options o × (test o ≡ true)) first_is (has.0, holds)
  | inr other ↦ one_of test wanted options option (rw other at e) has.1
]

-- where none of them lacks its word, all are there
all_there : (found : OptionWords) (done : List (Pair (List ℕ))) (wanted : List CommandOption) → AreWordsOf found done
    → find (λ option. not (is_some (word_in found option))) wanted ≡ None → HasAll done wanted
all_there found done [] are none = tt
all_there found done (first ∷ wanted) are none = elim (cases_Bool (is_some (word_in found first))) [
  | inl some ↦
      let word = some_in (word_in found first) some in
      ((word.0, sym (are first) ∙ word.1), all_there found done wanted are (rw some at none))
  | inr lacks ↦ let e : Some first ≡ None = rw lacks at none in absurd cc
]

-- a name that comes later
later : (key word : List ℕ) (done rest : List (Pair (List ℕ))) → value_of done key ≡ None → value_of (done ++ rest) key ≡ Some word → value_of rest key ≡ Some word
later key word [] rest none some = some
later key word (q ∷ done) rest none some = elim (cases_Bool (has_key key q)) [
  | inl is ↦ let e : Some q.value ≡ None = rw is at none in absurd cc
  | inr isnt ↦ later key word done rest (rw isnt at none) (rw isnt at some)
]

in_words : (key word : List ℕ) (rest : List (Pair (List ℕ))) → value_of rest key ≡ Some word → list_any (λ other. bytes_eq other key) (words_of rest) ≡ true
in_words key word [] some = absurd cc
in_words key word (p ∷ rest) some = elim (cases_Bool (has_key key p)) [
  | inl is ↦ rw is refl
  | inr isnt ↦ elim (cases_Bool (bytes_eq p.value key)) [
    | inl also ↦ rw (isnt, also) refl
    | inr nor ↦ rw (isnt, nor) (in_words key word rest (rw isnt at some))
  ]
]

lacks_word : (x : Option (List ℕ)) → not (is_some x) ≡ true → x ≡ None
lacks_word None lacks = refl
lacks_word (Some word) lacks = absurd (false≢true lacks)

pub missing : (command : CommandName) (start all : List (List ℕ)) (found : OptionWords) (option : CommandOption) → IsStart command start → AreFound command found all []
    → find (λ option. not (is_some (word_in found option))) (needed command) ≡ Some option
    → IsWordsFault (start ++ all) (Some command) (Missing command option) []
missing command start all found option starts so_far lacks = record {
  before = start ++ all;
  separated = parted_end (start ++ all) (start ++ all) refl
      (subst (λ (words : List (List ℕ)). BeginsCommand (start ++ words)) (sym whole)
      (begins_options command start so_far.before.done starts so_far.before.are (is_alone found so_far.before.done so_far.before.are_found so_far.alone)));
  is = (start_command command start all starts, need, refl);
  command_is = sym (start_command command start all starts);
}
  where
    whole : all ≡ words_of so_far.before.done
    whole = so_far.before.joined ∙ append-nil (words_of so_far.before.done)

    need : Need (start ++ all) (row_of option).word
    need more line is none_of =
        let after = started command start (all ++ more) line starts (subst (λ (words : List (List ℕ)). IsCommand words line) (append_assoc start all more) is) none_of in
        let same : words_of so_far.before.done ++ more ≡ words_of after.options = ap (λ (words : List (List ℕ)). words ++ more) (sym whole) ∙ after.are.joined in
        let rest = begins so_far.before.done after.options more same in
        let one = one_of (λ option. not (is_some (word_in found option))) (needed command) after.options option lacks after.has in
        let has = one.0 in
        let none : value_of so_far.before.done (row_of option).word ≡ None =
        sym (so_far.before.are_found option) ∙ lacks_word (word_in found option) one.1 in
        let some : value_of (so_far.before.done ++ rest.0) (row_of option).word ≡ Some has.0 =
        ap (λ (options : List (Pair (List ℕ))). value_of options (row_of option).word) (sym rest.1) ∙ has.1 in
        subst (λ (words : List (List ℕ)). list_any (λ other. bytes_eq other (row_of option).word) words ≡ true) (sym rest.2)
        (in_words (row_of option).word has.0 rest.0 (later (row_of option).word has.0 so_far.before.done rest.0 none some))

-- options with all that the command needs are a command
pub nothing_missing : (command : CommandName) (start all : List (List ℕ)) (found : OptionWords) → IsStart command start → AreFound command found all []
    → find (λ option. not (is_some (word_in found option))) (needed command) ≡ None → IsOptionLine command all
nothing_missing command start all found starts so_far none =
    let whole : all ≡ words_of so_far.before.done = so_far.before.joined ∙ append-nil (words_of so_far.before.done) in
    record {
      options = so_far.before.done;
      are = subst (λ (words : List (List ℕ)). AreOptions command words so_far.before.done) (sym whole) so_far.before.are;
      alone = alone_for command so_far.before.done (is_alone found so_far.before.done so_far.before.are_found so_far.alone);
      has = all_there found so_far.before.done (needed command) so_far.before.are_found none;
    }
