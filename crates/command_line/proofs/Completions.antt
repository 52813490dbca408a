-- Options that begin a command: those that it needs can be added to them.
use Rattle.std.proofs.Common.{◌≡◌, ℕ, Bool, true, false, ◌&&◌, List, [], ◌∷◌, ◌++◌, Option, Some, None, inl, inr, refl, sym, ap, subst, ◌∙◌, append_assoc}
use Rattle.std.specs.Prelude.{codes, if◌then◌else◌, option_map, unwrap_or}
use Rattle.std.specs.List.{list_all, list_any}
use Rattle.std.specs.Str.{bytes_eq}
use Rattle.std.proofs.lemmas.Bool.{and_from, cases_Bool, and_parts, false≢true}
use Rattle.std.proofs.lemmas.Grind.{flat_map-append}
use Rattle.std.proofs.lemmas.List.{append-nil}
use Rattle.sfv_text.specs.Keys.{has_key, value_of}
use Rattle.sfv_text.specs.declared.pair.Pair.{Pair}
use Rattle.sfv_text.proofs.PutLaws.{put_new, put_new_distinct, put_value}
use Rattle.byte_grammar.proofs.ListLaws.{all_joined}
use Rattle.command_line.specs.Faults.{BeginsCommand, IsStart}
use Rattle.command_options.specs.Options.{is_taken_by, may_have, option_of, row_of, takes, words_of, AreOptions}
use Rattle.command_options.specs.declared.options.CommandName.{CommandName}
use Rattle.command_options.specs.declared.options.CommandName.TheVariants as name
use Rattle.command_options.specs.declared.options.CommandOption.{CommandOption}
use Rattle.command_options.specs.declared.options.CommandOption.TheVariants.{Conf, Now, Label, Request, Nonce, Wanted, Script, Other, Into}
use Rattle.command_line.specs.tools.Wrong.{needed, AreCommand}
use Rattle.command_line.proofs.CommandOrNone.{has_word}
use Rattle.command_line.proofs.FirstWords.{HasAll, HasOne, IsAlone, IsAloneFor, whole}
use Rattle.command_options.proofs.OptionLists.{found_none}

-- ---- one more option

-- a word that the option may have
abbrev pub example : CommandOption → List ℕ
example Now = codes "0"
example Into = codes "fields"
example option = codes "a"

pub option_is : (option : CommandOption) → option_of (row_of option).word ≡ Some option
option_is Conf = refl
option_is Now = refl
option_is Label = refl
option_is Request = refl
option_is Nonce = refl
option_is Wanted = refl
option_is Script = refl
option_is Other = refl
option_is Into = refl

example_had : (option : CommandOption) → (row_of option).may_have (example option) ≡ true
example_had Conf = refl
example_had Now = refl
example_had Label = refl
example_had Request = refl
example_had Nonce = refl
example_had Wanted = refl
example_had Script = refl
example_had Other = refl
example_had Into = refl

-- a test of the option of its own name
option_tested : (test : CommandOption → Bool) (option : CommandOption) → unwrap_or (option_map test (option_of (row_of option).word)) false ≡ test option
option_tested test option = ap (λ (found : Option CommandOption). unwrap_or (option_map test found) false) (option_is option)

words_joined : (done rest : List (Pair (List ℕ))) → words_of (done ++ rest) ≡ words_of done ++ words_of rest
words_joined done rest = flat_map-append (λ (option : Pair (List ℕ)). option.key ∷ option.value ∷ []) done rest

abbrev pub pair_of : CommandOption → List ℕ → Pair (List ℕ)
pair_of option word = record { key = (row_of option).word; value = word }

-- options with one more
pub with_one : (command : CommandName) (done : List (Pair (List ℕ))) (option : CommandOption) (word : List ℕ) → AreOptions command (words_of done) done
    → list_any (has_key (row_of option).word) done ≡ false → is_taken_by command option ≡ true → (row_of option).may_have word ≡ true
    → AreOptions command (words_of (done ++ pair_of option word ∷ [])) (done ++ pair_of option word ∷ [])
with_one command done option word are new taken had = record {
  joined = refl;
  distinct = put_new_distinct done (row_of option).word word are.distinct new;
  taken = all_joined (λ (p : Pair (List ℕ)). takes command p.key) done (pair_of option word ∷ []) are.taken (and_from (takes command (row_of option).word) true (option_tested (is_taken_by command) option ∙ taken) refl);
  had = all_joined (λ (p : Pair (List ℕ)). may_have p.key p.value) done (pair_of option word ∷ []) are.had (and_from (may_have (row_of option).word word) true (option_tested (λ o. (row_of o).may_have word) option ∙ had) refl);
}

-- its value, and those of the others
value_with : (done : List (Pair (List ℕ))) (option : CommandOption) (word name : List ℕ) → list_any (has_key (row_of option).word) done ≡ false
    → value_of (done ++ pair_of option word ∷ []) name ≡ (if bytes_eq (row_of option).word name then Some word else value_of done name)
value_with done option word name new =
    ap (λ (all : List (Pair (List ℕ))). value_of all name) (put_new done (row_of option).word word new) ∙ put_value (row_of option).word word name done

kept_with : (done : List (Pair (List ℕ))) (option : CommandOption) (word : List ℕ) → list_any (has_key (row_of option).word) done ≡ false
    → (other : CommandOption) → HasOne done other → HasOne (done ++ pair_of option word ∷ []) other
kept_with done option word new other has = elim (cases_Bool (bytes_eq (row_of option).word (row_of other).word)) [
  | inl same ↦ (word, rw same at (value_with done option word (row_of other).word new))
  | inr apart ↦ (has.0, rw apart at (value_with done option word (row_of other).word new) ∙ has.1)
]

same_name : (option : CommandOption) → bytes_eq (row_of option).word (row_of option).word ≡ true
same_name Conf = refl
same_name Now = refl
same_name Label = refl
same_name Request = refl
same_name Nonce = refl
same_name Wanted = refl
same_name Script = refl
same_name Other = refl
same_name Into = refl

has_with : (done : List (Pair (List ℕ))) (option : CommandOption) (word : List ℕ) → list_any (has_key (row_of option).word) done ≡ false
    → HasOne (done ++ pair_of option word ∷ []) option
has_with done option word new = (word, rw (same_name option) at (value_with done option word (row_of option).word new))

-- none is there with another name
pub none_with : (done : List (Pair (List ℕ))) (option : CommandOption) (word name : List ℕ) → list_any (has_key (row_of option).word) done ≡ false
    → bytes_eq (row_of option).word name ≡ false → value_of done name ≡ None → value_of (done ++ pair_of option word ∷ []) name ≡ None
none_with done option word name new apart none = rw apart at (value_with done option word name new) ∙ none

-- an option that goes with all
abbrev pub is_plain : CommandOption → Bool
is_plain Nonce = false
is_plain Wanted = false
is_plain option = true

apart : (option : CommandOption) → is_plain option ≡ true
    → (bytes_eq (row_of option).word (codes "--nonce") ≡ false) × (bytes_eq (row_of option).word (codes "--wanted") ≡ false)
apart Conf plain = (refl, refl)
apart Now plain = (refl, refl)
apart Label plain = (refl, refl)
apart Request plain = (refl, refl)
apart Nonce plain = absurd (false≢true plain)
apart Wanted plain = absurd (false≢true plain)
apart Script plain = (refl, refl)
apart Other plain = (refl, refl)
apart Into plain = (refl, refl)

pub alone_with : (done : List (Pair (List ℕ))) (option : CommandOption) (word : List ℕ) → list_any (has_key (row_of option).word) done ≡ false
    → is_plain option ≡ true → IsAlone done → IsAlone (done ++ pair_of option word ∷ [])
alone_with done option word new plain alone = elim alone [
  | inl none ↦ inl (none_with done option word (codes "--nonce") new (apart option plain).0 none)
  | inr none ↦ inr (none_with done option word (codes "--wanted") new (apart option plain).1 none)
]

-- ---- all that a command needs

-- all these options begin with those, and are right
record Completes (command : CommandName) (done : List (Pair (List ℕ))) (wanted : List CommandOption) : Type 0 where
  more : List (Pair (List ℕ))
  are : AreOptions command (words_of (done ++ more)) (done ++ more)
  alone : IsAlone (done ++ more)
  has : HasAll (done ++ more) wanted
  kept : (option : CommandOption) → HasOne done option → HasOne (done ++ more) option

there_some : (option : CommandOption) (done : List (Pair (List ℕ))) → list_any (has_key (row_of option).word) done ≡ true → HasOne done option
there_some option done there = elim (has_word (value_of done (row_of option).word)) [
  | inl some ↦ some
  | inr none ↦ absurd (false≢true (sym (found_none (row_of option).word done none) ∙ there))
]

abbrev addable : CommandName → CommandOption → Bool
addable command option = is_taken_by command option && is_plain option

-- one that is there already needs no more than the others
without_one : (command : CommandName) (done : List (Pair (List ℕ))) (option : CommandOption) (others : List CommandOption)
    → HasOne done option → Completes command done others → Completes command done (option ∷ others)
without_one command done option others has rest =
    record { more = rest.more; are = rest.are; alone = rest.alone; has = (rest.kept option has, rest.has); kept = rest.kept }

after_one : (command : CommandName) (done : List (Pair (List ℕ))) (option : CommandOption) (word : List ℕ) (others : List CommandOption)
    → list_any (has_key (row_of option).word) done ≡ false → Completes command (done ++ pair_of option word ∷ []) others → Completes command done (option ∷ others)
after_one command done option word others new rest =
    let same : (done ++ pair_of option word ∷ []) ++ rest.more ≡ done ++ pair_of option word ∷ rest.more = append_assoc done (pair_of option word ∷ []) rest.more in
    record {
      more = pair_of option word ∷ rest.more;
      are = subst (λ (all : List (Pair (List ℕ))). AreOptions command (words_of all) all) same rest.are;
      alone = subst (λ (all : List (Pair (List ℕ))). IsAlone all) same rest.alone;
      has = subst (λ (all : List (Pair (List ℕ))). HasAll all (option ∷ others)) same (rest.kept option (has_with done option word new), rest.has);
      kept = λ other has. subst (λ (all : List (Pair (List ℕ))). HasOne all other) same (rest.kept other (kept_with done option word new other has));
    }

completes : (command : CommandName) (wanted : List CommandOption) → list_all (addable command) wanted ≡ true → (done : List (Pair (List ℕ)))
    → AreOptions command (words_of done) done → IsAlone done → Completes command done wanted
completes command [] all done are alone =
    let same : done ≡ done ++ [] = sym (append-nil done) in
    record {
      more = [];
      are = subst (λ (all : List (Pair (List ℕ))). AreOptions command (words_of all) all) same are;
      alone = subst (λ (all : List (Pair (List ℕ))). IsAlone all) same alone;
      has = tt;
      kept = λ option has. subst (λ (all : List (Pair (List ℕ))). HasOne all option) same has;
    }
completes command (option ∷ wanted) all done are alone =
    let parts = and_parts (addable command option) (list_all (addable command) wanted) all in
    let both = and_parts (is_taken_by command option) (is_plain option) parts.0 in
    elim (cases_Bool (list_any (has_key (row_of option).word) done)) [
      | inl there ↦ without_one command done option wanted (there_some option done there) (completes command wanted parts.1 done are alone)
      | inr new ↦ after_one command done option (example option) wanted new
          (completes command wanted parts.1 (done ++ pair_of option (example option) ∷ []) (with_one command done option (example option) are new both.0 (example_had option))
          (alone_with done option (example option) new both.1 alone))
    ]

needed_addable : (command : CommandName) → list_all (addable command) (needed command) ≡ true
needed_addable name.Base = refl
needed_addable name.Verify = refl
needed_addable name.Sign = refl
needed_addable name.Rewrite = refl
needed_addable name.Explain = refl
needed_addable name.Audit = refl
needed_addable name.Gateway = refl
needed_addable name.Lists = refl
needed_addable name.Negotiate = refl
needed_addable name.Sample = refl

pub alone_for : (command : CommandName) (options : List (Pair (List ℕ))) → IsAlone options → IsAloneFor command options
alone_for name.Base options alone = tt
alone_for name.Verify options alone = tt
alone_for name.Sign options alone = alone
alone_for name.Rewrite options alone = tt
alone_for name.Explain options alone = tt
alone_for name.Audit options alone = tt
alone_for name.Gateway options alone = tt
alone_for name.Lists options alone = tt
alone_for name.Negotiate options alone = tt
alone_for name.Sample options alone = tt

-- so right options begin a command
pub begins_whole : (command : CommandName) (start : List (List ℕ)) (done : List (Pair (List ℕ))) → IsStart command start → AreOptions command (words_of done) done
    → IsAlone done → (rest : List (Pair (List ℕ))) × AreCommand (start ++ words_of (done ++ rest))
begins_whole command start done starts are alone =
    let all = completes command (needed command) (needed_addable command) done are alone in (
      all.more,
      whole command start (words_of (done ++ all.more)) starts
          (record { options = done ++ all.more; are = all.are; alone = alone_for command (done ++ all.more) all.alone; has = all.has }),
    )

pub begins_options : (command : CommandName) (start : List (List ℕ)) (done : List (Pair (List ℕ))) → IsStart command start → AreOptions command (words_of done) done
    → IsAlone done → BeginsCommand (start ++ words_of done)
begins_options command start done starts are alone =
    let all = begins_whole command start done starts are alone in
    let same : start ++ words_of (done ++ all.0) ≡ (start ++ words_of done) ++ words_of all.0 =
    ap (λ (words : List (List ℕ)). start ++ words) (words_joined done all.0) ∙ sym (append_assoc start (words_of done) (words_of all.0)) in
    let line = subst (λ (words : List (List ℕ)). AreCommand words) same all.1 in
    (words_of all.0, line.0, line.1)

-- and so does the name of one that can come next
pub begins_name : (command : CommandName) (start : List (List ℕ)) (done : List (Pair (List ℕ))) (option : CommandOption) → IsStart command start
    → AreOptions command (words_of done) done → list_any (has_key (row_of option).word) done ≡ false → is_taken_by command option ≡ true
    → IsAlone (done ++ pair_of option (example option) ∷ []) → BeginsCommand ((start ++ words_of done) ++ (row_of option).word ∷ [])
begins_name command start done option starts are new taken alone =
    let pair = pair_of option (example option) in
    let all = begins_whole command start (done ++ pair ∷ []) starts (with_one command done option (example option) are new taken (example_had option)) alone in
    let whole : (done ++ pair ∷ []) ++ all.0 ≡ done ++ pair ∷ all.0 = append_assoc done (pair ∷ []) all.0 in
    let words : words_of ((done ++ pair ∷ []) ++ all.0) ≡ words_of done ++ words_of (pair ∷ all.0) =
    ap (λ (options : List (Pair (List ℕ))). words_of options) whole ∙ words_joined done (pair ∷ all.0) in
    let same : start ++ words_of ((done ++ pair ∷ []) ++ all.0) ≡ ((start ++ words_of done) ++ (row_of option).word ∷ []) ++ (example option ∷ words_of all.0) =
    ap (λ (others : List (List ℕ)). start ++ others) words
    ∙ (sym (append_assoc start (words_of done) ((row_of option).word ∷ example option ∷ words_of all.0))
    ∙ sym (append_assoc (start ++ words_of done) ((row_of option).word ∷ []) (example option ∷ words_of all.0))) in
    let line = subst (λ (words : List (List ℕ)). AreCommand words) same all.1 in
    (example option ∷ words_of all.0, line.0, line.1)
