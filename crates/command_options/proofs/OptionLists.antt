-- Words as options.
use Rattle.std.proofs.Common.{◌≡◌, ◌<◌, ◌+◌, ℕ, Bool, true, false, ◌||◌, List, [], ◌∷◌, ◌++◌, length, map, Option, Some, None, refl, sym, ap, subst, ◌∙◌, inl, inr, arith, append_assoc}
use Rattle.std.specs.Prelude.{◌==◌, IfNone, IfSome, option_map, unwrap_or, if◌then◌else◌}
use Rattle.std.specs.List.{list_all, list_any, find}
use Rattle.std.specs.Str.{bytes_eq}
use Rattle.std.proofs.lemmas.Bool.{cases_Bool, and_parts, false≢true}
use Rattle.std.proofs.lemmas.Bool.Decides.{nat_tests}
use Rattle.std.proofs.lemmas.List.Folds.{list_all-append, list_any-append}
use Rattle.std.proofs.lemmas.List.{append-nil}
use Rattle.std.proofs.lemmas.Slice.Eq.{bytes_eq-Decides}
use Rattle.sfv_text.specs.Keys.{has_key, have_distinct_keys, value_of}
use Rattle.sfv_text.specs.declared.pair.Pair.{Pair}
use Rattle.sfv_text.proofs.PutLaws.{distinct_parts, put_distinct, put_new}
use Rattle.command_options.specs.Options.{is_taken_by, may_have, option_of, row_of, takes, words_of, AreOptions}
use Rattle.command_options.specs.declared.options.CommandName.{CommandName}
use Rattle.command_options.specs.declared.options.CommandOption.{CommandOption}
use Rattle.command_options.specs.declared.options.CommandOption.TheVariants.{Conf, Now, Label, Request, Nonce, Wanted, Script, Other, Into}
use Rattle.command_options.specs.declared.options.OptionWords.{OptionWords}
use Rattle.command_options.specs.Found.{word_in, AddsOption, AreWordsOf, IsNextOption, HasOptions, AreFoundBefore}

-- ---- the words of options

one_is : (a b : Pair (List ℕ)) → a.key ≡ b.key → a.value ≡ b.value → a ≡ b
one_is a b k v = λ i. record { key = k i; value = v i }

three_parts : (a b c d : List ℕ) (x y : List (List ℕ)) → a ∷ b ∷ x ≡ c ∷ d ∷ y → (a ≡ c) × (b ≡ d) × (x ≡ y)
three_parts a b c d x y e = (cc, cc, cc)

pub words_joined : (done rest : List (Pair (List ℕ))) → words_of (done ++ rest) ≡ words_of done ++ words_of rest
words_joined [] rest = refl
words_joined (p ∷ done) rest = ap (λ (words : List (List ℕ)). p.key ∷ p.value ∷ words) (words_joined done rest)

-- options whose words begin with those of others are the others and more
pub begins : (done options : List (Pair (List ℕ))) (left : List (List ℕ)) → words_of done ++ left ≡ words_of options
    → (rest : List (Pair (List ℕ))) × (options ≡ done ++ rest) × (left ≡ words_of rest)
begins [] options left e = (options, refl, e)
begins (p ∷ done) [] left e = absurd cc
begins (p ∷ done) (o ∷ options) left e =
    let same = three_parts p.key p.value o.key o.value (words_of done ++ left) (words_of options) e in
    let more = begins done options left same.2 in
    (more.0, (λ i. one_is o p (sym same.0) (sym same.1) i ∷ more.1 i), more.2)

ends : (a b rest : List (Pair (List ℕ))) → b ≡ a ++ rest → [] ≡ words_of rest → a ≡ b
ends a b [] whole none = sym (whole ∙ append-nil a)
ends a b (p ∷ rest) whole none = absurd cc

-- words are one list of options
pub one_list : (a b : List (Pair (List ℕ))) → words_of a ≡ words_of b → a ≡ b
one_list a b e = let rest = begins a b [] (append-nil (words_of a) ∙ e) in ends a b rest.0 rest.1 rest.2

-- two words and more begin with an option
pub begins_with : (rest : List (Pair (List ℕ))) (o w : List ℕ) (after : List (List ℕ)) → o ∷ w ∷ after ≡ words_of rest
    → (p : Pair (List ℕ)) × (others : List (Pair (List ℕ))) × (rest ≡ p ∷ others) × (o ≡ p.key) × (w ≡ p.value)
begins_with [] o w after e = absurd cc
begins_with (p ∷ others) o w after e =
    let same = three_parts o w p.key p.value after (words_of others) e in (p, others, refl, same.0, same.1)

-- one word is no options
pub no_single : (rest : List (Pair (List ℕ))) (word : List ℕ) → word ∷ [] ≡ words_of rest → ⊥
no_single [] word e = absurd cc
no_single (p ∷ others) word e = absurd cc

-- ---- lists of options with one among them

pub all_at : (test : Pair (List ℕ) → Bool) (done others : List (Pair (List ℕ))) (p : Pair (List ℕ)) → list_all test (done ++ (p ∷ others)) ≡ true → test p ≡ true
all_at test done others p all =
    let parts = and_parts (list_all test done) (list_all test (p ∷ others)) (sym (list_all-append test done (p ∷ others)) ∙ all) in
    (and_parts (test p) (list_all test others) parts.1).0

pub or_false : (a b : Bool) → (a || b) ≡ false → (a ≡ false) × (b ≡ false)
or_false true b h = absurd (false≢true (sym h))
or_false false b h = (refl, h)

-- options with distinct keys have none twice
pub new_at : (done others : List (Pair (List ℕ))) (p : Pair (List ℕ)) → have_distinct_keys (done ++ (p ∷ others)) ≡ true → list_any (has_key p.key) done ≡ false
new_at [] others p distinct = refl
new_at (q ∷ done) others p distinct =
    let parts = distinct_parts q (done ++ (p ∷ others)) distinct in
    let none = or_false (list_any (has_key q.key) done) (list_any (has_key q.key) (p ∷ others)) (sym (list_any-append (has_key q.key) done (p ∷ others)) ∙ parts.0) in
    let apart : bytes_eq p.key q.key ≡ false = (or_false (has_key q.key p) (list_any (has_key q.key) others) none.1).0 in
    elim (cases_Bool (has_key p.key q)) [
      | inl same ↦ absurd (false≢true (sym apart ∙ (bytes_eq-Decides p.key q.key).1 (sym ((bytes_eq-Decides q.key p.key).0 same))))
      | inr other ↦ rw other (new_at done others p parts.1)
    ]

-- ---- the words that were found

pub none_found_yet : (command : CommandName) (found : OptionWords) (words : List (List ℕ)) → ((option : CommandOption) → word_in found option ≡ None)
    → AreFoundBefore command found words words
none_found_yet command found words none = record {
  done = [];
  joined = refl;
  are = record { joined = refl; distinct = refl; taken = refl; had = refl };
  are_found = none;
}

-- an option has the name of its row
pub first_holds : (test : CommandOption → Bool) (options : List CommandOption) (option : CommandOption) → find test options ≡ Some option → test option ≡ true
first_holds test [] option e = absurd cc
first_holds test (first ∷ others) option e = elim (cases_Bool (test first)) [
  | inl holds ↦
      let same : Some first ≡ Some option = rw holds at e in
      let first_is : first ≡ option = cc in
      subst (λ (o : CommandOption). test o ≡ true) first_is holds
  | inr other ↦ first_holds test others option (rw other at e)
]

pub name_is : (name : List ℕ) (option : CommandOption) → option_of name ≡ Some option → name ≡ (row_of option).word
name_is name option e =
    (bytes_eq-Decides name (row_of option).word).0 (first_holds (λ o. bytes_eq name (row_of o).word) (Conf ∷ Now ∷ Label ∷ Request ∷ Nonce ∷ Wanted ∷ Script ∷ Other ∷ Into ∷ []) option e)

pub option_named : (test : CommandOption → Bool) (name : List ℕ) (option : CommandOption) → option_of name ≡ Some option
    → unwrap_or (option_map test (option_of name)) false ≡ test option
option_named test name option e = ap (λ (found : Option CommandOption). unwrap_or (option_map test found) false) e

-- a test that holds of the option of a name holds of some option
pub named_option : (found : Option CommandOption) (test : CommandOption → Bool) → unwrap_or (option_map test found) false ≡ true
    → (option : CommandOption) × (found ≡ Some option) × (test option ≡ true)
named_option None test holds = absurd cc
named_option (Some option) test holds = (option, refl, holds)

none_found : (option : List ℕ) (done : List (Pair (List ℕ))) → list_any (has_key option) done ≡ false → find (has_key option) done ≡ None
none_found option [] none = refl
none_found option (p ∷ done) none =
    let parts = or_false (has_key option p) (list_any (has_key option) done) none in rw parts.0 (none_found option done parts.1)

pub found_none : (option : List ℕ) (done : List (Pair (List ℕ))) → value_of done option ≡ None → list_any (has_key option) done ≡ false
found_none option [] none = refl
found_none option (p ∷ done) none = elim (cases_Bool (has_key option p)) [
  | inl same ↦ let some : Some p.value ≡ None = rw same at none in absurd cc
  | inr other ↦ rw other (found_none option done (rw other at none))
]

pub value_none : (option : List ℕ) (done : List (Pair (List ℕ))) → list_any (has_key option) done ≡ false → value_of done option ≡ None
value_none option done none = ap (λ (found : Option (Pair (List ℕ))). option_map (λ pair. pair.value) found) (none_found option done none)

-- the value with one more pair, whose key is new
pub value_more : (option : List ℕ) (done : List (Pair (List ℕ))) (p : Pair (List ℕ)) → list_any (has_key p.key) done ≡ false
    → value_of (done ++ (p ∷ [])) option ≡ (if bytes_eq p.key option then Some p.value else value_of done option)
value_more option [] p none = elim (cases_Bool (bytes_eq p.key option)) [
  | inl same ↦ rw same refl
  | inr other ↦ rw other refl
]
value_more option (q ∷ done) p none =
    let parts = or_false (has_key p.key q) (list_any (has_key p.key) done) none in
    elim (cases_Bool (has_key option q)) [
      | inl same ↦ elim (cases_Bool (bytes_eq p.key option)) [
        | inl also ↦
            let q_is : q.key ≡ option = (bytes_eq-Decides q.key option).0 same in
            let p_is : p.key ≡ option = (bytes_eq-Decides p.key option).0 also in
            absurd (false≢true (sym parts.0 ∙ (bytes_eq-Decides q.key p.key).1 (q_is ∙ sym p_is)))
        | inr other ↦ rw (same, other) refl
      ]
      | inr other ↦ rw other (value_more option done p parts.1)
    ]

pub snoc_test : (test : Pair (List ℕ) → Bool) (done : List (Pair (List ℕ))) (p : Pair (List ℕ)) → list_all test done ≡ true → test p ≡ true → list_all test (done ++ (p ∷ [])) ≡ true
snoc_test test done p all is = list_all-append test done (p ∷ []) ∙ rw (all, is) refl

-- the options with one more
pub one_more_found : (command : CommandName) (found now : OptionWords) (words after : List (List ℕ)) (name word : List ℕ)
    → AreFoundBefore command found words (name ∷ word ∷ after) → AddsOption command found name word now → AreFoundBefore command now words after
one_more_found command found now words after name word so_far more =
    let option = more.option in
    let next = more.next in
    let pair : Pair (List ℕ) = record { key = name; value = word } in
    let named : name ≡ (row_of option).word = name_is name option next.named in
    let none : value_of so_far.done name ≡ None =
    ap (λ (n : List ℕ). value_of so_far.done n) named ∙ (sym (so_far.are_found option) ∙ next.is_new) in
    let is_new : list_any (has_key name) so_far.done ≡ false = found_none name so_far.done none in
    record {
      done = so_far.done ++ (pair ∷ []);
      joined = so_far.joined ∙ (sym (append_assoc (words_of so_far.done) (name ∷ word ∷ []) after)
          ∙ ap (λ (words : List (List ℕ)). words ++ after) (sym (words_joined so_far.done (pair ∷ []))));
      are = record {
        joined = refl;
        distinct = rw (put_new so_far.done name word is_new) (put_distinct so_far.done name word so_far.are.distinct);
        taken = snoc_test (λ p. takes command p.key) so_far.done pair so_far.are.taken (option_named (is_taken_by command) name option next.named ∙ next.taken);
        had = snoc_test (λ p. may_have p.key p.value) so_far.done pair so_far.are.had (option_named (λ o. (row_of o).may_have word) name option next.named ∙ next.had);
      };
      are_found = λ other. more.added other
          ∙ ((λ i. if bytes_eq (sym named i) (row_of other).word then Some word else so_far.are_found other i)
          ∙ sym (value_more (row_of other).word so_far.done pair is_new));
    }

pub all_found : (command : CommandName) (found : OptionWords) (words : List (List ℕ)) → AreFoundBefore command found words [] → HasOptions command words found
all_found command found words so_far =
    let e : words ≡ words_of so_far.done = so_far.joined ∙ append-nil (words_of so_far.done) in
    let word_is = λ (option : CommandOption) (others : List (Pair (List ℕ))) (are : words ≡ words_of others).
    so_far.are_found option ∙ ap (λ (all : List (Pair (List ℕ))). value_of all (row_of option).word) (one_list so_far.done others (sym e ∙ are)) in
    record {
      options = so_far.done;
      are = record { joined = e; distinct = so_far.are.distinct; taken = so_far.are.taken; had = so_far.are.had };
      conf_is = word_is Conf;
      now_is = word_is Now;
      label_is = word_is Label;
      request_is = word_is Request;
      nonce_is = word_is Nonce;
      wanted_is = word_is Wanted;
      script_is = word_is Script;
      other_is = word_is Other;
      into_is = word_is Into;
    }

-- an option that comes after those that were found, in options of the command, can come next
pub comes_next : (command : CommandName) (found : OptionWords) (done others : List (Pair (List ℕ))) (p : Pair (List ℕ)) (words : List (List ℕ))
    → AreOptions command words (done ++ (p ∷ others)) → AreWordsOf found done
    → (option : CommandOption) × IsNextOption command found p.key p.value option
comes_next command found done others p words are are_found =
    let took = named_option (option_of p.key) (is_taken_by command) (all_at (λ p. takes command p.key) done others p are.taken) in
    let had = named_option (option_of p.key) (λ o. (row_of o).may_have p.value) (all_at (λ p. may_have p.key p.value) done others p are.had) in
    let named : p.key ≡ (row_of took.0).word = name_is p.key took.0 took.1 in
    let same : had.0 ≡ took.0 = some_is (sym had.1 ∙ took.1) in (
      took.0,
      record {
        named = took.1;
        is_new = are_found took.0 ∙ (ap (λ (n : List ℕ). value_of done n) (sym named) ∙ value_none p.key done (new_at done others p are.distinct));
        taken = took.2;
        had = subst (λ (o : CommandOption). (row_of o).may_have p.value ≡ true) same had.2;
      },
    )
  where
    some_is : {x y : CommandOption} → Some x ≡ Some y → x ≡ y
    some_is e = cc

-- an option that can't come next is in no options
pub none_next : (command : CommandName) (found : OptionWords) (words after : List (List ℕ)) (name word : List ℕ)
    → AreFoundBefore command found words (name ∷ word ∷ after) → ((option : CommandOption) → IsNextOption command found name word option → ⊥)
    → (options : List (Pair (List ℕ))) → AreOptions command words options → ⊥
none_next command found words after name word so_far none options are =
    let rest = begins so_far.done options (name ∷ word ∷ after) (sym so_far.joined ∙ are.joined) in
    let first = begins_with rest.0 name word after rest.2 in
    let whole : options ≡ so_far.done ++ (first.0 ∷ first.1) = rest.1 ∙ ap (λ (others : List (Pair (List ℕ))). so_far.done ++ others) first.2 in
    let next = comes_next command found so_far.done first.1 first.0 words (subst (λ (all : List (Pair (List ℕ))). AreOptions command words all) whole are) so_far.are_found in
    none next.0 (subst (λ (n : List ℕ). IsNextOption command found n word next.0) (sym first.3)
    (subst (λ (w : List ℕ). IsNextOption command found first.0.key w next.0) (sym first.4) next.1))

-- one word that is left over makes the words none
pub none_left_over : (command : CommandName) (found : OptionWords) (words left : List (List ℕ)) → AreFoundBefore command found words left → length left < 2
    → (left ≡ [] → ⊥) → (options : List (Pair (List ℕ))) → AreOptions command words options → ⊥
none_left_over command found words [] so_far few some options are = some refl
none_left_over command found words (word ∷ []) so_far few some options are =
    let rest = begins so_far.done options (word ∷ []) (sym so_far.joined ∙ are.joined) in no_single rest.0 word rest.2
none_left_over command found words (word ∷ other ∷ more) so_far few some options are = absurd (omega (arith, few))

-- the word of an option is one that it may have
pub value_had : (option word : List ℕ) (options : List (Pair (List ℕ))) → list_all (λ p. may_have p.key p.value) options ≡ true
    → value_of options option ≡ Some word → may_have option word ≡ true
value_had option word [] had is = absurd cc
value_had option word (p ∷ options) had is =
    let parts = and_parts (may_have p.key p.value) (list_all (λ p. may_have p.key p.value) options) had in
    elim (cases_Bool (has_key option p)) [
      | inl same ↦
          let value : Some p.value ≡ Some word = rw same at is in
          let word_is : p.value ≡ word = cc in
          subst (λ (k : List ℕ). may_have k word ≡ true) ((bytes_eq-Decides p.key option).0 same) (subst (λ (w : List ℕ). may_have p.key w ≡ true) word_is parts.0)
      | inr other ↦ value_had option word options parts.1 (rw other at is)
    ]

pub word_had : (option : List ℕ) (options : List (Pair (List ℕ))) (word : Option (List ℕ)) → list_all (λ p. may_have p.key p.value) options ≡ true
    → word ≡ value_of options option → IfSome word (λ word. may_have option word ≡ true)
word_had option options None had is = tt
word_had option options (Some word) had is = value_had option word options had (sym is)

pub if_none : {X : Type 0} {P Q : Type 0} (found : Option X) → (P → Q) → IfNone found P → IfNone found Q
if_none None f p = f p
if_none (Some x) f p = p

pub if_some : {X : Type 0} {P Q : X → Type 0} (found : Option X) → ((x : X) → P x → Q x) → IfSome found P → IfSome found Q
if_some None f p = p
if_some (Some x) f p = f x p

-- no words are left
pub none_left : {X : Type 0} (f : X → List ℕ) (words : List X) → (length words == 0) ≡ true → map f words ≡ []
none_left f [] none = refl
none_left f (word ∷ words) none = let zero : length words + 1 ≡ 0 = grind (arith, nat_tests) in absurd (omega (arith, zero))

pub some_left : {X : Type 0} (f : X → List ℕ) (words : List X) → (length words == 0) ≡ false → map f words ≡ [] → ⊥
some_left f [] some none = let e : true ≡ false = some in false≢true (sym e)
some_left f (word ∷ words) some none = absurd cc
