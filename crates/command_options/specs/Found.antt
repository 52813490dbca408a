-- The words that options were found to have, one option after the other.
use Rattle.std.specs.Prelude.{◌≡◌, ℕ, Option, None, Some, option_map, is_some, List, ◌++◌, codes, if◌then◌else◌, IsTrue}
use Rattle.std.specs.Str.{bytes_eq}
use Rattle.sfv_text.specs.Keys.{value_of}
use Rattle.sfv_text.specs.declared.pair.Pair.{Pair}
use Rattle.command_options.specs.Options.{is_taken_by, option_of, row_of, words_of, AreOptions}
use Rattle.command_options.specs.declared.options.CommandName.{CommandName}
use Rattle.command_options.specs.declared.options.CommandOption.{CommandOption}
use Rattle.command_options.specs.declared.options.CommandOption.TheVariants.{Conf, Now, Label, Request, Nonce, Wanted, Script, Other, Into}
use Rattle.command_options.specs.declared.options.OptionWords.{OptionWords}

-- the word of the option
abbrev pub word_in : OptionWords → CommandOption → Option (List ℕ)
word_in found Conf = option_map (λ word. word.now) found.conf
word_in found Now = option_map (λ word. word.now) found.now
word_in found Label = option_map (λ word. word.now) found.label
word_in found Request = option_map (λ word. word.now) found.request
word_in found Nonce = option_map (λ word. word.now) found.nonce
word_in found Wanted = option_map (λ word. word.now) found.wanted
word_in found Script = option_map (λ word. word.now) found.script
word_in found Other = option_map (λ word. word.now) found.other
word_in found Into = option_map (λ word. word.now) found.into

-- the option with a word beside which this one can't come
abbrev pub excluding_in : OptionWords → CommandOption → Option CommandOption
excluding_in found Nonce = if is_some (word_in found Wanted) then Some Wanted else None
excluding_in found Wanted = if is_some (word_in found Nonce) then Some Nonce else None
excluding_in found option = None

-- the option has this name, the command takes it, it has no word yet, and it may have this one
pub record IsNextOption (command : CommandName) (found : OptionWords) (name word : List ℕ)
    (option : CommandOption) : Type 0 where
  pub named : option_of name ≡ Some option
  pub is_new : word_in found option ≡ None
  pub taken : IsTrue (is_taken_by command option)
  pub had : IsTrue ((row_of option).may_have word)

-- the option's word is added to those that were found
pub record AddsOption (command : CommandName) (found : OptionWords) (name word : List ℕ)
    (now : OptionWords) : Type 0 where
  pub option : CommandOption
  pub next : IsNextOption command found name word option
  pub added : (other : CommandOption) → word_in now other ≡
      (if bytes_eq (row_of option).word (row_of other).word then Some word
      else word_in found other)

-- each option has the word that it has in these options
abbrev pub AreWordsOf : OptionWords → List (Pair (List ℕ)) → Type 0
AreWordsOf found options =
    (option : CommandOption) → word_in found option ≡ value_of options (row_of option).word

-- where the words are options, this is the word of the option of that name
abbrev pub IsWordOf : List (List ℕ) → List ℕ → Option (List ℕ) → Type 0
IsWordOf words name word =
    (options : List (Pair (List ℕ))) → words ≡ words_of options → word ≡ value_of options name

-- the words are options of the command, and these are the words that they have
pub record HasOptions (command : CommandName) (words : List (List ℕ)) (found : OptionWords)
    : Type 0 where
  pub options : List (Pair (List ℕ))
  pub are : AreOptions command words options
  pub conf_is : IsWordOf words (codes "--conf") (option_map (λ word. word.now) found.conf)
  pub now_is : IsWordOf words (codes "--now") (option_map (λ word. word.now) found.now)
  pub label_is : IsWordOf words (codes "--label") (option_map (λ word. word.now) found.label)
  pub request_is : IsWordOf words (codes "--request") (option_map (λ word. word.now) found.request)
  pub nonce_is : IsWordOf words (codes "--nonce") (option_map (λ word. word.now) found.nonce)
  pub wanted_is : IsWordOf words (codes "--wanted") (option_map (λ word. word.now) found.wanted)
  pub script_is : IsWordOf words (codes "--script") (option_map (λ word. word.now) found.script)
  pub other_is : IsWordOf words (codes "--other") (option_map (λ word. word.now) found.other)
  pub into_is : IsWordOf words (codes "--into") (option_map (λ word. word.now) found.into)

-- the options up to the words that are left, whose words were found
pub record AreFoundBefore (command : CommandName) (found : OptionWords)
    (words left : List (List ℕ)) : Type 0 where
  pub done : List (Pair (List ℕ))
  pub joined : words ≡ words_of done ++ left
  pub are : AreOptions command (words_of done) done
  pub are_found : AreWordsOf found done
