-- Laws of numbers and of options.
use Rattle.std.specs.Prelude.{◌≡◌, ◌↔◌, ◌<◌, ◌^◌, ℕ, false, Option, Some, None, List, ◌∷◌, ◌++◌, IfSome, IsTrue}
use Rattle.std.specs.List.{list_all, list_any}
use Rattle.std.specs.Str.Parse.{digits_value}
use Rattle.sfv_text.specs.Keys.{has_key, value_of}
use Rattle.sfv_text.specs.declared.pair.Pair.{Pair}
use Rattle.command_options.specs.Found.{word_in, AddsOption, AreFoundBefore, AreWordsOf, IsNextOption}
use Rattle.command_options.specs.Numbers.{is_number}
use Rattle.command_options.specs.Options.{is_moment, may_have, option_of, row_of, words_of, AreOptions}
use Rattle.command_options.specs.declared.options.CommandName.{CommandName}
use Rattle.command_options.specs.declared.options.CommandOption.{CommandOption}
use Rattle.command_options.specs.declared.options.OptionWords.{OptionWords}
use Rattle.command_options.specs.declared.options.TheConstants.{MAX_MOMENT_DIGITS}

-- a number of at most so many digits is less than any number of more digits
abbrev pub AreNumbersBelow : Type 0
AreNumbersBelow =
    (most : ℕ) (word : List ℕ) → IsTrue (is_number most word) → digits_value 10 word < 10 ^ most

-- and so is a moment
abbrev pub AreMomentsBelow : Type 0
AreMomentsBelow =
    (word : List ℕ) → IsTrue (is_moment word) → digits_value 10 word < 10 ^ MAX_MOMENT_DIGITS

-- words are those of at most one list of options
abbrev pub AreOneList : Type 0
AreOneList =
    (options others : List (Pair (List ℕ))) → words_of options ≡ words_of others → options ≡ others

-- options whose words begin with those of others are the others and more
abbrev pub BeginWithOptions : Type 0
BeginWithOptions =
    (done options : List (Pair (List ℕ))) (left : List (List ℕ))
    → words_of done ++ left ≡ words_of options
    → (rest : List (Pair (List ℕ))) × (options ≡ done ++ rest) × (left ≡ words_of rest)

-- the option of a name has that name in its row
abbrev pub HasNameOfRow : Type 0
HasNameOfRow =
    (name : List ℕ) (option : CommandOption) → option_of name ≡ Some option
    → name ≡ (row_of option).word

-- a name has no word exactly where no option has that name
abbrev pub HasNoWord : Type 0
HasNoWord =
    (name : List ℕ) (options : List (Pair (List ℕ)))
    → (value_of options name ≡ None) ↔ (list_any (has_key name) options ≡ false)

-- where each option has a word that it may have, so has the one of this name
abbrev pub HasRightWord : Type 0
HasRightWord =
    (name word : List ℕ) (options : List (Pair (List ℕ)))
    → IsTrue (list_all (λ option. may_have option.key option.value) options)
    → value_of options name ≡ Some word → IsTrue (may_have name word)

-- and so has the one of this name, if there is one
abbrev pub MayHaveItsWord : Type 0
MayHaveItsWord =
    (name : List ℕ) (options : List (Pair (List ℕ))) (found : Option (List ℕ))
    → IsTrue (list_all (λ option. may_have option.key option.value) options)
    → found ≡ value_of options name → IfSome found (λ word. IsTrue (may_have name word))

-- before the first word no option has a word
abbrev pub BeginsFound : Type 0
BeginsFound =
    (command : CommandName) (found : OptionWords) (words : List (List ℕ))
    → ((option : CommandOption) → word_in found option ≡ None)
    → AreFoundBefore command found words words

-- an option that can come next is found after the others
abbrev pub FindsOneMore : Type 0
FindsOneMore =
    (command : CommandName) (found now : OptionWords) (words after : List (List ℕ))
    (name word : List ℕ) → AreFoundBefore command found words (name ∷ word ∷ after)
    → AddsOption command found name word now → AreFoundBefore command now words after

-- in options of the command, the one after those that were found can come next
abbrev pub ComesNext : Type 0
ComesNext =
    (command : CommandName) (found : OptionWords) (done others : List (Pair (List ℕ)))
    (pair : Pair (List ℕ)) (words : List (List ℕ))
    → AreOptions command words (done ++ pair ∷ others) → AreWordsOf found done
    → (option : CommandOption) × IsNextOption command found pair.key pair.value option
