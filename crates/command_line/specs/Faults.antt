-- What is wrong with words that are no command: the first word with which they are no more the
-- beginning of one, or what is missing at their end.
use Rattle.std.specs.Prelude.{◌≡◌, ◌⊎◌, ℕ, false, Option, Some, None, List, [], ◌∷◌, ◌++◌, codes, IsTrue}
use Rattle.std.specs.List.{list_any}
use Rattle.std.specs.Str.{bytes_eq}
use Rattle.sfv_text.specs.Keys.{has_key}
use Rattle.sfv_text.specs.declared.pair.Pair.{Pair}
use Rattle.command_line.specs.Command.{CommandLine, HelpOf, IsCommand}
use Rattle.command_options.specs.Names.{command_of, command_word, first_command}
use Rattle.command_options.specs.Numbers.{IsCount, IsSeed}
use Rattle.command_options.specs.Options.{row_of, takes, words_of, AreOptions}
use Rattle.command_options.specs.declared.options.CommandName.{CommandName}
use Rattle.command_options.specs.declared.options.CommandName.TheVariants as name
use Rattle.command_options.specs.declared.options.CommandOption.{CommandOption}
use Rattle.command_options.specs.declared.options.CommandOption.TheVariants.{Nonce, Wanted}
use Rattle.command_line.specs.declared.fault.WordsReason.{WordsReason}
use Rattle.command_line.specs.declared.fault.WordsReason.TheVariants.{NoWords, NoCommand, LeftOver, NotTaken, Twice, Excluded, NoWord, BadWord, Missing, NoParams, NoSeed, BadSeed, NoCount, BadCount}

-- with further words they are a command
abbrev pub BeginsCommand : List (List ℕ) → Type 0
BeginsCommand words =
    (more : List (List ℕ)) × (command : CommandLine) × IsCommand (words ++ more) command

-- The words are these two parts. The first one begins a command; with the first word of the
-- second one it doesn't.
pub record AreParted (words before from : List (List ℕ)) : Type 0 where
  pub joined : words ≡ before ++ from
  pub begins : BeginsCommand before
  pub wrong : (word : List ℕ) (after : List (List ℕ)) → from ≡ word ∷ after
      → ¬ BeginsCommand (before ++ word ∷ [])

-- the word comes first
pub record IsFirstOf (word : List ℕ) (words : List (List ℕ)) : Type 0 where
  pub after : List (List ℕ)
  pub joined : words ≡ word ∷ after

-- the words before the options of a command: its name, and PARAMS after `base`
abbrev pub IsStart : CommandName → List (List ℕ) → Type 0
IsStart name.Base words = (params : List ℕ) × (words ≡ codes "base" ∷ params ∷ [])
IsStart name.Sample words = ⊥
IsStart command words = words ≡ command_word command ∷ []

-- the words are those of a command with options, among which is this one
pub record HasOption (command : CommandName) (words : List (List ℕ)) (option : CommandOption)
    : Type 0 where
  pub start : List (List ℕ)
  pub options : List (Pair (List ℕ))
  pub joined : words ≡ start ++ words_of options
  pub starts : IsStart command start
  pub are : AreOptions command (words_of options) options
  pub has : IsTrue (list_any (has_key (row_of option).word) options)

-- the words are those of a command with options, and then the name of this option
pub record EndsInName (words : List (List ℕ)) (option : CommandOption) : Type 0 where
  pub command : CommandName
  pub start : List (List ℕ)
  pub options : List (Pair (List ℕ))
  pub joined : words ≡ (start ++ words_of options) ++ (row_of option).word ∷ []
  pub starts : IsStart command start
  pub are : AreOptions command (words_of options) options

-- the options exclude each other
abbrev pub Exclude : CommandOption → CommandOption → Type 0
Exclude Nonce given = given ≡ Wanted
Exclude Wanted given = given ≡ Nonce
Exclude option given = ⊥

-- each command that the words begin has this word after them, or asks for help
abbrev pub Need : List (List ℕ) → List ℕ → Type 0
Need words word =
    (more : List (List ℕ)) (command : CommandLine) → IsCommand (words ++ more) command
    → ((name : CommandName) → ¬ (command ≡ HelpOf name))
    → IsTrue (list_any (λ other. bytes_eq other word) more)

-- no words are left, and these have to come
abbrev pub LacksAfter : List (List ℕ) → List (List ℕ) → List (List ℕ) → Type 0
LacksAfter start before from = (before ≡ start) × (from ≡ [])

-- what is wrong after the words that begin a command, with the first of the others, or for want of
-- others
abbrev pub IsReason : WordsReason → List (List ℕ) → List (List ℕ) → Type 0
IsReason NoWords before from = LacksAfter [] before from
IsReason NoCommand before from =
    ((before ≡ []) ⊎ (before ≡ codes "help" ∷ []))
    × ((word : List ℕ) × IsFirstOf word from × (command_of word ≡ None))
IsReason LeftOver before from =
    (word : List ℕ) × IsFirstOf word from × (command : CommandLine) × IsCommand before command
IsReason (NotTaken command) before from =
    (first_command before ≡ Some command)
    × ((word : List ℕ) × IsFirstOf word from × (takes command word ≡ false))
IsReason (Twice command option) before from =
    IsFirstOf (row_of option).word from × HasOption command before option
IsReason (Excluded option given) before from =
    IsFirstOf (row_of option).word from × HasOption name.Sign before given × Exclude option given
IsReason (NoWord option) before from = EndsInName before option × (from ≡ [])
IsReason (BadWord option) before from =
    (word : List ℕ) × EndsInName before option × IsFirstOf word from
    × ((row_of option).may_have word ≡ false)
IsReason (Missing command option) before from =
    (first_command before ≡ Some command) × Need before (row_of option).word × (from ≡ [])
IsReason NoParams before from = LacksAfter (codes "base" ∷ []) before from
IsReason NoSeed before from = LacksAfter (codes "sample" ∷ []) before from
IsReason BadSeed before from =
    (word : List ℕ) × (before ≡ codes "sample" ∷ []) × IsFirstOf word from
    × ((seed : ℕ) → ¬ IsSeed word seed)
IsReason NoCount before from =
    (seed : List ℕ) × LacksAfter (codes "sample" ∷ seed ∷ []) before from
IsReason BadCount before from =
    (seed word : List ℕ) × (before ≡ codes "sample" ∷ seed ∷ []) × IsFirstOf word from
    × ((count : ℕ) → ¬ IsCount word count)

-- the words are wrong from there on, for that reason; the command is that of their first word
pub record IsWordsFault (words : List (List ℕ)) (command : Option CommandName)
    (reason : WordsReason) (from : List (List ℕ)) : Type 0 where
  pub before : List (List ℕ)
  pub separated : AreParted words before from
  pub is : IsReason reason before from
  pub command_is : command ≡ first_command words
