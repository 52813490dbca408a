-- Faults of words as they are found. No public clause cites this module.
use Rattle.std.specs.Prelude.{◌≡◌, ℕ, Bool, false, ◌||◌, is_none, is_some, Option, Some, None, List, [], ◌∷◌, map, string_bytes, codes, IsTrue}
use Rattle.std.specs.Str.{bytes_eq}
use Rattle.command_line.specs.Command.{CommandLine, IsCommand}
use Rattle.command_line.specs.Faults.{IsWordsFault}
use Rattle.command_options.specs.Options.{is_taken_by, option_of, row_of, takes}
use Rattle.command_line.specs.declared.fault.NextWords.{NextWords}
use Rattle.command_line.specs.declared.fault.WordsFault.{WordsFault}
use Rattle.command_line.specs.declared.fault.WordsReason.{WordsReason}
use Rattle.command_line.specs.declared.fault.WordsReason.TheVariants.{NotTaken, Twice, Excluded}
use Rattle.command_options.specs.declared.options.CommandName.{CommandName}
use Rattle.command_options.specs.declared.options.CommandName.TheVariants as name
use Rattle.command_options.specs.declared.options.CommandOption.{CommandOption}
use Rattle.command_options.specs.declared.options.CommandOption.TheVariants.{Conf, Now, Label, Request, Nonce, Wanted, Script, Other, Into}
use Rattle.command_options.specs.declared.options.OptionWords.{OptionWords}
use Rattle.command_options.specs.Found.{excluding_in, word_in, AreFoundBefore}

-- the words have the fault
abbrev pub HasFault : List (List ℕ) → WordsFault → Type 0
HasFault words fault =
    IsWordsFault words fault.command fault.reason (map string_bytes fault.from.now)

-- the words are a command
abbrev pub AreCommand : List (List ℕ) → Type 0
AreCommand words = (line : CommandLine) × IsCommand words line

-- the word is one after which nothing comes
abbrev pub is_text_name : List ℕ → Bool
is_text_name word = bytes_eq word (codes "--help") || bytes_eq word (codes "--version")

-- the words are `--help` alone
abbrev pub asks_help : List (List ℕ) → Bool
asks_help (word ∷ []) = bytes_eq word (codes "--help")
asks_help words = false

-- the first of the words isn't `--help`, which may stand for PARAMS alone
abbrev pub BeginsNoHelp : CommandName → List (List ℕ) → Type 0
BeginsNoHelp name.Base words = Unit {0}
BeginsNoHelp command words =
    (word : List ℕ) (after : List (List ℕ)) → words ≡ word ∷ after
    → bytes_eq word (codes "--help") ≡ false

-- the options that the command needs
abbrev pub needed : CommandName → List CommandOption
needed name.Base = []
needed name.Verify = Conf ∷ Now ∷ []
needed name.Sign = Conf ∷ Now ∷ []
needed name.Rewrite = Script ∷ []
needed name.Explain = Label ∷ Other ∷ []
needed name.Audit = Conf ∷ []
needed name.Gateway = Conf ∷ []
needed name.Lists = Into ∷ []
needed name.Negotiate = Conf ∷ Now ∷ Request ∷ []
needed name.Sample = []

-- no options were found that can't be beside one another
abbrev pub IsFoundAlone : OptionWords → Type 0
IsFoundAlone found = IsTrue (is_none (word_in found Nonce) || is_none (word_in found Wanted))

-- the options up to the words that are left, whose words were found, and which can be beside one
-- another
pub record AreFound (command : CommandName) (found : OptionWords) (words left : List (List ℕ))
    : Type 0 where
  pub before : AreFoundBefore command found words left
  pub alone : IsFoundAlone found

-- the option of that name can come next
pub record IsNextName (command : CommandName) (found : OptionWords) (name : List ℕ)
    (option : CommandOption) : Type 0 where
  pub named : option_of name ≡ Some option
  pub taken : IsTrue (is_taken_by command option)
  pub is_new : word_in found option ≡ None
  pub alone : excluding_in found option ≡ None

-- the words begin with an option that can come next, and with a word that it may have
pub record AreNextWords (command : CommandName) (found : OptionWords) (words : List (List ℕ))
    (next : NextWords) : Type 0 where
  pub name : List ℕ
  pub joined : words ≡ name ∷ next.word.now ∷ map string_bytes next.after.now
  pub is_next : IsNextName command found name next.option
  pub had : IsTrue ((row_of next.option).may_have next.word.now)

abbrev pub IsNextOrEnd : CommandName → OptionWords → List (List ℕ) → Option NextWords → Type 0
IsNextOrEnd command found words None = words ≡ []
IsNextOrEnd command found words (Some next) = AreNextWords command found words next

-- why none of that name can
abbrev pub IsNameReason : CommandName → OptionWords → List ℕ → WordsReason → Type 0
IsNameReason command found name (NotTaken other) = (other ≡ command) × (takes command name ≡ false)
IsNameReason command found name (Twice other option) =
    (other ≡ command) × (option_of name ≡ Some option) × IsTrue (is_some (word_in found option))
IsNameReason command found name (Excluded option given) =
    (option_of name ≡ Some option) × IsTrue (is_taken_by command option)
    × (excluding_in found option ≡ Some given)
IsNameReason command found name reason = ⊥
