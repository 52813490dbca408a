-- The options of the commands, and the words that they may have.
use Rattle.std.specs.Prelude.{◌≡◌, ℕ, Bool, true, false, ◌&&◌, ◌||◌, if◌then◌else◌, nat_lt, nat_le, List, [], ◌∷◌, length, codes, Option, option_map, unwrap_or, IsTrue}
use Rattle.std.specs.List.{find, flat_map, list_all, list_any}
use Rattle.std.specs.Str.{bytes_eq}
use Rattle.sfv_text.specs.Classes.{is_key, is_string_byte}
use Rattle.sfv_text.specs.Keys.{have_distinct_keys}
use Rattle.sfv_text.specs.declared.pair.Pair.{Pair}
use Rattle.nonces.specs.declared.limits.TheConstants.{MAX_NONCE_BYTES}
use Rattle.command_options.specs.Numbers.{is_number}
use Rattle.command_options.specs.declared.options.CommandName.{CommandName}
use Rattle.command_options.specs.declared.options.CommandName.TheVariants.{Base, Verify, Sign, Rewrite, Explain, Audit, Gateway, Lists, Negotiate, Sample}
use Rattle.command_options.specs.declared.options.CommandOption.{CommandOption}
use Rattle.command_options.specs.declared.options.CommandOption.TheVariants.{Conf, Now, Label, Request, Nonce, Wanted, Script, Other, Into}
use Rattle.command_options.specs.declared.options.TheConstants.{MAX_MOMENT_DIGITS}

-- a file has a name
abbrev pub is_file_name : List ℕ → Bool
is_file_name word = nat_lt 0 (length word)

-- 1 to 15 digits, which may begin with zeros
abbrev pub is_moment : List ℕ → Bool
is_moment = is_number MAX_MOMENT_DIGITS

-- 1 to 256 bytes of a String (RFC 9651 section 3.3.3)
abbrev pub is_nonce : List ℕ → Bool
is_nonce word =
    nat_lt 0 (length word) && (nat_le (length word) MAX_NONCE_BYTES && list_all is_string_byte word)

-- what a list or a message is turned into: a message, or a list
abbrev pub into_word : Bool → List ℕ
into_word into_message = if into_message then codes "message" else codes "fields"

-- one of the two words that say it
abbrev pub is_into : List ℕ → Bool
is_into word = bytes_eq word (into_word true) || bytes_eq word (into_word false)

-- an option: its name, the commands that take it, and the words that it may have
pub record OptionRow : Type 0 where
  pub word : List ℕ
  pub commands : List CommandName
  pub may_have : List ℕ → Bool

-- A moment is a number of seconds, and a label is the key of a Dictionary (RFC 9421 section 4.1).
abbrev pub row_of : CommandOption → OptionRow
row_of Conf = record {
  word = codes "--conf";
  commands = Base ∷ Verify ∷ Sign ∷ Rewrite ∷ Explain ∷ Audit ∷ Gateway ∷ Lists ∷ Negotiate ∷ [];
  may_have = is_file_name;
}
row_of Now = record {
  word = codes "--now";
  commands = Verify ∷ Sign ∷ Negotiate ∷ [];
  may_have = is_moment;
}
row_of Label = record {
  word = codes "--label";
  commands = Verify ∷ Rewrite ∷ Explain ∷ [];
  may_have = is_key;
}
row_of Request = record {
  word = codes "--request";
  commands = Base ∷ Verify ∷ Sign ∷ Rewrite ∷ Explain ∷ Negotiate ∷ [];
  may_have = is_file_name;
}
row_of Nonce = record { word = codes "--nonce"; commands = Sign ∷ []; may_have = is_nonce }
row_of Wanted = record { word = codes "--wanted"; commands = Sign ∷ []; may_have = is_file_name }
row_of Script =
    record { word = codes "--script"; commands = Rewrite ∷ []; may_have = is_file_name }
row_of Other = record { word = codes "--other"; commands = Explain ∷ []; may_have = is_file_name }
row_of Into = record { word = codes "--into"; commands = Lists ∷ []; may_have = is_into }

-- the option of that name
abbrev pub option_of : List ℕ → Option CommandOption
option_of name =
    find (λ option. bytes_eq name (row_of option).word)
    (Conf ∷ Now ∷ Label ∷ Request ∷ Nonce ∷ Wanted ∷ Script ∷ Other ∷ Into ∷ [])

-- the two names are those of one command
abbrev pub is_same_command : CommandName → CommandName → Bool
is_same_command Base Base = true
is_same_command Verify Verify = true
is_same_command Sign Sign = true
is_same_command Rewrite Rewrite = true
is_same_command Explain Explain = true
is_same_command Audit Audit = true
is_same_command Gateway Gateway = true
is_same_command Lists Lists = true
is_same_command Negotiate Negotiate = true
is_same_command Sample Sample = true
is_same_command command other = false

-- the command takes the option
abbrev pub is_taken_by : CommandName → CommandOption → Bool
is_taken_by command option = list_any (is_same_command command) (row_of option).commands

-- the command takes an option of that name
abbrev pub takes : CommandName → List ℕ → Bool
takes command name = unwrap_or (option_map (is_taken_by command) (option_of name)) false

-- an option of that name may have that word
abbrev pub may_have : List ℕ → List ℕ → Bool
may_have name word =
    unwrap_or (option_map (λ option. (row_of option).may_have word) (option_of name)) false

-- the words of options: the name of each, and the word that it has
abbrev pub words_of : List (Pair (List ℕ)) → List (List ℕ)
words_of options = flat_map (λ option. option.key ∷ option.value ∷ []) options

-- The words are these options of the command in any order, none of them twice, and each with a word
-- that it may have.
pub record AreOptions (command : CommandName) (words : List (List ℕ))
    (options : List (Pair (List ℕ))) : Type 0 where
  pub joined : words ≡ words_of options
  pub distinct : IsTrue (have_distinct_keys options)
  pub taken : IsTrue (list_all (λ option. takes command option.key) options)
  pub had : IsTrue (list_all (λ option. may_have option.key option.value) options)
