-- Words that are numbers.
use Rattle.std.specs.Prelude.{◌≡◌, ◌≤◌, ℕ, Bool, ◌&&◌, nat_lt, nat_le, List, length, IsTrue}
use Rattle.std.specs.List.{list_all}
use Rattle.std.specs.Str.Parse.{digits_value}
use Rattle.byte_grammar.specs.Classes.{is_digit}
use Rattle.command_options.specs.declared.sample_words.TheConstants.{MAX_COUNT_DIGITS, MAX_SAMPLE_HOPS, MAX_SEED_DIGITS}

-- 1 to so many digits, which may begin with zeros
abbrev pub is_number : ℕ → List ℕ → Bool
is_number most word =
    nat_lt 0 (length word) && (nat_le (length word) most && list_all is_digit word)

-- the word writes the seed of a sample, in 1 to 9 digits
abbrev pub IsSeed : List ℕ → ℕ → Type 0
IsSeed word seed = IsTrue (is_number MAX_SEED_DIGITS word) × (seed ≡ digits_value 10 word)

-- the word writes the number of a sample's hops, in 1 or 2 digits, which is at most 64
abbrev pub IsCount : List ℕ → ℕ → Type 0
IsCount word count =
    IsTrue (is_number MAX_COUNT_DIGITS word) × (count ≡ digits_value 10 word)
    × (count ≤ MAX_SAMPLE_HOPS)
