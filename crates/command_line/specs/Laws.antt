-- Laws of commands.
use Rattle.std.specs.Prelude.{◌≡◌, ◌⊎◌, ◌<◌, ◌≤◌, ◌^◌, ℕ, List}
use Rattle.command_line.specs.Command.{CommandLine, IsCommand, NoCommand, SampleWords, SpellsSample}
use Rattle.command_options.specs.declared.sample_words.TheConstants.{MAX_SAMPLE_HOPS, MAX_SEED_DIGITS}

-- the arguments spell at most one command
abbrev pub HasOneCommand : Type 0
HasOneCommand =
    (arguments : List (List ℕ)) (one other : CommandLine) →
    IsCommand arguments one → IsCommand arguments other → one ≡ other

-- the arguments spell some command or none
abbrev pub HasCommandOrNone : Type 0
HasCommandOrNone =
    (arguments : List (List ℕ)) →
    ((command : CommandLine) × IsCommand arguments command) ⊎ NoCommand arguments

-- the seed of a sample is less than any number of more digits, and its hops are at most 64
abbrev pub IsSampleBounded : Type 0
IsSampleBounded =
    (arguments : List (List ℕ)) (sample : SampleWords) → SpellsSample arguments sample
    → (sample.seed < 10 ^ MAX_SEED_DIGITS) × (sample.count ≤ MAX_SAMPLE_HOPS)
