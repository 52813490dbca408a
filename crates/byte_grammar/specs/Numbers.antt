-- Numbers in the lines of recorded formats.
use Rattle.std.specs.Prelude.{ℕ, ◌<◌, ◌^◌, List, ◌++◌, codes}
use Rattle.std.specs.Fmt.{decimal}
use Rattle.byte_grammar.specs.declared.number.TheConstants.{MAX_NUMBER_DIGITS}

-- a number of few digits
abbrev pub IsNumber : ℕ → Type 0
IsNumber number = number < 10 ^ MAX_NUMBER_DIGITS

-- a line with a number, which has no leading zeros
abbrev pub number_line : List ℕ → ℕ → List ℕ
number_line word number = word ++ (decimal number ++ codes "\n")
