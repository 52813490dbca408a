-- The texts that the readers of given texts, of numbers and of counted bytes read. No public clause
-- cites this module.
use Rattle.std.specs.Prelude.{◌≡◌, ℕ, Bool, true, List, [], ◌∷◌, ◌++◌, length, codes}
use Rattle.std.specs.Fmt.{decimal}
use Rattle.std.specs.Str.Parse.{digits_value}
use Rattle.byte_grammar.specs.Numbers.{IsNumber}

-- any byte may come next
abbrev pub Anything : {V : Type 0} → V → ℕ → Bool
Anything _ c = true

abbrev pub IsLiteral : List ℕ → List ℕ → List ℕ → Type 0
IsLiteral literal text v = (text ≡ literal) × (literal ≡ v)

-- the digits of a number
abbrev pub IsNumeral : List ℕ → List ℕ → Type 0
IsNumeral text v =
    (text ≡ v) × (v ≡ decimal (digits_value 10 v)) × IsNumber (digits_value 10 v)

-- a number, and this byte
abbrev pub IsEndedNumber : ℕ → List ℕ → ℕ → Type 0
IsEndedNumber end text n = (text ≡ decimal n ++ end ∷ []) × IsNumber n

abbrev pub IsBytes : ℕ → List ℕ → List ℕ → Type 0
IsBytes size text v = (text ≡ v) × (length v ≡ size)

-- so many bytes, and LF
abbrev pub IsCounted : ℕ → List ℕ → List ℕ → Type 0
IsCounted size text v = (text ≡ v ++ codes "\n") × (length v ≡ size)
