-- What is fed of a text in base64, while bytes of it wait. No public clause cites this module.
use Rattle.std.specs.Prelude.{◌≡◌, ℕ, ◌%◌, List, [], ◌∷◌, ◌++◌, length}
use Rattle.base64.specs.Engines.{standard}
use Rattle.base64.specs.GeneralPurpose.{encode_of}
use Rattle.component_values.specs.declared.byte_sequence.Carry.{Carry}
use Rattle.component_values.specs.declared.byte_sequence.Carry.TheVariants.{Nothing, One, Two}

-- the bytes that wait
abbrev pub carried : Carry → List ℕ
carried Nothing = []
carried (One a) = a ∷ []
carried (Two a b) = a ∷ b ∷ []

-- after the text the symbols of the bytes are absorbed, but for those of the bytes that wait
pub record IsEncodedUpTo (Absorbed : List ℕ → Type 0) (carry : Carry) (text bytes : List ℕ)
    : Type 0 where
  pub groups : List ℕ
  pub whole : length groups % 3 ≡ 0
  pub joined : bytes ≡ groups ++ carried carry
  pub fed : Absorbed (text ++ encode_of standard groups)
