-- Sizes as the code adds them up. No public clause cites this module.
use Rattle.std.specs.Prelude.{ℕ, ◌-◌, Bool, ◌&&◌, ◌==◌, nat_le, List, [], ◌∷◌}

-- the sizes add up to what is left
abbrev pub adds_up : ℕ → List ℕ → Bool
adds_up left [] = left == 0
adds_up left (size ∷ sizes) = nat_le size left && adds_up (left - size) sizes
