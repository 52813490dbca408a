-- Texts that are compared byte by byte.
use Rattle.std.proofs.Common.{◌≡◌, ℕ, ◌==◌, ◌&&◌, Bool, List, [], ◌∷◌, length, refl, ap, arith}
use Rattle.std.specs.List.{list_all, zip}
use Rattle.std.specs.Char.{to_ascii_lowercase}
use Rattle.std.specs.Str.{bytes_eq, str_to_ascii_lowercase}

-- whether the first byte in lower case is the second
abbrev pub is_pair_lowered : ℕ × ℕ → Bool
is_pair_lowered pair = to_ascii_lowercase pair.0 == pair.1

-- texts of one length are compared pair by pair
pub all_lowered : (text name : List ℕ) → length text ≡ length name → list_all is_pair_lowered (zip text name) ≡ bytes_eq (str_to_ascii_lowercase text) name
all_lowered [] [] same = refl
all_lowered [] (c ∷ name) same = absurd (omega (arith, same))
all_lowered (c ∷ text) [] same = absurd (omega (arith, same))
all_lowered (c ∷ text) (d ∷ name) same = ap (λ others. (to_ascii_lowercase c == d) && others) (all_lowered text name (omega (arith, same)))
