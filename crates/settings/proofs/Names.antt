-- Names in the order of their bytes.
use Rattle.std.proofs.Common.{◌≡◌, ℕ, List, Ordering, Equal, nat_cmp}
use Rattle.std.specs.FinMap as map
use Rattle.std.specs.Cmp.Lexicographic.{slice_cmp}

abbrev pub name_cmp : List ℕ → List ℕ → Ordering
name_cmp = slice_cmp nat_cmp

pub same_name : (a b : List ℕ) → name_cmp a b ≡ Equal → a ≡ b
same_name a b e = map.slice_cmp-IsAntisymmetric map.nat_cmp-IsAntisymmetric a b e
