-- The places of pairs by their keys.
-- No public clause cites this module.
use Rattle.std.specs.Prelude.{◌≡◌, ℕ, List, Option, IfSome}
use Rattle.std.specs.Coded.{Coded, coded_list, coded_ℕ}
use Rattle.std.specs.Cmp.Lexicographic.{slice_cmp}
use Rattle.std.specs.FinMap as finite
use Rattle.std.specs.List.{position}
use Rattle.std.specs.Ordering.{nat_cmp}
use Rattle.sfv_text.specs.declared.pair.Pair.{Pair}
use Rattle.sfv_text.specs.Keys.{has_key}

-- from keys to places in a list of pairs
abbrev pub Places : Type 0
Places = finite.FinMap (slice_cmp nat_cmp) ℕ

abbrev pub places_code : Coded Places
places_code = finite.code (coded_list coded_ℕ) coded_ℕ

-- every key has the place of its pair, and no other
abbrev pub ArePlacesOf : {V : Type 0} → Places → List (Pair V) → Type 0
ArePlacesOf places pairs =
    (key : List ℕ) → finite.get places key ≡ position (has_key key) pairs

-- where there is an index, it has the places
abbrev pub Indexes : {V : Type 0} → Option Places → List (Pair V) → Type 0
Indexes index pairs = IfSome index (λ places. ArePlacesOf places pairs)
