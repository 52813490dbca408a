-- Paths of what is refused, and the least of them.
use Rattle.std.specs.Prelude.{◌≡◌, ◌⊎◌, ℕ, List, [], ◌∷◌}
use Rattle.std.specs.Ordering.{nat_cmp}
use Rattle.std.specs.declared.cmp.Ordering.TheVariants.{Less}
use Rattle.std.specs.Cmp.Lexicographic.{slice_cmp}

-- the fact holds of one of them with that path
abbrev pub HoldsAtPath : {X : Type 0} → (X → List ℕ) → (X → Type 0) → List X → List ℕ → Type 0
HoldsAtPath path_of P [] path = ⊥
HoldsAtPath path_of P (x ∷ xs) path = (P x × (path_of x ≡ path)) ⊎ HoldsAtPath path_of P xs path

-- the fact holds of none of them
abbrev pub HoldsOfNone : {X : Type 0} → (X → Type 0) → List X → Type 0
HoldsOfNone P [] = Unit {0}
HoldsOfNone P (x ∷ xs) = (P x → ⊥) × HoldsOfNone P xs

-- it is such a path, and none before it in the order of bytes is
pub record IsLeast (Holds : List ℕ → Type 0) (path : List ℕ) : Type 0 where
  pub holds : Holds path
  pub least : (other : List ℕ) → Holds other → ¬ (slice_cmp nat_cmp other path ≡ Less)
