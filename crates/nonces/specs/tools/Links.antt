-- Lists of nodes that are linked by index. No public clause cites this.
use Rattle.std.specs.Prelude.{◌≡◌, ◌↔◌, ◌⊎◌, ⊤, ℕ, Option, Some, None, List, [], ◌∷◌}

-- the index is in the list
abbrev pub IsIn : ℕ → List ℕ → Type 0
IsIn i [] = ⊥
IsIn i (x ∷ xs) = (x ≡ i) ⊎ IsIn i xs

-- no index is in the list twice
abbrev pub AreDistinct : List ℕ → Type 0
AreDistinct [] = ⊤
AreDistinct (x ∷ xs) = (IsIn x xs → ⊥) × AreDistinct xs

-- the links lead from the head through the list, and end there
abbrev pub IsLinked : (ℕ → Option ℕ) → Option ℕ → List ℕ → Type 0
IsLinked next head [] = head ≡ None
IsLinked next head (i ∷ is) = (head ≡ Some i) × IsLinked next (next i) is

-- the backward links lead from each to the one before it, and from the first to this one
abbrev pub LinksBack : (ℕ → Option ℕ) → Option ℕ → List ℕ → Type 0
LinksBack previous before [] = ⊤
LinksBack previous before (i ∷ is) = (previous i ≡ before) × LinksBack previous (Some i) is

-- the links lead from the head through exactly the members, each once
pub record IsListOf (next : ℕ → Option ℕ) (head : Option ℕ) (member : ℕ → Type 0) : Type 0 where
  pub places : List ℕ
  pub linked : IsLinked next head places
  pub distinct : AreDistinct places
  pub exact : (i : ℕ) → IsIn i places ↔ member i

-- the same, and backward links agree with forward links
pub record IsChainOf (next previous : ℕ → Option ℕ) (head : Option ℕ) (member : ℕ → Type 0)
    : Type 0 where
  pub list : IsListOf next head member
  pub back : LinksBack previous None list.places
