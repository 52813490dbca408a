-- Languages made of smaller ones, as readers are. No public clause cites this module.
use Rattle.std.specs.Prelude.{◌≡◌, ℕ, Bool, List, [], ◌∷◌, ◌++◌, Option, Some, None, IsTrue}
use Rattle.std.specs.List.{list_all}

-- a text and then a text
pub record Then {U V : Type 0} (K : List ℕ → U → Type 0) (L : U → List ℕ → V → Type 0)
    (text : List ℕ) (v : V) : Type 0 where
  pub first : List ℕ
  pub second : List ℕ
  pub value : U
  pub joined : text ≡ first ++ second
  pub spells : K first value
  pub more : L value second v

-- a text of the language, or none
abbrev pub Optional : {V : Type 0} → (List ℕ → V → Type 0) → List ℕ → Option V → Type 0
Optional L text None = text ≡ []
Optional L text (Some v) = L text v

-- the same texts with other values
abbrev pub Mapped : {V W : Type 0} → (V → W) → (List ℕ → V → Type 0) → List ℕ → W → Type 0
Mapped {V} f L text w = (v : V) × L text v × (f v ≡ w)

-- the texts of some kind
abbrev pub Among : {I V : Type 0} → (I → List ℕ → V → Type 0) → List ℕ → V → Type 0
Among {I} L text v = (i : I) × L i text v

-- texts, each with a value, and a last one without
abbrev pub Turns : {V : Type 0} → (List ℕ → Option V → Type 0) → List ℕ → List V → Type 0
Turns L text [] = L text None
Turns {V} L text (v ∷ vs) =
    (first second : List ℕ) × (text ≡ first ++ second) × L first (Some v) × Turns L second vs

-- one byte of a class
pub record IsByte (class : ℕ → Bool) (text : List ℕ) (c : ℕ) : Type 0 where
  pub same : text ≡ c ∷ []
  pub passes : IsTrue (class c)

-- bytes of a class
pub record IsAll (class : ℕ → Bool) (text : List ℕ) (v : List ℕ) : Type 0 where
  pub same : text ≡ v
  pub passes : IsTrue (list_all class v)
