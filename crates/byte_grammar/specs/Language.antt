-- Texts of languages. A language is a relation between texts and the values that they spell.
use Rattle.std.specs.Prelude.{◌≡◌, ℕ, ◌≤◌, Bool, false, List, [], ◌∷◌, ◌++◌, length, IsTrue}
use Rattle.std.specs.List.{list_all}

-- some text with this prefix is in the language
abbrev pub Begins : {V : Type 0} → (List ℕ → V → Type 0) → List ℕ → Type 0
Begins {V} L prefix = (more : List ℕ) × (v : V) × L (prefix ++ more) v

-- texts of the language one after the other
abbrev pub Each : {V : Type 0} → (List ℕ → V → Type 0) → List ℕ → List V → Type 0
Each L text [] = text ≡ []
Each {V} L text (v ∷ vs) =
    (first second : List ℕ) × (text ≡ first ++ second) × L first v × Each L second vs

-- a separator, and a text of the language
pub record IsFurther {V : Type 0} (Separates : List ℕ → Type 0) (L : List ℕ → V → Type 0)
    (text : List ℕ) (v : V) : Type 0 where
  pub separator : List ℕ
  pub rest : List ℕ
  pub joined : text ≡ separator ++ rest
  pub separates : Separates separator
  pub spells : L rest v

-- texts of the language, with a separator between each two of them
abbrev pub SeparatedBy : {V : Type 0} → (List ℕ → Type 0) → (List ℕ → V → Type 0)
    → List ℕ → List V → Type 0
SeparatedBy Separates L text [] = text ≡ []
SeparatedBy Separates L text (v ∷ vs) = (first second : List ℕ)
    × (text ≡ first ++ second) × L first v × Each (IsFurther Separates L) second vs

-- the text begins with a byte of the class
abbrev pub starts_in : (ℕ → Bool) → List ℕ → Bool
starts_in class [] = false
starts_in class (c ∷ rest) = class c

-- bytes of a class, so many at least and at most; their value is the text itself
pub record IsRun (class : ℕ → Bool) (minimum maximum : ℕ) (text v : List ℕ) : Type 0 where
  pub same : text ≡ v
  pub passes : IsTrue (list_all class v)
  pub least : minimum ≤ length v
  pub most : length v ≤ maximum

-- the text is made of bytes of the class, so many at least and at most
abbrev pub AreBytesOf : (ℕ → Bool) → ℕ → ℕ → List ℕ → Type 0
AreBytesOf class minimum maximum text = IsRun class minimum maximum text text

-- a byte of one class and then bytes of another; their value is the text itself
abbrev pub IsWord : (ℕ → Bool) → (ℕ → Bool) → List ℕ → List ℕ → Type 0
IsWord first others text [] = ⊥
IsWord first others text (c ∷ rest) =
    (text ≡ c ∷ rest) × IsTrue (first c) × IsTrue (list_all others rest)

-- the state after all of them
abbrev pub after_all : {S V : Type 0} → (S → V → S) → S → List V → S
after_all f s [] = s
after_all f s (v ∷ vs) = after_all f (f s v) vs

-- a text with bytes of the class at both ends
pub record Padded {V : Type 0} (class : ℕ → Bool) (L : List ℕ → V → Type 0)
    (text : List ℕ) (v : V) : Type 0 where
  pub before : List ℕ
  pub middle : List ℕ
  pub after : List ℕ
  pub joined : text ≡ before ++ (middle ++ after)
  pub class_before : IsTrue (list_all class before)
  pub class_after : IsTrue (list_all class after)
  pub spells : L middle v
