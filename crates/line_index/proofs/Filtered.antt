-- What a function gives of the elements that pass a test.
use Rattle.std.proofs.Common.{◌≡◌, List, [], ◌∷◌, map, Bool, ap, refl, inl, inr}
use Rattle.std.specs.List.{filter}
use Rattle.std.proofs.lemmas.Bool.{cases_Bool}

pub map_filter : {X Y : Type 0} (f : X → Y) (p : Y → Bool) (xs : List X) → map f (filter (λ x. p (f x)) xs) ≡ filter p (map f xs)
map_filter f p [] = refl
map_filter f p (x ∷ xs) = elim (cases_Bool (p (f x))) [
  | inl is ↦ rw is (ap (λ ys. f x ∷ ys) (map_filter f p xs))
  | inr not ↦ rw not (map_filter f p xs)
]
