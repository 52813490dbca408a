-- Lists in parts, of which the first one has a known length.
use Rattle.std.proofs.Common.{◌≡◌, ℕ, List, [], ◌∷◌, ◌++◌, length, get_or, take, drop, refl, sym, subst, ◌∙◌, ap}
use Rattle.std.specs.Prelude.{Option, Some, IsSomeAnd, slice_get}
use Rattle.std.proofs.Math.Seq.{take-append_seam, drop-append_seam}

pub parts_at : {A : Type 0} (xs ys us vs : List A) → length xs ≡ length us → xs ++ ys ≡ us ++ vs → (xs ≡ us) × (ys ≡ vs)
parts_at xs ys us vs long same = (
  sym (take-append_seam xs ys) ∙ (ap (take (length xs)) same ∙ (ap (λ n. take n (us ++ vs)) long ∙ take-append_seam us vs)),
  sym (drop-append_seam xs ys) ∙ (ap (drop (length xs)) same ∙ (ap (λ n. drop n (us ++ vs)) long ∙ drop-append_seam us vs)),
)

pub same_first : {A : Type 0} (x y : A) (xs ys : List A) → x ∷ xs ≡ y ∷ ys → (x ≡ y) × (xs ≡ ys)
same_first {A} x y xs ys same = (ap (λ (l : List A). get_or l 0 x) same, ap (drop 1) same)

-- the same parts around an element
pub parts_around : {A : Type 0} (xs : List A) (x : A) (ys us : List A) (u : A) (vs : List A) → length xs ≡ length us → xs ++ x ∷ ys ≡ us ++ u ∷ vs
    → (xs ≡ us) × (x ≡ u) × (ys ≡ vs)
parts_around xs x ys us u vs long same =
    let parts = parts_at xs (x ∷ ys) us (u ∷ vs) long same in
    let rest = same_first x u ys vs parts.1 in
    (parts.0, rest.0, rest.1)

pub element_at : {A : Type 0} (xs : List A) (y : A) (ys : List A) → slice_get (xs ++ y ∷ ys) (length xs) ≡ Some y
element_at [] y ys = refl
element_at (x ∷ xs) y ys = element_at xs y ys

-- what holds of the element of the index
pub holds_at : {A : Type 0} (Holds : A → Type 0) (list xs : List A) (y : A) (ys : List A) (index : ℕ) → list ≡ xs ++ y ∷ ys → index ≡ length xs
    → IsSomeAnd (slice_get list index) Holds → Holds y
holds_at {A} Holds list xs y ys index list_is there holds =
    subst (λ (o : Option A). IsSomeAnd o Holds) (ap (slice_get list) there ∙ (ap (λ (l : List A). slice_get l (length xs)) list_is ∙ element_at xs y ys)) holds
