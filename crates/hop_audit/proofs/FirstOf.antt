-- The first element of which a fact holds.
use Rattle.std.proofs.Common.{◌≡◌, ◌⊎◌, ◌<◌, ℕ, suc, Some, List, [], ◌∷◌, take, refl, sym, subst, ap, ◌∙◌, inl, inr}
use Rattle.std.specs.List.{All, slice_get}
use Rattle.std.proofs.lemmas.Bool.{cases_order}
use Rattle.std.proofs.lemmas.List.Elements.{All-cons, All-nil}
use Rattle.std.proofs.lemmas.Option.{get_or_from_slice_get, slice_get_within}
use Rattle.byte_grammar.proofs.Indices.{slice_get_take}
use Rattle.hop_audit.specs.Fates.{IsFirstOf}

-- what holds of each holds of that at the index
pub all_at : {X : Type 0} (P : X → Type 0) (xs : List X) (i : ℕ) (x : X) → All P xs → slice_get xs i ≡ Some x → P x
all_at {X} P xs i x all there =
    subst (λ (y : X). P y) (get_or_from_slice_get xs i x x there) (all i x (slice_get_within xs i x there))

module _ {X : Type 0} (Fact : X → Type 0) where
  earlier : (xs : List X) (x y : X) (a : IsFirstOf Fact xs x) (b : IsFirstOf Fact xs y) → a.index < b.index → ⊥
  earlier xs x y a b less =
      all_at (λ z. ¬ Fact z) (take b.index xs) a.index x b.before (slice_get_take xs b.index a.index less ∙ a.there) a.holds

  pub one_first : (xs : List X) (x y : X) → IsFirstOf Fact xs x → IsFirstOf Fact xs y → x ≡ y
  one_first xs x y a b = elim (cases_order a.index b.index) [
    | inl same ↦ let e : Some x ≡ Some y = sym a.there ∙ ap (slice_get xs) same ∙ b.there in cc
    | inr apart ↦ elim apart [
      | inl less ↦ absurd (earlier xs x y a b less)
      | inr more ↦ absurd (earlier xs y x b a more)
    ]
  ]

  pub none_or_first : ((x : X) → Fact x ⊎ (¬ Fact x)) → (xs : List X) → All (λ y. ¬ Fact y) xs ⊎ ((x : X) × IsFirstOf Fact xs x)
  none_or_first decide [] = inl (All-nil (λ y. ¬ Fact y))
  none_or_first decide (x ∷ xs) = by_first (decide x) (none_or_first decide xs)
    where
      by_first : Fact x ⊎ (¬ Fact x) → All (λ y. ¬ Fact y) xs ⊎ ((y : X) × IsFirstOf Fact xs y) → All (λ y. ¬ Fact y) (x ∷ xs) ⊎ ((y : X) × IsFirstOf Fact (x ∷ xs) y)
      by_first (inl holds) rest = inr (x, record { index = 0; before = All-nil (λ y. ¬ Fact y); there = refl; holds = holds })
      by_first (inr fails) (inl none) = inl (All-cons (λ y. ¬ Fact y) x xs fails none)
      by_first (inr fails) (inr later) = inr (
        later.0,
        record {
          index = suc later.1.index;
          before = All-cons (λ y. ¬ Fact y) x (take later.1.index xs) fails later.1.before;
          there = later.1.there;
          holds = later.1.holds;
        },
      )
