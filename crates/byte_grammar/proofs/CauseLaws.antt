-- Of causes that are judged in an order at most one is the first that holds.
use Rattle.std.proofs.Common.{◌≡◌, ℕ, inl, inr}
use Rattle.std.proofs.lemmas.Bool.{cases_order}
use Rattle.byte_grammar.specs.Causes.{IsFirst}
use Rattle.byte_grammar.specs.tools.Determined.{AreDetermined}

pub first_is_one : {F : Type 0} (order : F → ℕ) (Holds : F → Type 0) → AreDetermined order Holds
    → (fault other : F) → IsFirst order Holds fault → IsFirst order Holds other → fault ≡ other
first_is_one order Holds determined fault other one two = elim (cases_order (order fault) (order other)) [
  | inl same ↦ determined fault other same one.holds two.holds
  | inr apart ↦ elim apart [
    | inl less ↦ absurd (two.none_before fault less one.holds)
    | inr more ↦ absurd (one.none_before other more two.holds)
  ]
]
