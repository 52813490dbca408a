-- Texts that an iterator gives piece by piece.
use Rattle.std.specs.Prelude.{◌≡◌, ℕ, List, [], ◌++◌, Option, MatchOption}
use Rattle.std.specs.Borrow.{Bor}

-- a call of `next` gave the first bytes of the text that was left, or `None` where none were, and
-- then none are left
abbrev pub YieldsPiece : {S : Type 0} → (S → List ℕ) → S → Option (Bor (List ℕ)) → S → Type 0
YieldsPiece left before result after =
    MatchOption result ((left before ≡ []) × (left after ≡ []))
    (λ piece. left before ≡ piece.now ++ left after)
