-- The greatest of the policies' windows.
use Rattle.std.proofs.Common.{◌≡◌, ◌≤◌, ◌+◌, ◌*◌, max, ℕ, zero, suc, List, [], ◌∷◌, subst, sym, arith}
use Rattle.std.specs.List.{All, Contains}
use Rattle.std.proofs.lemmas.List.Elements.{All-head, All-tail}
use Rattle.nonces.specs.declared.limits.TheConstants.{MAX_WINDOW}
use Rattle.settings.specs.ValidSections.{IsValidPolicy}
use Rattle.settings.specs.declared.policy.Policy.{Policy}
use Rattle.verdicts.specs.Choice.{window_over}
use Rattle.verdicts.specs.Laws.{CoversEachPolicy}

at_most : (n m : ℕ) → (n ≤ max n m) × (m ≤ max n m)
at_most n m = (grind arith, grind arith)

max_short : (n m most : ℕ) → n ≤ most → m ≤ most → max n m ≤ most
max_short n m most le also = grind (arith, le, also)

covers : (policies : List Policy) (policy : Policy) → Contains policies policy → policy.max_age + 2 * policy.skew ≤ window_over policies
covers [] policy (k, lt, is) = absurd (omega (arith, lt))
covers (own ∷ policies) policy (zero, lt, is) =
    subst (λ (p : Policy). p.max_age + 2 * p.skew ≤ window_over (own ∷ policies)) is (at_most (own.max_age + 2 * own.skew) (window_over policies)).0
covers (own ∷ policies) policy (suc k, lt, is) =
    let later = covers policies policy (k, omega (arith, lt), is) in
    let more = (at_most (own.max_age + 2 * own.skew) (window_over policies)).1 in
    omega (arith, later, more)

pub covers_each_policy : CoversEachPolicy
covers_each_policy conf policy there = covers conf.policies policy there

-- it is at most a week where the policies are valid
pub window_short : (policies : List Policy) → All IsValidPolicy policies → window_over policies ≤ MAX_WINDOW
window_short [] each = omega arith
window_short (policy ∷ policies) each =
    max_short (policy.max_age + 2 * policy.skew) (window_over policies) MAX_WINDOW (All-head IsValidPolicy policy policies each).window
    (window_short policies (All-tail IsValidPolicy policy policies each))

-- so is what is the greatest so far
pub so_far_short : (policies : List Policy) (window rest : ℕ) → All IsValidPolicy policies → max window rest ≡ window_over policies → window ≤ MAX_WINDOW
so_far_short policies window rest each is =
    let short = subst (λ (n : ℕ). n ≤ MAX_WINDOW) (sym is) (window_short policies each) in
    let within = (at_most window rest).0 in
    omega (arith, short, within)
