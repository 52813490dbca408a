-- The premise under which at most one fault is the first. No public clause cites this module.
use Rattle.std.specs.Prelude.{◌≡◌, ℕ}

-- each cause determines its own offset, index or key
abbrev pub AreDetermined : {F : Type 0} → (F → ℕ) → (F → Type 0) → Type 0
AreDetermined {F} order Holds =
    (fault other : F) → order fault ≡ order other → Holds fault → Holds other → fault ≡ other
