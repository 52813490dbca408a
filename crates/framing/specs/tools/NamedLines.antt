-- The lines of a name, as the code keeps them. No public clause cites this module.
use Rattle.std.specs.Prelude.{◌≡◌, ℕ, Bool, true, false, List, [], ◌∷◌}
use Rattle.msg_head.specs.Values.{value}
use Rattle.framing.specs.declared.named.NamedLines.{NamedLines}
use Rattle.framing.specs.declared.named.NamedLines.TheVariants.{None, One, Many}

-- there is a line
abbrev pub are_named : NamedLines → Bool
are_named None = false
are_named (One line) = true
are_named Many = true

-- these are the values of the lines
abbrev pub HaveValues : NamedLines → List (List ℕ) → Type 0
HaveValues None texts = texts ≡ []
HaveValues (One line) texts = texts ≡ value line.raw.now ∷ []
HaveValues Many texts =
    (first second : List ℕ) × (others : List (List ℕ)) × (texts ≡ first ∷ (second ∷ others))
