-- The entries of a map whose keys are owned bytes, under those bytes.
-- No public clause cites this module but the views of such maps.
use Rattle.std.specs.Prelude.{ℕ, List, map, Vec}
use Rattle.std.specs.declared.alloc.Global.{Global}

abbrev pub by_bytes : {X : Type 0} → List (Vec ℕ Global × X) → List (List ℕ × X)
by_bytes entries = map (λ e. (e.0.items, e.1)) entries
