-- A part that a mark announces, as `?` does a query and `:` a port.
use Rattle.std.specs.Prelude.{ℕ, List, [], ◌∷◌, Option, Some, None}

-- nothing where there is no such part, else the mark and the part
abbrev pub marked_text : ℕ → Option (List ℕ) → List ℕ
marked_text mark None = []
marked_text mark (Some part) = mark ∷ part
