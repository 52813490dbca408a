-- What a function returned, seen by view, is what a reader over lists gives.
use Rattle.std.specs.Prelude.{◌≡◌, ℕ, Result, Ok, Err}
use Rattle.byte_grammar.specs.declared.readers.Left.{Left}

-- the value that a function returned, seen by the view, is what a reader over lists gives, or it
-- stopped where as many bytes were left
abbrev pub Gives : {X Y : Type 0} → (X → Y) → Result X Left → Result Y ℕ → Type 0
Gives view (Ok x) read = read ≡ Ok (view x)
Gives view (Err e) read = read ≡ Err e.0
