-- What a sink has taken.
use Rattle.std.specs.Prelude.{ℕ, ◌<◌, List, Option, length, take}
use Rattle.std.specs.Io.KnownBytes.{Appends}

-- a prefix of the text, and not all of it, was added to the known bytes
abbrev pub AppendsPart : Option (List ℕ) → Option (List ℕ) → List ℕ → Type 0
AppendsPart before now text = (n : ℕ) × (n < length text) × Appends before now (take n text)
