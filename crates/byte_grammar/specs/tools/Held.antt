-- Where the bytes of a text are. No public clause cites this module but the view of `Text`.
use Rattle.std.specs.Prelude.{ℕ, List}
use Rattle.byte_grammar.specs.declared.text.Held.{Held}
use Rattle.byte_grammar.specs.declared.text.Held.TheVariants.{InPlace, Allocated}

-- the bytes, in order
abbrev pub held_bytes : Held → List ℕ
held_bytes (InPlace few alloc) = few
held_bytes (Allocated bytes) = bytes.items
