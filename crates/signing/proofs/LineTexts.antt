-- The bytes of lines that are added one after the other.
use Rattle.std.proofs.Common.{◌≡◌, ℕ, List, [], ◌∷◌, ◌++◌, refl}
use Rattle.std.specs.List.{flat_map}
use Rattle.std.proofs.lemmas.List.{append-nil}
use Rattle.msg_head.specs.Lines.{FieldLine, line_text}

pub two_lines : (a b : FieldLine) (first both : List ℕ) → first ≡ line_text a → both ≡ first ++ line_text b → both ≡ flat_map line_text (a ∷ b ∷ [])
two_lines a b first both one two = rw (two, one, append-nil (line_text b)) refl
