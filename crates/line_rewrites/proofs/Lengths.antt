-- The texts of lines one after the other.
use Rattle.std.proofs.Common.{◌≡◌, List, [], ◌∷◌, ◌++◌, refl, sym, ap, ◌∙◌, append_assoc}
use Rattle.msg_head.specs.Lines.{FieldLine, line_text}
use Rattle.line_rewrites.specs.Sides.{lines_text}

-- the texts of lists one after the other
pub lines_joined : (xs ys : List FieldLine) → lines_text (xs ++ ys) ≡ lines_text xs ++ lines_text ys
lines_joined [] ys = refl
lines_joined (x ∷ xs) ys = ap (λ t. line_text x ++ t) (lines_joined xs ys) ∙ sym (append_assoc (line_text x) (lines_text xs) (lines_text ys))
