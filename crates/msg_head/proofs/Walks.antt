-- Lines that are walked one after the other.
use Rattle.std.proofs.Common.{◌≡◌, ℕ, ◌+◌, ◌≤◌, List, [], ◌∷◌, length, refl}
use Rattle.msg_head.specs.RawValues.{RawPieces}
use Rattle.msg_head.specs.Cuts.{AreLinesOf}
use Rattle.msg_head.specs.tools.Texts.{BeginsWithCrlf, BeginsWithCut}
use Rattle.msg_head.proofs.LineLaws.{lines_text, line_no_cr, first_of_lines, others_of}

-- a line is next, and others after it
pub record NextOf (left : List ℕ) (lines : List RawPieces) : Type 0 where
  pub line : RawPieces
  pub others : List RawPieces
  pub are : lines ≡ line ∷ others
  pub begins : BeginsWithCut line (lines_text others []) left
  pub rest : AreLinesOf (lines_text others []) others

pub at_end : (left : List ℕ) (lines : List RawPieces) → AreLinesOf left lines → BeginsWithCrlf left → lines ≡ []
at_end left [] a end = refl
at_end left (l ∷ ls) a end = absurd (line_no_cr l (lines_text ls []) (10 ∷ end.0) left (first_of_lines left l ls a) end.1)

pub next_of : (left : List ℕ) (lines : List RawPieces) → AreLinesOf left lines → ¬ BeginsWithCrlf left → NextOf left lines
next_of left [] a none = absurd (none ([], a.joined))
next_of left (l ∷ ls) a none = record { line = l; others = ls; are = refl; begins = first_of_lines left l ls a; rest = others_of left l ls a }

-- so many of the text's lines are done, and others are left
pub record Counts (text left : List ℕ) (count : ℕ) : Type 0 where
  pub within : count + length left ≤ length text
  pub still : (lines : List RawPieces) → AreLinesOf text lines → (others : List RawPieces) × AreLinesOf left others × (length lines ≡ count + length others)
