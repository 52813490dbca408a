-- The steps in which the one line of a name is found.
use Rattle.std.proofs.Common.{◌≡◌, ℕ, ◌+◌, false, List, drop, sym, ◌∙◌, arith}
use Rattle.std.proofs.lemmas.Bool.{false≢true}
use Rattle.msg_head.specs.Lines.{FieldLine}
use Rattle.msg_head.specs.Values.{is_there}
use Rattle.whole_rewrites.specs.tools.HeadLines.{HasNoOnly, IsNextNamed}
use Rattle.whole_rewrites.proofs.ContentLists.{line_there, two_lines}

-- no line of the name at all
pub no_only : (name : List ℕ) (lines : List FieldLine) → is_there (drop 0 lines) name ≡ false → HasNoOnly name lines
no_only name lines none new replaced is = false≢true (sym none ∙ line_there name new lines replaced is)

-- one, and another after it
pub two_named : (name : List ℕ) (lines : List FieldLine) (one other : ℕ) → IsNextNamed name lines 0 one → IsNextNamed name lines (one + 1) other → HasNoOnly name lines
two_named name lines one other first second new replaced is = two_lines name new lines one other (omega (arith, second.order)) first.named second.named replaced is
