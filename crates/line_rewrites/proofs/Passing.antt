-- Whether the lines that a line passes have its name.
use Rattle.std.proofs.Common.{◌≡◌, ◌↔◌, ◌≤◌, ◌<◌, ◌+◌, ℕ, Bool, true, false, not, IsTrue, IsFalse, Some, List, length, refl, sym, ap, ◌∙◌, inl, inr}
use Rattle.std.specs.List.{slice_get}
use Rattle.std.proofs.lemmas.Bool.{false≢true}
use Rattle.msg_head.specs.Lines.{FieldLine}
use Rattle.msg_head.specs.Values.{is_there}
use Rattle.msg_body.specs.SameFields.{name_of}
use Rattle.line_rewrites.specs.LineLists.{PassesOtherNames}
use Rattle.line_rewrites.specs.tools.Computed.{lines_between, moved_backward, moved_forward}
use Rattle.line_rewrites.proofs.Parts.{IsMove, move_told, moves_backward, moves_forward}

-- none of the lines has the name of the line
abbrev pub HasOther : FieldLine → List FieldLine → Type 0
HasOther line passed = IsFalse (is_there passed (name_of line))

not_true : (b : Bool) → not b ≡ true → b ≡ false
not_true false is = refl
not_true true is = absurd (false≢true is)

pub told_of : (index to : ℕ) (lines : List FieldLine) → PassesOtherNames index to lines → (moved : List FieldLine) × IsMove HasOther index to lines moved
told_of index to lines is = (is.0, move_told HasOther index to lines is.0 is.1)

same_line : (index : ℕ) (lines : List FieldLine) (line other : FieldLine) → slice_get lines index ≡ Some line → slice_get lines index ≡ Some other → other ≡ line
same_line index lines line other a b = let e = sym b ∙ a in cc

pub passes_forward : (lines : List FieldLine) (index to : ℕ) (line : FieldLine) (b : Bool) → slice_get lines index ≡ Some line → to < length lines → index ≤ to
    → b ≡ is_there (lines_between (index + 1) (to + 1) lines) (name_of line) → IsTrue (not b) ↔ PassesOtherNames index to lines
passes_forward lines index to line b there low le same = (
  λ passes. (moved_forward index to lines line, inl (moves_forward HasOther lines index to line there le low (sym same ∙ not_true b passes))),
  λ is.
      let told = (told_of index to lines is).1 in
      let other = same_line index lines line told.line there told.there in
      ap not (same ∙ (ap (λ (l : FieldLine). is_there (lines_between (index + 1) (to + 1) lines) (name_of l)) (sym other) ∙ (told.forward le).0)),
)

pub passes_backward : (lines : List FieldLine) (index to : ℕ) (line : FieldLine) (b : Bool) → slice_get lines index ≡ Some line → to < index
    → b ≡ is_there (lines_between to index lines) (name_of line) → IsTrue (not b) ↔ PassesOtherNames index to lines
passes_backward lines index to line b there less same = (
  λ passes. (moved_backward index to lines line, inr (moves_backward HasOther lines index to line there less (sym same ∙ not_true b passes))),
  λ is.
      let told = (told_of index to lines is).1 in
      let other = same_line index lines line told.line there told.there in
      ap not (same ∙ (ap (λ (l : FieldLine). is_there (lines_between to index lines) (name_of l)) (sym other) ∙ (told.backward less).0)),
)
