-- Lists in parts, cut at an index.
use Rattle.std.proofs.Common.{◌≡◌, ◌≤◌, ◌<◌, ◌+◌, ◌-◌, ℕ, zero, suc, Some, List, [], ◌∷◌, ◌++◌, length, take, drop, refl, sym, subst, ap, ◌∙◌, inl, inr, append_assoc, arith, length-append}
use Rattle.std.specs.List.{slice_get}
use Rattle.std.proofs.lemmas.List.{drop-drop, length-drop, length-take-le, take-append-drop}
use Rattle.std.proofs.lemmas.Option.{slice_get_within}
use Rattle.std.proofs.Math.Seq.{take-append_seam, drop-append_seam}
use Rattle.msg_head.specs.Lines.{FieldLine}
use Rattle.line_rewrites.specs.LineLists.{Moves, Passes}
use Rattle.line_rewrites.specs.tools.Computed.{lines_between, moved_backward, moved_forward}

-- ---- at an index

here : (before after : List FieldLine) (line : FieldLine) → slice_get (before ++ line ∷ after) (length before) ≡ Some line
here [] after line = refl
here (x ∷ before) after line = here before after line

pub record IsAt (lines : List FieldLine) (index : ℕ) (before : List FieldLine) (line : FieldLine) (after : List FieldLine) : Type 0 where
  pub line_is : slice_get lines index ≡ Some line
  pub before_is : take index lines ≡ before
  pub from_is : drop index lines ≡ line ∷ after
  pub after_is : drop (index + 1) lines ≡ after

pub at_index : (lines before after : List FieldLine) (line : FieldLine) (index : ℕ) → lines ≡ before ++ line ∷ after → index ≡ length before → IsAt lines index before line after
at_index lines before after line index is there =
    let rest : drop index lines ≡ line ∷ after = rw (there, is) (drop-append_seam before (line ∷ after)) in
    record {
      line_is = rw (there, is) (here before after line);
      before_is = rw (there, is) (take-append_seam before (line ∷ after));
      from_is = rest;
      after_is = sym (drop-drop 1 index lines) ∙ ap (drop 1) rest;
    }

from_index : (lines : List FieldLine) (index : ℕ) (line : FieldLine) → slice_get lines index ≡ Some line → drop index lines ≡ line ∷ drop (index + 1) lines
from_index [] index line there = absurd cc
from_index (x ∷ lines) zero line there = let same : x ≡ line = cc in ap (λ l. l ∷ lines) same
from_index (x ∷ lines) (suc index) line there =
    let next : suc (index + 1) ≡ suc index + 1 = omega arith in
    from_index lines index line there ∙ ap (λ n. line ∷ drop n (x ∷ lines)) next

-- the parts of a list that has the line at the index
pub cut_index : (lines : List FieldLine) (index : ℕ) (line : FieldLine) → slice_get lines index ≡ Some line
    → (lines ≡ take index lines ++ line ∷ drop (index + 1) lines) × (index ≡ length (take index lines)) × (drop index lines ≡ line ∷ drop (index + 1) lines)
cut_index lines index line there =
    let rest = from_index lines index line there in
    let low = slice_get_within lines index line there in
    (sym (take-append-drop index lines) ∙ ap (λ ls. take index lines ++ ls) rest, sym (length-take-le index lines (omega (arith, low))), rest)

-- ---- between two indexes

pub between_cut : (lines : List FieldLine) (start to : ℕ) → start ≤ to → drop start lines ≡ lines_between start to lines ++ drop to lines
between_cut lines start to le =
    let same : start + (to - start) ≡ to = omega (arith, le) in
    sym (take-append-drop (to - start) (drop start lines))
    ∙ ap (λ ls. lines_between start to lines ++ ls) (drop-drop (to - start) start lines ∙ ap (λ n. drop n lines) same)

pub between_length : (lines : List FieldLine) (start to : ℕ) → start ≤ to → to ≤ length lines → length (lines_between start to lines) ≡ to - start
between_length lines start to le low =
    let size = length-drop start lines in length-take-le (to - start) (drop start lines) (omega (arith, size, le, low))

pub between_is : (lines some others : List FieldLine) (start to : ℕ) → drop start lines ≡ some ++ others → to - start ≡ length some → lines_between start to lines ≡ some
between_is lines some others start to is size = rw (is, size) (take-append_seam some others)

pub after_between : (lines some others : List FieldLine) (start to : ℕ) → drop start lines ≡ some ++ others → start + length some ≡ to → drop to lines ≡ others
after_between lines some others start to is there =
    ap (λ n. drop n lines) (sym there) ∙ (sym (drop-drop (length some) start lines) ∙ (ap (drop (length some)) is ∙ drop-append_seam some others))

-- ---- a line that is moved

module _ (Allows : FieldLine → List FieldLine → Type 0) where
  pub moves_forward : (lines : List FieldLine) (index to : ℕ) (line : FieldLine) → slice_get lines index ≡ Some line → index ≤ to → to < length lines
      → Allows line (lines_between (index + 1) (to + 1) lines) → Passes Allows index to lines (moved_forward index to lines line)
  moves_forward lines index to line there le low allows =
      let cut = cut_index lines index line there in
      let size = between_length lines (index + 1) (to + 1) (omega (arith, le)) (omega (arith, low)) in
      record {
        before = take index lines;
        line = line;
        passed = lines_between (index + 1) (to + 1) lines;
        after = drop (to + 1) lines;
        lines_are = cut.0 ∙ ap (λ ls. take index lines ++ line ∷ ls) (between_cut lines (index + 1) (to + 1) (omega (arith, le)));
        there = cut.1;
        to_there = let first = cut.1 in omega (arith, size, first, le);
        moved_are = refl;
        allows = allows;
      }

  pub moves_backward : (lines : List FieldLine) (index to : ℕ) (line : FieldLine) → slice_get lines index ≡ Some line → to < index
      → Allows line (lines_between to index lines) → Passes Allows to index (moved_backward index to lines line) lines
  moves_backward lines index to line there less allows =
      let cut = cut_index lines index line there in
      let low = slice_get_within lines index line there in
      let size = between_length lines to index (omega (arith, less)) (omega (arith, low)) in
      let first = length-take-le to lines (omega (arith, low, less)) in
      record {
        before = take to lines;
        line = line;
        passed = lines_between to index lines;
        after = drop (index + 1) lines;
        lines_are = refl;
        there = sym first;
        to_there = omega (arith, size, first, less);
        moved_are = sym (take-append-drop to lines)
            ∙ ap (λ ls. take to lines ++ ls) (between_cut lines to index (omega (arith, less)) ∙ ap (λ ls. lines_between to index lines ++ ls) cut.2);
        allows = allows;
      }

  -- what a move tells of the lines
  pub record IsMove (index to : ℕ) (lines moved : List FieldLine) : Type 0 where
    pub line : FieldLine
    pub there : slice_get lines index ≡ Some line
    pub low : to < length lines
    pub forward : index ≤ to → Allows line (lines_between (index + 1) (to + 1) lines) × (moved ≡ moved_forward index to lines line)
    pub backward : to < index → Allows line (lines_between to index lines) × (moved ≡ moved_backward index to lines line)

  pub forward_told : (index to : ℕ) (lines moved : List FieldLine) → Passes Allows index to lines moved → IsMove index to lines moved
  forward_told index to lines moved p =
      let at = at_index lines p.before (p.passed ++ p.after) p.line index p.lines_are p.there in
      let first = p.there in
      let last = p.to_there in
      let whole = ap (λ (ls : List FieldLine). length ls) p.lines_are ∙ length-append p.before (p.line ∷ (p.passed ++ p.after)) in
      let rest = length-append p.passed p.after in
      let passed = between_is lines p.passed p.after (index + 1) (to + 1) at.after_is (omega (arith, first, last)) in
      let after = after_between lines p.passed p.after (index + 1) (to + 1) at.after_is (omega (arith, first, last)) in
      record {
        line = p.line;
        there = at.line_is;
        low = omega (arith, whole, rest, first, last);
        forward = λ le. (subst (Allows p.line) (sym passed) p.allows, p.moved_are ∙ rw (at.before_is, passed, after) refl);
        backward = λ less. absurd (omega (arith, less, first, last));
      }

  pub backward_told : (index to : ℕ) (lines moved : List FieldLine) → Passes Allows to index moved lines → IsMove index to lines moved
  backward_told index to lines moved p = by p.passed refl
    where
      joined : lines ≡ (p.before ++ p.passed) ++ p.line ∷ p.after
      joined = p.moved_are ∙ sym (append_assoc p.before p.passed (p.line ∷ p.after))

      place : index ≡ length (p.before ++ p.passed)
      place = p.to_there ∙ sym (length-append p.before p.passed)

      at : IsAt lines index (p.before ++ p.passed) p.line p.after
      at = at_index lines (p.before ++ p.passed) p.after p.line index joined place

      by : (passed : List FieldLine) → p.passed ≡ passed → IsMove index to lines moved
      by [] is =
          forward_told index to lines moved (record {
            before = p.before;
            line = p.line;
            passed = [];
            after = p.after;
            lines_are = p.moved_are ∙ ap (λ ls. p.before ++ (ls ++ p.line ∷ p.after)) is;
            there = p.to_there ∙ (let size = ap (λ (ls : List FieldLine). length ls) is in omega (arith, size));
            to_there = p.there ∙ (omega arith);
            moved_are = p.lines_are ∙ ap (λ ls. p.before ++ p.line ∷ (ls ++ p.after)) is;
            allows = subst (Allows p.line) is p.allows;
          })
      by (x ∷ xs) is =
          let size = ap (λ (ls : List FieldLine). length ls) is in
          let first = p.there in
          let last = p.to_there in
          let rest : drop to lines ≡ p.passed ++ p.line ∷ p.after = rw (first, p.moved_are) (drop-append_seam p.before (p.passed ++ p.line ∷ p.after)) in
          let before : take to lines ≡ p.before = rw (first, p.moved_are) (take-append_seam p.before (p.passed ++ p.line ∷ p.after)) in
          let passed = between_is lines p.passed (p.line ∷ p.after) to index rest (omega (arith, first, last)) in
          let low = slice_get_within lines index p.line at.line_is in
          record {
            line = p.line;
            there = at.line_is;
            low = omega (arith, low, first, last);
            forward = λ le. absurd (omega (arith, le, first, last, size));
            backward = λ less. (subst (Allows p.line) (sym passed) p.allows, p.lines_are ∙ rw (before, passed, at.after_is) refl);
          }

  pub move_told : (index to : ℕ) (lines moved : List FieldLine) → Moves Allows index to lines moved → IsMove index to lines moved
  move_told index to lines moved is = elim is [
    | inl p ↦ forward_told index to lines moved p
    | inr p ↦ backward_told index to lines moved p
  ]
