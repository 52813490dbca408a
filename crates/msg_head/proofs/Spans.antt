-- Field lines at their offsets, read one after the other.
use Rattle.std.proofs.Common.{◌≡◌, ℕ, ◌+◌, ◌-◌, ◌<◌, ◌≤◌, true, List, [], ◌∷◌, ◌++◌, length, map, take, drop, Some, refl, sym, subst, ap, ◌∙◌, arith, append_assoc, length-append}
use Rattle.std.specs.List.{All, list_all, flat_map, slice_get}
use Rattle.std.proofs.Math.Seq.{take-append_seam, drop-append-add}
use Rattle.std.proofs.lemmas.Bool.{and_from, and_parts, lt-ltb, ltb-true, le-leb}
use Rattle.std.proofs.lemmas.List.{append-nil, drop-drop, map-append}
use Rattle.std.proofs.lemmas.List.Elements.{All-nil, All-push}
use Rattle.std.proofs.lemmas.List.Folds.{list_all-append}
use Rattle.std.proofs.lemmas.Grind.{flat_map-append}
use Rattle.msg_head.specs.declared.limits.TheConstants.{MAX_HEAD_LINES}
use Rattle.line_index.specs.declared.span.LineSpan.{LineSpan}
use Rattle.msg_head.specs.declared.error.Side.{Side}
use Rattle.msg_head.specs.declared.error.HeadError.{HeadError}
use Rattle.msg_head.specs.declared.error.HeadError.TheVariants.{Memory, TooLong, NakedEnd, BadStart, TooManyLines, BadLine}
use Rattle.msg_head.specs.RawValues.{RawPieces, pieces_text}
use Rattle.msg_head.specs.Lines.{FieldLine, IsLine, line_text}
use Rattle.msg_head.specs.Cuts.{AreLinesOf, MakesLine, MakesNoLine}
use Rattle.msg_head.specs.Views.{line_at, lies_in, FollowEachOther}
use Rattle.msg_head.specs.tools.Texts.{BeginsWithCrlf, BeginsWithCut, IsCleanUpTo}
use Rattle.msg_head.specs.tools.Prefixes.{ReadsLine}
use Rattle.msg_head.specs.tools.Sections.{IsRestOf, AreSpansOf, IsLinesFault, IsFaultFrom, span_at}
use Rattle.msg_head.proofs.LineParts.{opened_line}
use Rattle.msg_head.proofs.LineLaws.{lines_text}
use Rattle.msg_head.proofs.Walks.{NextOf, at_end}

-- the bytes are a field line and more
pub record BeginsWithLine (line : FieldLine) (more bytes : List ℕ) : Type 0 where
  pub is : IsLine line
  pub joined : bytes ≡ line_text line ++ more

pub read_begins : (cut : RawPieces) (more bytes rest : List ℕ) (line : FieldLine) → BeginsWithCut cut more bytes → ReadsLine cut more line rest → BeginsWithLine line more bytes
read_begins cut more bytes rest line b r = record {
  is = r.makes.is;
  joined = b.begins.joined ∙ sym (append_assoc (pieces_text cut) (13 ∷ 10 ∷ []) more) ∙ ap (λ (s : List ℕ). s ++ more) r.makes.text;
}

-- the bytes from an offset on, where others are there first
rest_at : (bytes one more : List ℕ) (at n : ℕ) → drop at bytes ≡ one ++ more → drop (at + length one + n) bytes ≡ drop n more
rest_at bytes one more at n e =
    ap (λ k. drop k bytes) (omega arith)
    ∙ sym (drop-drop (length one + n) at bytes)
    ∙ ap (λ (x : List ℕ). drop (length one + n) x) e
    ∙ drop-append-add one more n

-- and those others
first_at : (bytes one more : List ℕ) (at : ℕ) → drop at bytes ≡ one ++ more → take (at + length one - at) (drop at bytes) ≡ one
first_at bytes one more at e =
    ap (λ k. take k (drop at bytes)) (omega arith) ∙ ap (λ (x : List ℕ). take (length one) x) e ∙ take-append_seam one more

opened_at : (bytes left : List ℕ) (line : FieldLine) (more : List ℕ) → IsRestOf bytes left → BeginsWithLine line more left → drop (length bytes - length left) bytes ≡ line.name ++ 58 ∷ (line.raw ++ 13 ∷ 10 ∷ more)
opened_at bytes left line more ends b = sym ends.is ∙ b.joined ∙ opened_line line more

-- the line that was read is the line at its offsets
line_is : (bytes left : List ℕ) (line : FieldLine) (more : List ℕ) → IsRestOf bytes left → BeginsWithLine line more left → line_at bytes (span_at (length bytes - length left) line) ≡ line
line_is bytes left line more ends b =
    let at = length bytes - length left in
    let opened = opened_at bytes left line more ends b in
    let names = first_at bytes line.name (58 ∷ (line.raw ++ 13 ∷ 10 ∷ more)) at opened in
    let after_name = rest_at bytes line.name (58 ∷ (line.raw ++ 13 ∷ 10 ∷ more)) at 1 opened in
    let raws = first_at bytes line.raw (13 ∷ 10 ∷ more) (at + length line.name + 1) after_name in
    λ i. record { name = names i; raw = raws i }

-- so many bytes it has
line_size : (bytes left : List ℕ) (line : FieldLine) (more : List ℕ) → BeginsWithLine line more left → length left ≡ length line.name + 1 + length line.raw + 2 + length more
line_size bytes left line more b =
    omega (
      arith,
      ap (length {A = ℕ}) (b.joined ∙ opened_line line more),
      length-append line.name (58 ∷ (line.raw ++ 13 ∷ 10 ∷ more)),
      length-append line.raw (13 ∷ 10 ∷ more),
    )

-- what comes after it is a rest of the bytes too
after_is : (bytes left : List ℕ) (line : FieldLine) (more : List ℕ) → IsRestOf bytes left → BeginsWithLine line more left → IsRestOf bytes more
after_is bytes left line more ends b =
    let at = length bytes - length left in
    let size = line_size bytes left line more b in
    let after_name = rest_at bytes line.name (58 ∷ (line.raw ++ 13 ∷ 10 ∷ more)) at 1 (opened_at bytes left line more ends b) in
    let after_raw = rest_at bytes line.raw (13 ∷ 10 ∷ more) (at + length line.name + 1) 2 after_name in
    record {
      within = omega (arith, size, ends.within);
      is = sym after_raw ∙ ap (λ k. drop k bytes) (omega (arith, size, ends.within));
    }

lies_at : (at count : ℕ) (line : FieldLine) → at + length line.name + 1 + length line.raw + 2 ≤ count → lies_in count (span_at at line) ≡ true
lies_at at count line within =
    and_from _ _ (le-leb at (at + length line.name) (omega arith)) (and_from _ _ (lt-ltb (at + length line.name) (at + length line.name + 1 + length line.raw) (omega arith)) (le-leb (at + length line.name + 1 + length line.raw) count (omega arith)))

-- one span more
follow_more : (from at to : ℕ) (spans : List LineSpan) (span : LineSpan) → FollowEachOther from spans at → span.name ≡ at → span.name < span.colon → span.colon < span.end → span.end + 2 ≡ to → FollowEachOther from (spans ++ span ∷ []) to
follow_more from at to [] span follow name colon end is = (name ∙ sym follow, colon, end, is)
follow_more from at to (s ∷ spans) span follow name colon end is =
    (follow.0, follow.1, follow.2, follow_more (s.end + 2) at to spans span follow.3 name colon end is)

-- the cut line is some field line
abbrev pub MakesSome : RawPieces → Type 0
MakesSome cut = (line : FieldLine) × MakesLine cut line

-- the rest's lines are the field lines at these offsets in the bytes, and others, which are left
pub record Walked (bytes rest : List ℕ) (lines : List RawPieces) (spans : List LineSpan) (left : List ℕ) : Type 0 where
  pub joined : rest ≡ flat_map line_text (map (line_at bytes) spans) ++ left
  pub each : All IsLine (map (line_at bytes) spans)
  pub lie : list_all (lies_in (length bytes)) spans ≡ true
  pub follow : FollowEachOther (length bytes - length rest) spans (length bytes - length left)
  pub ends : IsRestOf bytes left
  pub done : List RawPieces
  pub others : List RawPieces
  pub lines_are : lines ≡ done ++ others
  pub count : length done ≡ length spans
  pub makes : All MakesSome done
  pub left_are : AreLinesOf left others

pub record Reading (bytes rest : List ℕ) (spans : List LineSpan) (left : List ℕ) : Type 0 where
  pub within : length left ≤ length bytes
  pub few : length spans ≤ MAX_HEAD_LINES
  pub clean : IsCleanUpTo rest left
  pub still : (lines : List RawPieces) → AreLinesOf rest lines → Walked bytes rest lines spans left

pub begins : (bytes rest : List ℕ) (lines : List RawPieces) → IsRestOf bytes rest → AreLinesOf rest lines → Walked bytes rest lines [] rest
begins bytes rest lines ends a = record {
  joined = refl;
  each = All-nil IsLine;
  lie = refl;
  follow = refl;
  ends = ends;
  done = [];
  others = lines;
  lines_are = refl;
  count = refl;
  makes = All-nil MakesSome;
  left_are = a;
}

pub walk_more : (bytes rest : List ℕ) (lines : List RawPieces) (spans : List LineSpan) (left after : List ℕ) (line : FieldLine) (w : Walked bytes rest lines spans left) → (next : NextOf left w.others) → ReadsLine next.line (lines_text next.others []) line after → Walked bytes rest lines (spans ++ span_at (length bytes - length left) line ∷ []) after
walk_more bytes rest lines spans left after line w next r =
    let more = lines_text next.others [] in
    let b = read_begins next.line more left after line next.begins r in
    let at = length bytes - length left in
    let span = span_at at line in
    let before = map (line_at bytes) spans in
    let size = line_size bytes left line more b in
    let room : at + length line.name + 1 + length line.raw + 2 ≤ length bytes = omega (arith, size, w.ends.within) in
    let some : 0 < length line.name = ltb-true 0 (length line.name) (and_parts _ _ r.makes.is.name).0 in
    let made : map (line_at bytes) (spans ++ span ∷ []) ≡ before ++ line ∷ [] =
    map-append (line_at bytes) spans (span ∷ []) ∙ ap (λ (x : FieldLine). before ++ x ∷ []) (line_is bytes left line more w.ends b) in
    record {
      joined =
          w.joined
          ∙ ap (λ (x : List ℕ). flat_map line_text before ++ x) b.joined
          ∙ sym (append_assoc (flat_map line_text before) (line_text line) more)
          ∙ ap (λ (x : List ℕ). (flat_map line_text before ++ x) ++ more) (sym (append-nil (line_text line)))
          ∙ ap (λ (x : List ℕ). x ++ more) (sym (flat_map-append line_text before (line ∷ [])))
          ∙ ap (λ (x : List FieldLine). flat_map line_text x ++ more) (sym made)
          ∙ ap (λ (x : List ℕ). flat_map line_text (map (line_at bytes) (spans ++ span ∷ [])) ++ x) (sym r.rest_is);
      each = subst (λ (x : List FieldLine). All IsLine x) (sym made) (All-push IsLine before line w.each r.makes.is);
      lie = list_all-append (lies_in (length bytes)) spans _ ∙ and_from _ _ w.lie (and_from _ _ (lies_at at (length bytes) line room) refl);
      follow =
          follow_more (length bytes - length rest) at (length bytes - length after) spans span w.follow refl (omega arith) (omega arith) (omega (arith, size, w.ends.within, ap (length {A = ℕ}) r.rest_is));
      ends = subst (λ (x : List ℕ). IsRestOf bytes x) (sym r.rest_is) (after_is bytes left line more w.ends b);
      done = w.done ++ next.line ∷ [];
      others = next.others;
      lines_are =
          w.lines_are ∙ ap (λ (x : List RawPieces). w.done ++ x) next.are ∙ sym (append_assoc w.done (next.line ∷ []) next.others);
      count = omega (arith, length-append w.done (next.line ∷ []), length-append spans (span ∷ []), w.count);
      makes = All-push MakesSome w.done next.line w.makes (line, r.makes);
      left_are = subst (λ (x : List ℕ). AreLinesOf x next.others) (sym r.rest_is) next.rest;
    }

-- ---- where the walk ends

pub all_walked : (bytes rest : List ℕ) (lines : List RawPieces) (spans : List LineSpan) (left : List ℕ) → length spans ≤ MAX_HEAD_LINES → Walked bytes rest lines spans left → BeginsWithCrlf left → AreSpansOf bytes spans rest
all_walked bytes rest lines spans left few w end =
    let none = at_end left w.others w.left_are end in
    let left_is : left ≡ 13 ∷ 10 ∷ [] = w.left_are.joined ∙ ap (λ (x : List RawPieces). lines_text x []) none in
    record {
      joined = w.joined ∙ ap (λ (x : List ℕ). flat_map line_text (map (line_at bytes) spans) ++ x) left_is;
      each = w.each;
      few = few;
      lie = w.lie;
      follow = subst (λ (x : List ℕ). FollowEachOther (length bytes - length rest) spans (length bytes - length x)) left_is w.follow;
    }

lines_size : (bytes rest : List ℕ) (lines : List RawPieces) (spans : List LineSpan) (left : List ℕ) (w : Walked bytes rest lines spans left) → length lines ≡ length spans + length w.others
lines_size bytes rest lines spans left w = omega (arith, ap (length {A = RawPieces}) w.lines_are, length-append w.done w.others, w.count)

next_at : (done : List RawPieces) (line : RawPieces) (others lines : List RawPieces) → lines ≡ done ++ line ∷ others → slice_get lines (length done) ≡ Some line
next_at done line others lines e = ap (λ (x : List RawPieces). slice_get x (length done)) e ∙ there done
  where
    there : (done : List RawPieces) → slice_get (done ++ line ∷ others) (length done) ≡ Some line
    there [] = refl
    there (d ∷ ds) = there ds

pub fault_is : (side : Side) (fault : HeadError) (bytes rest : List ℕ) (lines : List RawPieces) (spans : List LineSpan) (left : List ℕ) (w : Walked bytes rest lines spans left) → (next : NextOf left w.others) → MakesNoLine next.line → IsFaultFrom side (length spans) w.others fault → IsLinesFault side lines fault
fault_is side (TooManyLines other) bytes rest lines spans left w next none is =
    (is.0, omega (arith, is.1, lines_size bytes rest lines spans left w))
fault_is side (BadLine other at) bytes rest lines spans left w next none is =
    let same : at ≡ length w.done = is.1 ∙ sym w.count in
    let lines_are = w.lines_are ∙ ap (λ (x : List RawPieces). w.done ++ x) next.are in
    let before : take at lines ≡ w.done = ap (λ k. take k lines) same ∙ ap (λ (x : List RawPieces). take (length w.done) x) w.lines_are ∙ take-append_seam w.done w.others in
    let there : slice_get lines at ≡ Some next.line = ap (slice_get lines) same ∙ next_at w.done next.line next.others lines lines_are in (
      is.0,
      omega (arith, is.2, lines_size bytes rest lines spans left w),
      record {
        before = subst (λ (x : List RawPieces). All MakesSome x) (sym before) w.makes;
        there = rw there none;
      },
    )
fault_is side Memory bytes rest lines spans left w next none is = absurd is
fault_is side (TooLong other) bytes rest lines spans left w next none is = absurd is
fault_is side (NakedEnd at) bytes rest lines spans left w next none is = absurd is
fault_is side BadStart bytes rest lines spans left w next none is = absurd is
