-- The rewriting of field lines that each step is which makes lines normal.
use Rattle.std.proofs.Common.{ℕ, List, [], ◌++◌, length, refl, sym, ap, ◌∙◌}
use Rattle.std.specs.List.{All}
use Rattle.std.proofs.lemmas.List.{append-nil}
use Rattle.msg_head.specs.declared.error.Side.{Side}
use Rattle.msg_head.specs.Lines.{FieldLine, IsLine}
use Rattle.msg_head.specs.Values.{value}
use Rattle.msg_body.specs.SameFields.{name_of}
use Rattle.component_ids.specs.declared.params.SigParams.{SigParams}
use Rattle.rewrite_script.specs.declared.rewrite.LineRewrite.{LineRewrite}
use Rattle.line_rewrites.specs.LineLists.{ChangesRaw, IsJoined, IsRemoved, IsRenamed, Replaces}
use Rattle.line_rewrites.specs.RawValues.{IsPadded, IsUnfolded}
use Rattle.normal_forms.specs.LineSteps.{Cleans, IsLowered, IsTrimmed, IsUnfoldedFirst, Joins, Removes}
use Rattle.normal_forms.proofs.LineRaws.{joined_itself, spaced_core, value_core}
use Rattle.normal_forms.proofs.LineKeeps.{around_line, joined_bytes, joined_line, joined_parts, joined_raw, lowered_twice, spaced_line, spaced_lines}

-- ---- `remove`

pub removes_change : (side : Side) (params : SigParams) (lines : List FieldLine) (step : LineRewrite) (others : List FieldLine) (removes : Removes side params lines step others)
    → IsRemoved (length removes.before) lines others
removes_change side params lines step others removes =
    (removes.line, record { before = removes.before; after = removes.after; lines_are = removes.others_are; there = refl; longer_are = removes.lines_are })

-- ---- `case`, `unfold` and `pad`

module _ (side : Side) (lines : List FieldLine) (step : LineRewrite) (others : List FieldLine) (cleans : Cleans side lines step others) where
  -- the line becomes the other
  replaces : (Becomes : FieldLine → FieldLine → Type 0) → Becomes cleans.line cleans.other → Replaces Becomes (length cleans.before) lines others
  replaces Becomes becomes = record {
    before = cleans.before;
    line = cleans.line;
    other = cleans.other;
    after = cleans.after;
    lines_are = cleans.lines_are;
    there = refl;
    becomes = becomes;
    replaced_are = cleans.others_are;
  }

  pub lowered_change : IsLowered side (length cleans.before) cleans.line step cleans.other → Replaces (IsRenamed (name_of cleans.line)) (length cleans.before) lines others
  lowered_change lowered =
      replaces (IsRenamed (name_of cleans.line)) (record { same = lowered_twice cleans.line.name; other_is = lowered.other_is })

  pub unfolded_change : (first : IsUnfoldedFirst side (length cleans.before) cleans.line step cleans.other)
      → Replaces (ChangesRaw (IsUnfolded (length first.before))) (length cleans.before) lines others
  unfolded_change first = replaces (ChangesRaw (IsUnfolded (length first.before))) (record { name = first.other_is; raw = first.unfolded })

  pub trimmed_change : All IsLine lines → IsTrimmed side (length cleans.before) cleans.line step cleans.other
      → Replaces (ChangesRaw (IsPadded [] [])) (length cleans.before) lines others
  trimmed_change each trimmed =
      let line = cleans.line in
      let is = (around_line IsLine lines cleans.before line cleans.after cleans.lines_are each).here in
      replaces (ChangesRaw (IsPadded [] [])) (record {
        name = ap (λ (other : FieldLine). other.name) trimmed.other_is;
        raw = (value line.raw, value_core line.raw is.raw trimmed.whole, ap (λ (other : FieldLine). other.raw) trimmed.other_is ∙ sym (append-nil (value line.raw)));
      })

-- ---- `join`, and `pad` after it

module _ (side : Side) (params : SigParams) (lines : List FieldLine) (pair : ℕ × ℕ) (others : List FieldLine) (joins : Joins side params lines pair others) where
  pub join_change : IsJoined pair.0 pair.1 lines (spaced_lines side params lines pair others joins)
  join_change = record {
    before = joins.before;
    line = joins.line;
    between = joins.between;
    other = joins.next;
    after = joins.after;
    lines_are = joins.lines_are;
    there = ap (λ (p : ℕ × ℕ). p.0) joins.pair_is;
    later_there = ap (λ (p : ℕ × ℕ). p.1) joins.pair_is;
    same = joins.same;
    none_between = joins.none_between;
    joined_are = refl;
  }

  pub pad_change : All IsLine lines → Replaces (ChangesRaw (IsPadded [] [])) pair.0 (spaced_lines side params lines pair others joins) others
  pad_change each =
      let line = joins.line in
      let next = joins.next in
      let parts = joined_parts side params lines pair others each joins in
      let core = spaced_core (joined_raw line next) (joined_bytes line next parts.here parts.there) (joined_itself line.raw next.raw joins.some) in
      record {
        before = joins.before;
        line = spaced_line line next;
        other = joined_line line next;
        after = joins.between ++ joins.after;
        lines_are = refl;
        there = ap (λ (p : ℕ × ℕ). p.0) joins.pair_is;
        becomes = record { name = refl; raw = (joined_raw line next, core, sym (append-nil (joined_raw line next))) };
        replaced_are = joins.others_are;
      }
