-- A step that a signature permits gives a message that is the same for it.
use Rattle.std.proofs.Common.{◌≡◌, ℕ, true, ◌&&◌, List}
use Rattle.std.specs.Prelude.{nat_le, length}
use Rattle.std.specs.List.{list_all}
use Rattle.std.proofs.lemmas.Bool.{and_parts}
use Rattle.byte_grammar.specs.Classes.{is_blank}
use Rattle.msg_head.specs.declared.error.Side.{Side}
use Rattle.msg_head.specs.Lines.{FieldLine}
use Rattle.msg_body.specs.Messages.{Message}
use Rattle.msg_body.specs.Views.{lines_on}
use Rattle.component_ids.specs.declared.params.SigParams.{SigParams}
use Rattle.component_values.specs.Context.{MessageContext}
use Rattle.msg_body.specs.SameFields.{name_of}
use Rattle.msg_body.specs.Spacing.{is_spacing}
use Rattle.rewrite_script.specs.declared.limits.TheConstants.{MAX_BLANKS}
use Rattle.rewrite_script.specs.declared.rewrite.LineRewrite.TheVariants.{Pad, Fold, Unfold, Join, Split, Move, Case, Add, Remove}
use Rattle.rewrite_script.specs.Lines.{are_blanks, is_number, is_line_writable}
use Rattle.line_rewrites.specs.LineLists.{line_of, Replaces, ChangesRaw, IsRenamed, IsJoined, IsSplit, IsAdded, IsRemoved, IsMoved, PassesOtherNames}
use Rattle.line_rewrites.specs.Laws.{IsSameWhereLinesPermitted}
use Rattle.line_rewrites.specs.Permitted.{OfLine, HasValue, MayChangeNumber, MayChangeValue}
use Rattle.line_rewrites.specs.RawValues.{IsPadded, IsFolded, IsUnfolded, IsLoneSpace, IsBeforeLoneSpace}
use Rattle.line_rewrites.specs.SameFor.{SameFor}
use Rattle.line_rewrites.specs.Steps.{ChangesLines}
use Rattle.line_rewrites.proofs.LineKinds.{added, removed, of_removed, joined, of_joined, of_later, split, of_split, moved_same}
use Rattle.line_rewrites.proofs.ListParts.{holds_at}
use Rattle.line_rewrites.proofs.RawValueKinds.{spacing_of_blanks, value_padded, value_folded, value_unfolded, raw_replaced, renamed}
use Rattle.line_rewrites.proofs.SameMessages.{by_fields, by_others, by_values, same_for}

spacing_of : (text : List ℕ) → are_blanks text ≡ true → list_all is_spacing text ≡ true
spacing_of text are = spacing_of_blanks text (and_parts (nat_le (length text) MAX_BLANKS) (list_all is_blank text) are).1

module _ (context : MessageContext) (side : Side) (params : SigParams) (result : Message) where
  pad_same : (index : ℕ) (before after : List ℕ) → is_line_writable (Pad side index before after) ≡ true
      → ChangesLines context side (Replaces (ChangesRaw (IsPadded before after)) index) result → SameFor params context.message result
  pad_same index before after writable step =
      let both = and_parts (are_blanks before) (are_blanks after) (and_parts (is_number index) (are_blanks before && are_blanks after) writable).1 in
      let is = step.change in
      same_for context side (Replaces (ChangesRaw (IsPadded before after)) index) result params step
      (by_values side params (lines_on side context.message) step.lines
      (λ name. raw_replaced (IsPadded before after) index (lines_on side context.message) step.lines is name
      (value_padded before after is.line.raw is.other.raw (spacing_of before both.0) (spacing_of after both.1) is.becomes.raw)))

  fold_same : (index offset : ℕ) (blanks : List ℕ) → is_line_writable (Fold side index offset blanks) ≡ true
      → ChangesLines context side (Replaces (ChangesRaw (IsFolded offset blanks)) index) result → OfLine context side index (λ line. IsLoneSpace offset line.raw)
      → SameFor params context.message result
  fold_same index offset blanks writable step permits =
      let both = and_parts (is_number offset) (are_blanks blanks) (and_parts (is_number index) (is_number offset && are_blanks blanks) writable).1 in
      let is = step.change in
      let lone = holds_at (λ (line : FieldLine). IsLoneSpace offset line.raw) (lines_on side context.message) is.before is.line is.after index is.lines_are is.there permits in
      same_for context side (Replaces (ChangesRaw (IsFolded offset blanks)) index) result params step
      (by_values side params (lines_on side context.message) step.lines
      (λ name. raw_replaced (IsFolded offset blanks) index (lines_on side context.message) step.lines is name
      (value_folded offset blanks is.line.raw is.other.raw (spacing_of blanks both.1) lone is.becomes.raw)))

  unfold_same : (index offset : ℕ) → ChangesLines context side (Replaces (ChangesRaw (IsUnfolded offset)) index) result → SameFor params context.message result
  unfold_same index offset step =
      let is = step.change in
      same_for context side (Replaces (ChangesRaw (IsUnfolded offset)) index) result params step
      (by_values side params (lines_on side context.message) step.lines
      (λ name. raw_replaced (IsUnfolded offset) index (lines_on side context.message) step.lines is name
      (value_unfolded offset is.line.raw is.other.raw is.becomes.raw)))

  join_same : (index later : ℕ) → ChangesLines context side (IsJoined index later) result
      → OfLine context side index (λ line. MayChangeNumber side (name_of line) params) → OfLine context side later HasValue → SameFor params context.message result
  join_same index later step may full =
      let lines = lines_on side context.message in
      let is = step.change in
      same_for context side (IsJoined index later) result params step
      (by_fields side params is.line lines step.lines
      (joined index later lines step.lines is (of_later HasValue index later lines step.lines is full))
      (of_joined (λ (line : FieldLine). MayChangeNumber side (name_of line) params) index later lines step.lines is may))

  split_same : (index offset : ℕ) → ChangesLines context side (IsSplit index offset) result
      → OfLine context side index (λ line. MayChangeNumber side (name_of line) params × IsBeforeLoneSpace offset line.raw) → SameFor params context.message result
  split_same index offset step permits =
      let lines = lines_on side context.message in
      let is = step.change in
      let both = of_split (λ (line : FieldLine). MayChangeNumber side (name_of line) params × IsBeforeLoneSpace offset line.raw) index offset lines step.lines is permits in
      same_for context side (IsSplit index offset) result params step
      (by_fields side params is.line lines step.lines (split index offset lines step.lines is both.1) both.0)

  move_same : (index to : ℕ) → ChangesLines context side (IsMoved index to) result → PassesOtherNames index to (lines_on side context.message)
      → SameFor params context.message result
  move_same index to step permits =
      same_for context side (IsMoved index to) result params step
      (by_values side params (lines_on side context.message) step.lines (λ name. moved_same index to (lines_on side context.message) step.lines step.change permits name))

  case_same : (index : ℕ) (name : List ℕ) → ChangesLines context side (Replaces (IsRenamed name) index) result → SameFor params context.message result
  case_same index name step =
      same_for context side (Replaces (IsRenamed name) index) result params step
      (by_values side params (lines_on side context.message) step.lines (renamed name index (lines_on side context.message) step.lines step.change))

  add_same : (index : ℕ) (name text : List ℕ) → ChangesLines context side (IsAdded index (line_of name text)) result
      → MayChangeValue side (name_of (line_of name text)) params → SameFor params context.message result
  add_same index name text step may =
      same_for context side (IsAdded index (line_of name text)) result params step
      (by_others side params (line_of name text) (lines_on side context.message) step.lines
      (added index (line_of name text) (lines_on side context.message) step.lines step.change) may)

  remove_same : (index : ℕ) → ChangesLines context side (IsRemoved index) result → OfLine context side index (λ line. MayChangeValue side (name_of line) params)
      → SameFor params context.message result
  remove_same index step may =
      let lines = lines_on side context.message in
      same_for context side (IsRemoved index) result params step
      (by_others side params step.change.0 lines step.lines (removed index lines step.lines step.change)
      (of_removed (λ (line : FieldLine). MayChangeValue side (name_of line) params) index lines step.lines step.change may))

pub is_same_where_permitted : IsSameWhereLinesPermitted
is_same_where_permitted context (Pad side index before after) label params result writable step permits = pad_same context side params result index before after writable step
is_same_where_permitted context (Fold side index offset blanks) label params result writable step permits = fold_same context side params result index offset blanks writable step permits
is_same_where_permitted context (Unfold side index offset) label params result writable step permits = unfold_same context side params result index offset step
is_same_where_permitted context (Join side index later) label params result writable step permits = join_same context side params result index later step permits.0 permits.1
is_same_where_permitted context (Split side index offset) label params result writable step permits = split_same context side params result index offset step permits
is_same_where_permitted context (Move side index to) label params result writable step permits = move_same context side params result index to step permits
is_same_where_permitted context (Case side index name) label params result writable step permits = case_same context side params result index name step
is_same_where_permitted context (Add side index name text) label params result writable step permits = add_same context side params result index name text step permits
is_same_where_permitted context (Remove side index) label params result writable step permits = remove_same context side params result index step permits
