-- The steps that make the field lines of a side normal: three lists of them, one after the other.
-- Each step is the one that its condition names in the lines that it meets, and at the end of a
-- list no line meets the condition.
use Rattle.std.specs.Prelude.{◌≡◌, ◌≢◌, ◌⊎◌, ℕ, ◌+◌, IsTrue, IsFalse, List, [], ◌∷◌, ◌++◌, length, codes}
use Rattle.std.specs.List.{All, FoldsTo, flat_map, list_any}
use Rattle.msg_head.specs.declared.error.Side.{Side}
use Rattle.msg_head.specs.Lines.{FieldLine}
use Rattle.msg_head.specs.Values.{has_bytes, is_end, is_there, value}
use Rattle.msg_body.specs.SameFields.{name_of}
use Rattle.component_ids.specs.declared.params.SigParams.{SigParams}
use Rattle.rewrite_script.specs.declared.rewrite.LineRewrite.{LineRewrite}
use Rattle.rewrite_script.specs.declared.rewrite.LineRewrite.TheVariants.{Case, Join, Pad, Remove, Unfold}
use Rattle.line_rewrites.specs.Permitted.{MayChangeNumber, MayChangeValue}
use Rattle.line_rewrites.specs.RawValues.{IsUnfolded}
use Rattle.normal_forms.specs.NormalLines.{IsClean, IsJoined, IsKept}

-- ---- lines that a signature doesn't rest on

-- `remove` of the last line that may go
pub record Removes (side : Side) (params : SigParams) (lines : List FieldLine) (step : LineRewrite)
    (others : List FieldLine) : Type 0 where
  pub before : List FieldLine
  pub line : FieldLine
  pub after : List FieldLine
  pub lines_are : lines ≡ before ++ line ∷ after
  pub goes : MayChangeValue side (name_of line) params
  pub last : All (IsKept side params) after
  pub step_is : step ≡ Remove side (length before)
  pub others_are : others ≡ before ++ after

-- ---- how a line is written

-- `case`: the name isn't in lower case
pub record IsLowered (side : Side) (index : ℕ) (line : FieldLine) (step : LineRewrite)
    (other : FieldLine) : Type 0 where
  pub name : name_of line ≢ line.name
  pub step_is : step ≡ Case side index (name_of line)
  pub other_is : other ≡ record { name = name_of line; raw = line.raw }

-- `unfold` at the first CRLF of the raw value
pub record IsUnfoldedFirst (side : Side) (index : ℕ) (line : FieldLine) (step : LineRewrite)
    (other : FieldLine) : Type 0 where
  pub name : name_of line ≡ line.name
  pub before : List ℕ
  pub after : List ℕ
  pub raw_is : line.raw ≡ before ++ (codes "\r\n" ++ after)
  pub first : IsFalse (list_any is_end before)
  pub step_is : step ≡ Unfold side index (length before)
  pub unfolded : IsUnfolded (length before) line.raw other.raw
  pub other_is : other.name ≡ line.name

-- `pad` with nothing: there is no CRLF, and blanks stand at the ends
pub record IsTrimmed (side : Side) (index : ℕ) (line : FieldLine) (step : LineRewrite)
    (other : FieldLine) : Type 0 where
  pub name : name_of line ≡ line.name
  pub whole : IsFalse (list_any is_end line.raw)
  pub blanks : value line.raw ≢ line.raw
  pub step_is : step ≡ Pad side index [] []
  pub other_is : other ≡ record { name = line.name; raw = value line.raw }

-- the first line that isn't clean becomes another
pub record Cleans (side : Side) (lines : List FieldLine) (step : LineRewrite)
    (others : List FieldLine) : Type 0 where
  pub before : List FieldLine
  pub line : FieldLine
  pub other : FieldLine
  pub after : List FieldLine
  pub lines_are : lines ≡ before ++ line ∷ after
  pub first : All IsClean before
  pub becomes : IsLowered side (length before) line step other
      ⊎ IsUnfoldedFirst side (length before) line step other
      ⊎ IsTrimmed side (length before) line step other
  pub others_are : others ≡ before ++ other ∷ after

-- ---- lines of one name

-- The last line that may be joined with the next of its name, where that one has a value: its index
-- and that of the next one. They become one line.
pub record Joins (side : Side) (params : SigParams) (lines : List FieldLine) (pair : ℕ × ℕ)
    (others : List FieldLine) : Type 0 where
  pub before : List FieldLine
  pub line : FieldLine
  pub between : List FieldLine
  pub next : FieldLine
  pub after : List FieldLine
  pub lines_are : lines ≡ before ++ line ∷ (between ++ next ∷ after)
  pub same : name_of next ≡ name_of line
  pub none_between : IsFalse (is_there between (name_of line))
  pub may : MayChangeNumber side (name_of line) params
  pub some : IsTrue (has_bytes (value next.raw))
  pub last : IsJoined side params (between ++ next ∷ after)
  pub pair_is : pair ≡ (length before, length before + 1 + length between)
  pub others_are : others ≡ before
      ++ record { name = line.name; raw = value line.raw ++ (codes ", " ++ value next.raw) }
      ∷ (between ++ after)

-- `join` of the two, and `pad` of the one that they become, with nothing
abbrev pub join_steps : Side → ℕ × ℕ → List LineRewrite
join_steps side pair = Join side pair.0 pair.1 ∷ Pad side pair.0 [] [] ∷ []

-- ---- all of a side

-- the steps make the lines of the side normal, and these are the normal ones
pub record MakeNormal (side : Side) (params : SigParams) (lines : List FieldLine)
    (steps : List LineRewrite) (normal : List FieldLine) : Type 0 where
  pub removals : List LineRewrite
  pub kept : List FieldLine
  pub removed : FoldsTo (Removes side params) lines removals kept
  pub all_kept : All (IsKept side params) kept
  pub cleanings : List LineRewrite
  pub clean : List FieldLine
  pub cleaned : FoldsTo (Cleans side) kept cleanings clean
  pub all_clean : All IsClean clean
  pub pairs : List (ℕ × ℕ)
  pub joined : FoldsTo (Joins side params) clean pairs normal
  pub all_joined : IsJoined side params normal
  pub steps_are : steps ≡ removals ++ (cleanings ++ flat_map (join_steps side) pairs)
