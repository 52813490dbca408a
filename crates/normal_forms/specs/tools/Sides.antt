-- Steps that are added while the lines of a side are made normal. No public clause cites this
-- module.
use Rattle.std.specs.Prelude.{◌≡◌, ◌⊎◌, ℕ, ◌+◌, ◌≤◌, IsTrue, IsFalse, List, [], ◌∷◌, ◌++◌, length, map, take, drop, codes}
use Rattle.std.specs.List.{All, FoldsTo, flat_map, list_all}
use Rattle.std.specs.Str.{str_to_ascii_lowercase}
use Rattle.byte_grammar.specs.Classes.{is_line_byte}
use Rattle.byte_grammar.specs.Language.{starts_in}
use Rattle.msg_head.specs.declared.error.Side.{Side}
use Rattle.msg_head.specs.Lines.{FieldLine}
use Rattle.msg_head.specs.Values.{has_bytes, is_there, value}
use Rattle.msg_body.specs.SameFields.{name_of}
use Rattle.msg_body.specs.Spacing.{ends_in, is_spacing}
use Rattle.component_ids.specs.declared.params.SigParams.{SigParams}
use Rattle.rewrite_script.specs.declared.rewrite.LineRewrite.{LineRewrite}
use Rattle.rewrite_script.specs.declared.rewrite.Rewrite.{Rewrite}
use Rattle.rewrite_script.specs.declared.rewrite.Rewrite.TheVariants.{Lines}
use Rattle.line_rewrites.specs.Permitted.{MayChangeNumber}
use Rattle.normal_forms.specs.LineSteps.{Cleans, Joins, Removes, join_steps}
use Rattle.normal_forms.specs.NormalLines.{IsClean, IsJoined, IsKept}
use Rattle.normal_forms.specs.tools.Lines.{CleansLine, clean_line}

-- ---- steps that are added

-- steps that lead from the one to the other are added at the end
pub record Leads {A : Type 0} (Step : A → LineRewrite → A → Type 0) (from to : A)
    (before after : List Rewrite) : Type 0 where
  pub made : List LineRewrite
  pub lead : FoldsTo Step from made to
  pub added : after ≡ before ++ map Lines made

-- ---- lines that go

-- the steps that take away the lines that may go are added, and the others are these
pub record KeepsLines (side : Side) (params : SigParams) (lines kept : List FieldLine)
    (before after : List Rewrite) : Type 0 where
  pub removed : Leads (Removes side params) lines kept before after
  pub all_kept : All (IsKept side params) kept

-- From the index on the lines are these, which stay, and so many before them aren't judged yet.
pub record KeepsFrom (side : Side) (params : SigParams) (lines : List FieldLine) (left : ℕ)
    (kept : List FieldLine) (before after : List Rewrite) : Type 0 where
  pub removed : Leads (Removes side params) lines (take left lines ++ kept) before after
  pub all_kept : All (IsKept side params) kept
  pub within : left ≤ length lines

-- ---- lines that are made clean

-- steps that take folds of the raw value away are added, and it becomes the other one
pub record Unfolds (side : Side) (index : ℕ) (raw unfolded : List ℕ) (before after : List Rewrite)
    : Type 0 where
  pub steps : (name : List ℕ) → str_to_ascii_lowercase name ≡ name
      → Leads (CleansLine side index) (record { name = name; raw = raw })
      (record { name = name; raw = unfolded }) before after
  pub same : value unfolded ≡ value raw
  pub first : starts_in is_spacing unfolded ≡ starts_in is_spacing raw
  pub last : ends_in is_spacing unfolded ≡ ends_in is_spacing raw

-- all folds are taken away
abbrev pub UnfoldsAll : Side → ℕ → List ℕ → List Rewrite → List Rewrite → Type 0
UnfoldsAll side index raw before after = (unfolded : List ℕ)
    × Unfolds side index raw unfolded before after × IsTrue (list_all is_line_byte unfolded)

-- The bytes of the raw value, so many, from which folds are taken away have become others, and the
-- rest is as it was. It begins with no spacing, but where it is all of the raw value.
pub record UnfoldsUpTo (side : Side) (index : ℕ) (raw : List ℕ) (done : ℕ) (rest : List ℕ)
    (before after : List Rewrite) : Type 0 where
  pub prefix : List ℕ
  pub unfolds : Unfolds side index raw (prefix ++ rest) before after
  pub there : done ≡ length prefix
  pub whole : IsTrue (list_all is_line_byte prefix)
  pub begins : (prefix ≡ []) ⊎ IsFalse (starts_in is_spacing rest)
  pub within : done + length rest ≤ length raw

-- the steps that make the lines clean are added
abbrev pub CleansLines : Side → List FieldLine → List FieldLine → List Rewrite → List Rewrite
    → Type 0
CleansLines side lines clean before after =
    Leads (Cleans side) lines clean before after × (clean ≡ map clean_line lines)

-- ---- lines that are joined

-- the line of the one index and the later one may be joined
pub record AreJoinable (side : Side) (params : SigParams) (lines : List FieldLine)
    (index later : ℕ) : Type 0 where
  pub before : List FieldLine
  pub line : FieldLine
  pub between : List FieldLine
  pub next : FieldLine
  pub after : List FieldLine
  pub lines_are : lines ≡ before ++ line ∷ (between ++ next ∷ after)
  pub there : index ≡ length before
  pub later_there : later ≡ length before + 1 + length between
  pub same : name_of next ≡ name_of line
  pub none_between : IsFalse (is_there between (name_of line))
  pub may : MayChangeNumber side (name_of line) params
  pub some : IsTrue (has_bytes (value next.raw))

-- the line can't be joined with one of those after it
abbrev pub IsAlone : Side → SigParams → FieldLine → List FieldLine → Type 0
IsAlone side params line others = (between : List FieldLine) (next : FieldLine)
    (after : List FieldLine) → others ≡ between ++ next ∷ after
    → MayChangeNumber side (name_of line) params → name_of next ≡ name_of line
    → IsFalse (is_there between (name_of line)) → value next.raw ≡ []

-- the line of the index can't be joined with a later one
abbrev pub IsAloneAt : Side → SigParams → List FieldLine → ℕ → Type 0
IsAloneAt side params lines index = (before : List FieldLine) (line : FieldLine)
    (others : List FieldLine) → lines ≡ before ++ line ∷ others → index ≡ length before
    → IsAlone side params line others

-- the line of the one index and the later one become one
abbrev pub JoinsAt : ℕ → ℕ → List FieldLine → List FieldLine → Type 0
JoinsAt index later lines joined = (before : List FieldLine) (line : FieldLine)
    (between : List FieldLine) (next : FieldLine) (after : List FieldLine)
    → lines ≡ before ++ line ∷ (between ++ next ∷ after) → index ≡ length before
    → later ≡ length before + 1 + length between
    → joined ≡ before ++ record { name = line.name; raw = line.raw ++ (codes ", " ++ next.raw) }
    ∷ (between ++ after)

-- the steps that join lines of one name are added
pub record JoinsLines (side : Side) (params : SigParams) (lines joined : List FieldLine)
    (before after : List Rewrite) : Type 0 where
  pub pairs : List (ℕ × ℕ)
  pub join : FoldsTo (Joins side params) lines pairs joined
  pub added : after ≡ before ++ map Lines (flat_map (join_steps side) pairs)

-- From the index on lines of one name are joined, and the lines before are as they were.
pub record JoinsFrom (side : Side) (params : SigParams) (lines joined : List FieldLine) (left : ℕ)
    (before after : List Rewrite) : Type 0 where
  pub joins : JoinsLines side params lines joined before after
  pub clean : All IsClean joined
  pub within : left ≤ length joined
  pub rest : IsJoined side params (drop left joined)
