-- Field lines of a side as they are when all is taken away that a signature doesn't rest on: which
-- lines stay, how each is written, and how many of a name (RFC 9110 sections 5.1 and 5.3, RFC 9421
-- section 2.1).
use Rattle.std.specs.Prelude.{◌≡◌, ℕ, Bool, IsTrue, ◌||◌, List, [], ◌∷◌, ◌++◌}
use Rattle.std.specs.List.{All}
use Rattle.msg_head.specs.declared.error.Side.{Side}
use Rattle.msg_head.specs.Lines.{FieldLine}
use Rattle.msg_head.specs.Values.{is_there, value}
use Rattle.msg_body.specs.SameFields.{name_of}
use Rattle.component_ids.specs.Table.{is_listed}
use Rattle.component_ids.specs.declared.params.SigParams.{SigParams}
use Rattle.line_rewrites.specs.Covered.{covers_field}
use Rattle.line_rewrites.specs.Permitted.{MayChangeNumber, kept_names}

-- lines of the name stay: it is `Host`, one that frames or one of the fields of signatures, or it
-- is covered on the side
abbrev pub is_kept : Side → SigParams → List ℕ → Bool
is_kept side params name = is_listed kept_names name || covers_field side name params

-- the line stays
abbrev pub IsKept : Side → SigParams → FieldLine → Type 0
IsKept side params line = IsTrue (is_kept side params (name_of line))

-- its name is in lower case, and its raw value is its value
pub record IsClean (line : FieldLine) : Type 0 where
  pub name : name_of line ≡ line.name
  pub raw : value line.raw ≡ line.raw

-- Where lines of a name may be joined, no other than the first of them has a value that isn't
-- empty.
abbrev pub IsJoined : Side → SigParams → List FieldLine → Type 0
IsJoined side params lines =
    (before : List FieldLine) (line : FieldLine) (after : List FieldLine)
    → lines ≡ before ++ line ∷ after → MayChangeNumber side (name_of line) params
    → IsTrue (is_there before (name_of line)) → value line.raw ≡ []

-- the lines of the side are normal for a signature of these parameters
pub record AreNormalLines (side : Side) (params : SigParams) (lines : List FieldLine)
    : Type 0 where
  pub kept : All (IsKept side params) lines
  pub clean : All IsClean lines
  pub joined : IsJoined side params lines
