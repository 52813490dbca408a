-- What a rewriting makes of the field lines of a side: the lines before, those that it names, and
-- the lines after. Recipients may combine lines of one name, and lines of other names may come in
-- another order (RFC 9110 section 5.3); case doesn't count in names (section 5.1).
use Rattle.std.specs.Prelude.{◌≡◌, ⊤, ◌⊎◌, ℕ, ◌+◌, IsFalse, List, ◌∷◌, ◌++◌, length, codes}
use Rattle.std.specs.Str.{byte, str_to_ascii_lowercase}
use Rattle.msg_head.specs.Lines.{FieldLine}
pub use Rattle.msg_head.specs.Lines.{line_of}
use Rattle.msg_head.specs.Values.{value, is_there}
use Rattle.msg_body.specs.SameFields.{name_of}

-- ---- one line

-- the line of the index becomes another
pub record Replaces (Becomes : FieldLine → FieldLine → Type 0) (index : ℕ)
    (lines replaced : List FieldLine) : Type 0 where
  pub before : List FieldLine
  pub line : FieldLine
  pub other : FieldLine
  pub after : List FieldLine
  pub lines_are : lines ≡ before ++ line ∷ after
  pub there : index ≡ length before
  pub becomes : Becomes line other
  pub replaced_are : replaced ≡ before ++ other ∷ after

-- the raw value becomes another, and the name stays
pub record ChangesRaw (Becomes : List ℕ → List ℕ → Type 0) (line other : FieldLine) : Type 0 where
  pub name : other.name ≡ line.name
  pub raw : Becomes line.raw other.raw

-- `case`: the name becomes this one, which differs from it in case alone, and the raw value stays
pub record IsRenamed (name : List ℕ) (line other : FieldLine) : Type 0 where
  pub same : str_to_ascii_lowercase name ≡ name_of line
  pub other_is : other ≡ record { name = name; raw = line.raw }

-- ---- more lines and fewer

-- `join`: the value of the later line comes after that of the line of the index, a comma and a
-- space between them, and the later line goes. They have one name, which no line between has.
pub record IsJoined (index later : ℕ) (lines joined : List FieldLine) : Type 0 where
  pub before : List FieldLine
  pub line : FieldLine
  pub between : List FieldLine
  pub other : FieldLine
  pub after : List FieldLine
  pub lines_are : lines ≡ before ++ line ∷ (between ++ other ∷ after)
  pub there : index ≡ length before
  pub later_there : later ≡ length before + 1 + length between
  pub same : name_of other ≡ name_of line
  pub none_between : IsFalse (is_there between (name_of line))
  pub joined_are : joined ≡ before
      ++ line_of line.name (value line.raw ++ (codes ", " ++ value other.raw))
      ∷ (between ++ after)

-- `split`: the line of the index becomes two of its name, with the values of what is before the
-- comma at the offset and after it
pub record IsSplit (index offset : ℕ) (lines split : List FieldLine) : Type 0 where
  pub before : List FieldLine
  pub line : FieldLine
  pub after : List FieldLine
  pub lines_are : lines ≡ before ++ line ∷ after
  pub there : index ≡ length before
  pub first : List ℕ
  pub last : List ℕ
  pub raw_is : line.raw ≡ first ++ byte "," ∷ last
  pub comma_there : offset ≡ length first
  pub split_are : split ≡ before
      ++ line_of line.name (value first) ∷ line_of line.name (value last) ∷ after

-- `add`: the line is put in at the index
pub record IsAdded (index : ℕ) (line : FieldLine) (lines longer : List FieldLine) : Type 0 where
  pub before : List FieldLine
  pub after : List FieldLine
  pub lines_are : lines ≡ before ++ after
  pub there : index ≡ length before
  pub longer_are : longer ≡ before ++ line ∷ after

-- `remove`: the line of the index goes, whatever it is
abbrev pub IsRemoved : ℕ → List FieldLine → List FieldLine → Type 0
IsRemoved index lines shorter = (line : FieldLine) × IsAdded index line shorter lines

-- ---- their order

-- In the one list the line of the index comes before these lines, in the other after them. There it
-- has the second index.
pub record Passes (Allows : FieldLine → List FieldLine → Type 0) (index to : ℕ)
    (lines moved : List FieldLine) : Type 0 where
  pub before : List FieldLine
  pub line : FieldLine
  pub passed : List FieldLine
  pub after : List FieldLine
  pub lines_are : lines ≡ before ++ line ∷ (passed ++ after)
  pub there : index ≡ length before
  pub to_there : to ≡ length before + length passed
  pub moved_are : moved ≡ before ++ (passed ++ line ∷ after)
  pub allows : Allows line passed

-- the line of the one index is moved to the other, towards the end or towards the start
abbrev pub Moves : (FieldLine → List FieldLine → Type 0) → ℕ → ℕ → List FieldLine
    → List FieldLine → Type 0
Moves Allows index to lines moved =
    Passes Allows index to lines moved ⊎ Passes Allows to index moved lines

-- `move`: whatever lines it passes
abbrev pub IsMoved : ℕ → ℕ → List FieldLine → List FieldLine → Type 0
IsMoved index to lines moved = Moves (λ line passed. ⊤) index to lines moved

-- none of the lines that it passes has its name
abbrev pub PassesOtherNames : ℕ → ℕ → List FieldLine → Type 0
PassesOtherNames index to lines = (moved : List FieldLine)
    × Moves (λ line passed. IsFalse (is_there passed (name_of line))) index to lines moved
