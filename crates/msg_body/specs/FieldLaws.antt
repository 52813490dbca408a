-- Laws of values and of lists of field lines.
use Rattle.std.specs.Prelude.{◌≡◌, ℕ, IsTrue, IsFalse, List, ◌∷◌, ◌++◌, codes}
use Rattle.std.specs.List.{list_all}
use Rattle.std.specs.Str.{byte}
use Rattle.byte_grammar.specs.Classes.{is_blank}
use Rattle.byte_grammar.specs.Language.{starts_in}
use Rattle.msg_head.specs.Lines.{FieldLine}
use Rattle.msg_head.specs.Names.{has_name}
use Rattle.msg_head.specs.Values.{has_bytes, is_end, is_there, value}
use Rattle.msg_body.specs.Spacing.{ends_in, is_solid, is_spacing}
use Rattle.msg_body.specs.SameFields.{HasSameField, HasSameValues, name_of}

-- ---- values

-- Spacing at the ends of a raw value counts for nothing.
abbrev pub ForgetsSpacingAtEnds : Type 0
ForgetsSpacingAtEnds =
    (before text after : List ℕ) → IsTrue (list_all is_spacing before)
    → IsTrue (list_all is_spacing after) → value (before ++ (text ++ after)) ≡ value text

-- Spacing with a fold in it counts for one space, where no other spacing is beside it.
abbrev pub TakesFoldForSpace : Type 0
TakesFoldForSpace =
    (before first : List ℕ) (c : ℕ) (last after : List ℕ) → IsTrue (list_all is_spacing first)
    → IsTrue (is_end c) → IsTrue (list_all is_spacing last)
    → IsFalse (ends_in is_spacing before) → IsFalse (starts_in is_spacing after)
    → value (before ++ (first ++ c ∷ (last ++ after))) ≡ value (before ++ byte " " ∷ after)

-- Before a comma that a lone space follows, and after that space, are texts with values of their
-- own.
abbrev pub IsValueOfParts : Type 0
IsValueOfParts =
    (before after : List ℕ) → IsTrue (ends_in is_solid before) → IsTrue (starts_in is_solid after)
    → value (before ++ (codes ", " ++ after)) ≡ value before ++ (codes ", " ++ value after)

-- A value has no blank at its ends.
abbrev pub HasNoBlankAtEnds : Type 0
HasNoBlankAtEnds =
    (raw : List ℕ) → IsFalse (starts_in is_blank (value raw))
    × IsFalse (ends_in is_blank (value raw))

-- The value of SP and a value is that value.
abbrev pub IsValueOfItself : Type 0
IsValueOfItself = (raw : List ℕ) → value (byte " " ∷ value raw) ≡ value raw

-- SP and two values with a comma and a space between them have that text as their value, where the
-- later one isn't empty.
abbrev pub IsValueOfJoined : Type 0
IsValueOfJoined =
    (raw other : List ℕ) → IsTrue (has_bytes (value other))
    → value (byte " " ∷ (value raw ++ (codes ", " ++ value other)))
    ≡ value raw ++ (codes ", " ++ value other)

-- ---- lists of field lines

-- Another line with the name and the value of a line stands for it, for each name.
abbrev pub TakesLineForOther : Type 0
TakesLineForOther =
    (before after : List FieldLine) (line other : FieldLine) (name : List ℕ)
    → name_of other ≡ name_of line → value other.raw ≡ value line.raw
    → HasSameValues (before ++ line ∷ after) (before ++ other ∷ after) name

-- A line changes nothing of a name that it doesn't have.
abbrev pub KeepsOtherNamesAround : Type 0
KeepsOtherNamesAround =
    (before after : List FieldLine) (line : FieldLine) (name : List ℕ)
    → IsFalse (has_name name line)
    → HasSameValues (before ++ after) (before ++ line ∷ after) name

-- A line that passes lines of other names changes nothing of any name.
abbrev pub ForgetsOrderOfNames : Type 0
ForgetsOrderOfNames =
    (before passed after : List FieldLine) (line : FieldLine) (name : List ℕ)
    → IsFalse (is_there passed (name_of line))
    → HasSameValues (before ++ line ∷ (passed ++ after)) (before ++ (passed ++ line ∷ after)) name

-- A line whose value is those of two lines of its name, with a comma and a space between them,
-- stands for both, where no line between has the name.
abbrev pub TakesLineForTwo : Type 0
TakesLineForTwo =
    (before between after : List FieldLine) (line one other : FieldLine)
    → name_of one ≡ name_of line → name_of other ≡ name_of line
    → IsFalse (is_there between (name_of line))
    → value line.raw ≡ value one.raw ++ (codes ", " ++ value other.raw)
    → (name : List ℕ)
    → HasSameField (before ++ one ∷ (between ++ other ∷ after))
    (before ++ line ∷ (between ++ after)) name
    × (IsFalse (has_name name line)
    → HasSameValues (before ++ one ∷ (between ++ other ∷ after))
    (before ++ line ∷ (between ++ after)) name)
