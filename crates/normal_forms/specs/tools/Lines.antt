-- Clean lines, and the steps that make a line clean. No public clause cites this module.
use Rattle.std.specs.Prelude.{◌⊎◌, ℕ, Bool, ◌||◌, ◌==◌, List, [], ◌∷◌, if◌then◌else◌, map, codes}
use Rattle.std.specs.Char.{to_ascii_lowercase}
use Rattle.std.specs.List.{join_by, list_all}
use Rattle.std.specs.Str.{byte, str_to_ascii_lowercase}
use Rattle.byte_grammar.specs.Language.{starts_in}
use Rattle.msg_head.specs.declared.error.Side.{Side}
use Rattle.msg_head.specs.Lines.{FieldLine}
use Rattle.msg_head.specs.Values.{value}
use Rattle.msg_body.specs.SameFields.{name_of}
use Rattle.msg_body.specs.Spacing.{ends_in, is_spacing}
use Rattle.rewrite_script.specs.declared.rewrite.LineRewrite.{LineRewrite}
use Rattle.rewrite_script.specs.declared.rewrite.LineRewrite.TheVariants.{Case, Pad}
use Rattle.normal_forms.specs.LineSteps.{IsLowered, IsTrimmed, IsUnfoldedFirst}

-- ---- lines

-- the line of the name in lower case with the values of these raw values, joined by a comma and a
-- space
abbrev pub joined_line : List ℕ → List (List ℕ) → FieldLine
joined_line name raws = record {
  name = str_to_ascii_lowercase name;
  raw = join_by (λ text. text) (codes ", ") (map value raws);
}

-- the line, made clean
abbrev pub clean_line : FieldLine → FieldLine
clean_line line = record { name = name_of line; raw = value line.raw }

-- ---- what there is to clean

-- the byte is no letter in upper case
abbrev pub is_low : ℕ → Bool
is_low c = to_ascii_lowercase c == c

-- no letter of the name is in upper case
abbrev pub is_lowered : List ℕ → Bool
is_lowered name = list_all is_low name

-- the byte is CR
abbrev pub is_return : ℕ → Bool
is_return c = c == byte "\r"

-- spacing stands at an end of the text
abbrev pub has_outer_spacing : List ℕ → Bool
has_outer_spacing text = starts_in is_spacing text || ends_in is_spacing text

-- ---- steps

-- the step that puts the name in lower case, where it isn't
abbrev pub case_steps : Side → ℕ → List ℕ → List LineRewrite
case_steps side index name =
    if is_lowered name then [] else Case side index (str_to_ascii_lowercase name) ∷ []

-- the step that takes away the spacing at the ends of the raw value, where there is some
abbrev pub trim_steps : Side → ℕ → List ℕ → List LineRewrite
trim_steps side index raw = if has_outer_spacing raw then Pad side index [] [] ∷ [] else []

-- the line of the index, which isn't clean, becomes another
abbrev pub CleansLine : Side → ℕ → FieldLine → LineRewrite → FieldLine → Type 0
CleansLine side index line step other = IsLowered side index line step other
    ⊎ IsUnfoldedFirst side index line step other
    ⊎ IsTrimmed side index line step other
