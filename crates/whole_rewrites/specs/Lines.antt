-- What a rewriting of a whole message makes of the field lines of a side, by their name.
use Rattle.std.specs.Prelude.{◌≡◌, ℕ, not, Option, IsFalse, Ok, List, [], ◌∷◌, ◌++◌, filter, codes}
use Rattle.std.specs.Str.{byte}
use Rattle.msg_head.specs.Lines.{FieldLine}
pub use Rattle.msg_head.specs.Lines.{member_line}
use Rattle.msg_head.specs.Names.{has_name}
use Rattle.msg_head.specs.Values.{combined_value, is_there}
use Rattle.msg_body.specs.SameFields.{name_of}
use Rattle.component_ids.specs.declared.types.FieldKind.{FieldKind}
use Rattle.component_values.specs.Values.{KindRow}
use Rattle.line_rewrites.specs.LineLists.{line_of}

-- ---- the one line of a name

-- the line of the name, which is the only one, becomes another
pub record ReplacesOnly (Becomes : FieldLine → FieldLine → Type 0) (name : List ℕ)
    (lines replaced : List FieldLine) : Type 0 where
  pub before : List FieldLine
  pub line : FieldLine
  pub other : FieldLine
  pub after : List FieldLine
  pub lines_are : lines ≡ before ++ line ∷ after
  pub named : name_of line ≡ name
  pub none_before : IsFalse (is_there before name)
  pub none_after : IsFalse (is_there after name)
  pub becomes : Becomes line other
  pub replaced_are : replaced ≡ before ++ other ∷ after

-- the line of the one name becomes this line
abbrev pub IsLineFor : List ℕ → FieldLine → List FieldLine → List FieldLine → Type 0
IsLineFor name new lines replaced = ReplacesOnly (λ line other. other ≡ new) name lines replaced

-- `host`: the text becomes that of the line `Host`, whose name stays
abbrev pub IsOtherHost : List ℕ → List FieldLine → List FieldLine → Type 0
IsOtherHost text lines replaced =
    ReplacesOnly (λ line other. other ≡ line_of line.name text) (codes "host") lines replaced

-- ---- lines at the end

-- the label's signature: its parameters, and the base64 of its tag (RFC 9421 sections 4.1 and 4.2)
abbrev pub label_lines : List ℕ → List ℕ → List ℕ → List FieldLine
label_lines added tag params = member_line (codes "Signature-Input") added params
    ∷ member_line (codes "Signature") added (byte ":" ∷ (tag ++ codes ":")) ∷ []

-- `add-label`: the lines of the signature come at the end
abbrev pub IsLabelled : List ℕ → List ℕ → List ℕ → List FieldLine → List FieldLine → Type 0
IsLabelled added tag params lines longer = longer ≡ lines ++ label_lines added tag params

-- ---- all lines of a name

-- the first line of the name has this text, with a space before it, and the others go
pub record IsInOneLine (name text : List ℕ) (lines fewer : List FieldLine) : Type 0 where
  pub before : List FieldLine
  pub line : FieldLine
  pub after : List FieldLine
  pub lines_are : lines ≡ before ++ line ∷ after
  pub named : name_of line ≡ name
  pub none_before : IsFalse (is_there before name)
  pub fewer_are : fewer ≡ before
      ++ line_of line.name text ∷ filter (λ other. not (has_name name other)) after

-- `resf`: the lines of the name become one, the strict text of the value that they read as, by the
-- kind that the field is known to have (RFC 9651 section 4.1)
pub record IsStrict (kind : Option FieldKind) (name : List ℕ) (lines fewer : List FieldLine)
    : Type 0 where
  pub text : List ℕ
  pub reads : KindRow kind (combined_value lines name) (Ok text)
  pub one_line : IsInOneLine name text lines fewer
