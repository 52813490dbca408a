-- Which rewritings of field lines a signature permits, since they keep what it rests on: a row for
-- each kind. A row that asks something of a line holds only where that line is there.
use Rattle.std.specs.Prelude.{⊤, ℕ, IsTrue, IsFalse, IsSomeAnd, List, [], ◌∷◌, slice_get, codes}
use Rattle.std.specs.Str.{str_to_ascii_lowercase}
use Rattle.msg_head.specs.declared.error.Side.{Side}
use Rattle.msg_head.specs.Lines.{FieldLine}
use Rattle.msg_head.specs.Values.{has_bytes, value}
use Rattle.msg_body.specs.Views.{lines_on}
use Rattle.msg_body.specs.SameFields.{name_of}
use Rattle.component_ids.specs.Table.{is_listed}
use Rattle.component_ids.specs.declared.params.SigParams.{SigParams}
use Rattle.component_values.specs.Context.{MessageContext}
use Rattle.signatures.specs.Signatures.{input_name, signature_name}
use Rattle.rewrite_script.specs.declared.rewrite.LineRewrite.{LineRewrite}
use Rattle.rewrite_script.specs.declared.rewrite.LineRewrite.TheVariants.{Pad, Fold, Unfold, Join, Split, Move, Case, Add, Remove}
use Rattle.line_rewrites.specs.Covered.{covers_field, covers_lines}
use Rattle.line_rewrites.specs.RawValues.{IsLoneSpace, IsBeforeLoneSpace}
use Rattle.line_rewrites.specs.LineLists.{PassesOtherNames}

-- ---- names

-- the fields that frame (RFC 9112 section 6)
abbrev pub framing_names : List (List ℕ)
framing_names = codes "content-length" ∷ codes "transfer-encoding" ∷ []

-- the fields of which the number of lines counts, whatever is covered: `Host` and those that frame
abbrev pub counted_names : List (List ℕ)
counted_names = codes "host" ∷ framing_names

-- these, and the fields of signatures
abbrev pub kept_names : List (List ℕ)
kept_names = signature_name ∷ input_name ∷ counted_names

-- ---- what rows ask

-- it holds of the line of the index on the side, which is there
abbrev pub OfLine : MessageContext → Side → ℕ → (FieldLine → Type 0) → Type 0
OfLine context side index Holds = IsSomeAnd (slice_get (lines_on side context.message) index) Holds

-- lines of the name may be joined and split: their number doesn't count, neither by itself nor by a
-- component that is the field line by line
pub record MayChangeNumber (side : Side) (name : List ℕ) (params : SigParams) : Type 0 where
  pub counted : IsFalse (is_listed counted_names name)
  pub covered : IsFalse (covers_lines side name params)

-- lines of the name may come and go: it isn't covered, and the message doesn't rest on it
pub record MayChangeValue (side : Side) (name : List ℕ) (params : SigParams) : Type 0 where
  pub kept : IsFalse (is_listed kept_names name)
  pub covered : IsFalse (covers_field side name params)

-- the line has a value, and not the empty one
abbrev pub HasValue : FieldLine → Type 0
HasValue line = IsTrue (has_bytes (value line.raw))

-- ---- kinds

-- the label's signature with these parameters permits the step
abbrev pub PermitsLines : MessageContext → LineRewrite → List ℕ → SigParams → Type 0
PermitsLines context (Pad side index before after) label params = ⊤
PermitsLines context (Fold side index offset blanks) label params =
    OfLine context side index (λ line. IsLoneSpace offset line.raw)
PermitsLines context (Unfold side index offset) label params = ⊤
PermitsLines context (Join side index later) label params =
    OfLine context side index (λ line. MayChangeNumber side (name_of line) params)
    × OfLine context side later HasValue
PermitsLines context (Split side index offset) label params =
    OfLine context side index (λ line. MayChangeNumber side (name_of line) params
    × IsBeforeLoneSpace offset line.raw)
PermitsLines context (Move side index to) label params =
    PassesOtherNames index to (lines_on side context.message)
PermitsLines context (Case side index name) label params = ⊤
PermitsLines context (Add side index name text) label params =
    MayChangeValue side (str_to_ascii_lowercase name) params
PermitsLines context (Remove side index) label params =
    OfLine context side index (λ line. MayChangeValue side (name_of line) params)
