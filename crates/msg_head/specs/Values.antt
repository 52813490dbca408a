-- The value of a field (RFC 9421 section 2.1), obsolete folds and all (RFC 9112 section 5.2).
use Rattle.std.specs.Prelude.{◌≡◌, ⊤, ℕ, Bool, IsTrue, IsFalse, ◌||◌, ◌==◌, nat_lt, List, [], ◌∷◌, ◌++◌, if◌then◌else◌, length, map, filter, reverse, codes}
use Rattle.std.specs.List.{join_by, list_all, list_any, slice_split}
use Rattle.std.specs.Str.{byte}
use Rattle.byte_grammar.specs.Classes.{is_blank}
use Rattle.byte_grammar.specs.Language.{starts_in}
use Rattle.msg_head.specs.RawValues.{RawPieces, are_pieces, pieces_text}
use Rattle.msg_head.specs.Lines.{FieldLine}
use Rattle.msg_head.specs.Names.{has_name}

-- ---- the value of a line

-- the piece is blanks, the text, and blanks, and the text has no blank at either end
pub record IsTrimmed (piece text : List ℕ) : Type 0 where
  pub before : List ℕ
  pub after : List ℕ
  pub joined : piece ≡ before ++ (text ++ after)
  pub blanks_before : IsTrue (list_all is_blank before)
  pub blanks_after : IsTrue (list_all is_blank after)
  pub first : IsFalse (starts_in is_blank text)
  pub last : IsFalse (starts_in is_blank (reverse text))

-- these are the texts of the pieces, one for each
abbrev pub AreTrimmed : List (List ℕ) → List (List ℕ) → Type 0
AreTrimmed [] [] = ⊤
AreTrimmed (piece ∷ pieces) (text ∷ texts) = IsTrimmed piece text × AreTrimmed pieces texts
AreTrimmed [] (text ∷ texts) = ⊥
AreTrimmed (piece ∷ pieces) [] = ⊥

-- the text isn't empty
abbrev pub has_bytes : List ℕ → Bool
has_bytes text = nat_lt 0 (length text)

-- The raw value is pieces joined by CRLF, and the value is their texts, those that are not empty,
-- joined by SP. So the blanks at both ends of the raw value go, and each fold becomes one SP, with
-- the blanks around it and the folds that only blanks part from it. RFC 9421 section 2.1 literally
-- trims the ends first and replaces each fold by a SP of its own.
pub record IsLineValue (raw text : List ℕ) : Type 0 where
  pub pieces : RawPieces
  pub are : IsTrue (are_pieces pieces)
  pub joined : raw ≡ pieces_text pieces
  pub texts : List (List ℕ)
  pub texts_are : AreTrimmed (pieces.first ∷ pieces.continued) texts
  pub value_is : text ≡ join_by (λ t. t) (codes " ") (filter has_bytes texts)

-- ---- the function that computes it, as the law RawHasOneValue says

-- CR or LF; in a raw value they are there as the CRLF of a fold alone
abbrev pub is_end : ℕ → Bool
is_end c = (c == byte "\r") || (c == byte "\n")

-- the text from its first byte that is no blank on
abbrev pub without_first_blanks : List ℕ → List ℕ
without_first_blanks [] = []
without_first_blanks (c ∷ rest) = if is_blank c then without_first_blanks rest else c ∷ rest

-- the text without the blanks at its ends
abbrev pub without_blanks : List ℕ → List ℕ
without_blanks text = reverse (without_first_blanks (reverse (without_first_blanks text)))

-- what is between folds, without the blanks around these, where it is more than blanks
abbrev pub texts_of : List ℕ → List (List ℕ)
texts_of raw = filter has_bytes (map without_blanks (slice_split is_end raw))

-- the value of a raw value
abbrev pub value : List ℕ → List ℕ
value raw = join_by (λ text. text) (codes " ") (texts_of raw)

-- ---- the values of a name's lines

-- the values of the field lines of that name, in order
abbrev pub values : List FieldLine → List ℕ → List (List ℕ)
values lines name = map (λ line. value line.raw) (filter (has_name name) lines)

-- the values of these lines
abbrev pub line_values : List FieldLine → List (List ℕ)
line_values lines = map (λ line. value line.raw) lines

-- the values of these lines joined by a comma and a space
abbrev pub joined_value : List FieldLine → List ℕ
joined_value lines = join_by (λ text. text) (codes ", ") (line_values lines)

-- the combined value: the values joined by a comma and a space
abbrev pub combined_value : List FieldLine → List ℕ → List ℕ
combined_value lines name = join_by (λ text. text) (codes ", ") (values lines name)

-- some field line has the name
abbrev pub is_there : List FieldLine → List ℕ → Bool
is_there lines name = list_any (has_name name) lines
