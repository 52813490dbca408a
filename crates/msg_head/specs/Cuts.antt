-- Where a head ends, and its lines as they are cut, right or wrong: RFC 9112 sections 2.1, 2.2 and
-- 5.2, and of NUL RFC 9110 section 5.5. The lines of a trailer section are cut in the same way.
use Rattle.std.specs.Prelude.{◌≡◌, ◌≢◌, ◌⊎◌, ℕ, ◌<◌, IsTrue, ◌&&◌, not, nat_lt, Bool, List, [], ◌∷◌, ◌++◌, length, drop, codes}
use Rattle.std.specs.List.{list_all, flat_map}
use Rattle.std.specs.Str.{byte}
use Rattle.byte_grammar.specs.Classes.{is_blank, is_line_byte}
use Rattle.byte_grammar.specs.Language.{starts_in}
use Rattle.msg_head.specs.RawValues.{RawPieces, are_pieces, pieces_text}
use Rattle.msg_head.specs.Lines.{FieldLine, IsLine, line_text}
use Rattle.msg_head.specs.Starts.{StartLine, IsStartLine, start_text}

-- ---- where a head ends

-- CRLF CRLF is nowhere in the bytes
abbrev pub HasNoEnd : List ℕ → Type 0
HasNoEnd bytes = (before after : List ℕ) → bytes ≢ before ++ (codes "\r\n\r\n" ++ after)

-- the bytes up to and with the first CRLF CRLF
pub record IsSection (bytes section : List ℕ) : Type 0 where
  pub more : List ℕ
  pub joined : bytes ≡ section ++ more
  pub before : List ℕ
  pub ends : section ≡ before ++ codes "\r\n\r\n"
  pub first : (one other : List ℕ) → section ≡ one ++ (codes "\r\n\r\n" ++ other) → other ≡ []

-- ---- ends that are none

-- between these bytes NUL, a CR that no LF follows, or an LF that no CR precedes
abbrev pub IsNaked : List ℕ → ℕ → List ℕ → Type 0
IsNaked before c after =
    (c ≡ byte "\0")
    ⊎ ((c ≡ byte "\r") × ((more : List ℕ) → after ≢ byte "\n" ∷ more))
    ⊎ ((c ≡ byte "\n") × ((less : List ℕ) → before ≢ less ++ byte "\r" ∷ []))

-- a naked end is in the text at the offset
pub record IsNakedEnd (text : List ℕ) (offset : ℕ) : Type 0 where
  pub before : List ℕ
  pub c : ℕ
  pub after : List ℕ
  pub joined : text ≡ before ++ c ∷ after
  pub naked : IsNaked before c after
  pub stands : offset ≡ length before

-- the naked end at the offset is the first one of the text
pub record IsFirstNakedEnd (text : List ℕ) (offset : ℕ) : Type 0 where
  pub is : IsNakedEnd text offset
  pub none_before : (other : ℕ) → other < offset → ¬ IsNakedEnd text other

-- ---- lines as they are cut

-- the line's pieces, and its end
abbrev pub cut_text : RawPieces → List ℕ
cut_text line = pieces_text line ++ codes "\r\n"

-- a line isn't empty, and has no end in it but those of its folds
abbrev pub is_cut : RawPieces → Bool
is_cut line = nat_lt 0 (length line.first) && are_pieces line

-- neither SP nor HTAB begins the line
abbrev pub begins_anew : RawPieces → Bool
begins_anew line = not (starts_in is_blank line.first)

-- The section is the lines and an empty line. Each ends at the first CRLF that neither SP nor HTAB
-- follows, so only the first line may begin with one of these.
pub record AreLinesOf (section : List ℕ) (lines : List RawPieces) : Type 0 where
  pub joined : section ≡ flat_map cut_text lines ++ codes "\r\n"
  pub each : IsTrue (list_all is_cut lines)
  pub ends : IsTrue (list_all begins_anew (drop 1 lines))

-- The bytes begin with a line that ends at the first CRLF, further lines, and an empty line. No
-- NUL, CR or LF is elsewhere in them.
pub record IsCut (start : List ℕ) (lines : List RawPieces) (bytes : List ℕ) : Type 0 where
  pub section : List ℕ
  pub more : List ℕ
  pub clean : IsTrue (list_all is_line_byte start)
  pub joined : bytes ≡ start ++ (codes "\r\n" ++ (section ++ more))
  pub lines_are : AreLinesOf section lines

-- ---- lines that are judged

-- the line as it is cut is this field line
pub record MakesLine (cut : RawPieces) (line : FieldLine) : Type 0 where
  pub is : IsLine line
  pub text : cut_text cut ≡ line_text line

-- the line as it is cut is no field line
abbrev pub MakesNoLine : RawPieces → Type 0
MakesNoLine cut = (line : FieldLine) → ¬ MakesLine cut line

-- the text, and CRLF, is no start line
abbrev pub MakesNoStart : List ℕ → Type 0
MakesNoStart text = (line : StartLine) → IsStartLine line → text ++ codes "\r\n" ≢ start_text line
