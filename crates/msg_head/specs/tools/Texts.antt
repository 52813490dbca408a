-- Texts in pieces, each ended by CRLF. No public clause cites this module.
use Rattle.std.specs.Prelude.{◌≡◌, ℕ, ◌<◌, IsTrue, IsFalse, ◌++◌, List, [], ◌∷◌, length, codes}
use Rattle.std.specs.List.{list_all, flat_map}
use Rattle.std.specs.Str.{byte}
use Rattle.byte_grammar.specs.Classes.{is_blank, is_line_byte}
use Rattle.byte_grammar.specs.Language.{starts_in}
use Rattle.msg_head.specs.RawValues.{RawPieces, are_pieces, pieces_text}

abbrev pub EndsWithLf : List ℕ → Type 0
EndsWithLf text = (before : List ℕ) × (text ≡ before ++ byte "\n" ∷ [])

abbrev pub BeginsWithCrlf : List ℕ → Type 0
BeginsWithCrlf bytes = (rest : List ℕ) × (bytes ≡ codes "\r\n" ++ rest)

-- the piece, and CRLF
abbrev pub ended : List ℕ → List ℕ
ended piece = piece ++ codes "\r\n"

-- the text is pieces without NUL, CR or LF, each of them ended, and what is left
pub record IsCleanUpTo (text left : List ℕ) : Type 0 where
  pub pieces : List (List ℕ)
  pub each : IsTrue (list_all (list_all is_line_byte) pieces)
  pub joined : text ≡ flat_map ended pieces ++ left

-- the text is that up to a CRLF
abbrev pub IsCleanUpToCrlf : List ℕ → Type 0
IsCleanUpToCrlf text = (left : List ℕ) × IsCleanUpTo text left × BeginsWithCrlf left

-- pieces without NUL, CR or LF, each of them ended
pub record IsClean (text : List ℕ) : Type 0 where
  pub pieces : List (List ℕ)
  pub each : IsTrue (list_all (list_all is_line_byte) pieces)
  pub joined : text ≡ flat_map ended pieces

-- the bytes are these pieces, a CRLF that no blank follows, and more
pub record BeginsWithPieces (pieces : RawPieces) (more bytes : List ℕ) : Type 0 where
  pub are : IsTrue (are_pieces pieces)
  pub ends : IsFalse (starts_in is_blank more)
  pub joined : bytes ≡ pieces_text pieces ++ (codes "\r\n" ++ more)

-- the same of a line as it is cut, which isn't empty
pub record BeginsWithCut (cut : RawPieces) (more bytes : List ℕ) : Type 0 where
  pub begins : BeginsWithPieces cut more bytes
  pub some : 0 < length cut.first
