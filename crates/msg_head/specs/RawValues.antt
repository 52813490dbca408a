-- Raw values of field lines, folds and all: RFC 9110 section 5.5, RFC 9112 section 5.2. RFC 9110
-- has VCHAR, SP, HTAB and obs-text in them. Other control bytes are kept too.
use Rattle.std.specs.Prelude.{◌≡◌, ℕ, Bool, IsTrue, ◌&&◌, List, ◌++◌, codes}
use Rattle.std.specs.List.{list_all, flat_map}
use Rattle.byte_grammar.specs.Classes.{is_blank, is_line_byte}
use Rattle.byte_grammar.specs.Language.{starts_in}

-- a text in pieces: the first one, and those by which obsolete folds continue it
pub record RawPieces : Type 0 where
  pub first : List ℕ
  pub continued : List (List ℕ)

-- what comes after the CRLF of a fold, which begins with SP or HTAB
abbrev pub is_continuation : List ℕ → Bool
is_continuation piece = starts_in is_blank piece && list_all is_line_byte piece

-- the first piece has no end of a line in it, and each further one continues it after a fold
abbrev pub are_pieces : RawPieces → Bool
are_pieces pieces = list_all is_line_byte pieces.first && list_all is_continuation pieces.continued

-- CRLF, and the piece
abbrev pub continuation_text : List ℕ → List ℕ
continuation_text piece = codes "\r\n" ++ piece

-- the pieces joined by CRLF
abbrev pub pieces_text : RawPieces → List ℕ
pieces_text pieces = pieces.first ++ flat_map continuation_text pieces.continued

-- the text is made of pieces, each after the first begun by SP or HTAB, which CRLF joins
abbrev pub IsRaw : List ℕ → Type 0
IsRaw raw = (pieces : RawPieces) × IsTrue (are_pieces pieces) × (raw ≡ pieces_text pieces)
