-- Texts that are split at the first CRLF that no blank follows.
use Rattle.std.proofs.Common.{◌≡◌, ◌==◌, ◌||◌, inl, inr, ℕ, ◌+◌, ◌-◌, ◌≤◌, true, false, List, [], ◌∷◌, ◌++◌, length, take, drop, Option, Some, refl, sym, ap, ◌∙◌, arith, length-append, codes}
use Rattle.std.specs.List.{list_all}
use Rattle.std.proofs.Math.Seq.{take-append_seam, drop-append_seam}
use Rattle.std.proofs.lemmas.Bool.{and_parts, and_from, or_cases, eqb-true, false≢true}
use Rattle.std.proofs.lemmas.List.{append_cancel_left}
use Rattle.byte_grammar.specs.Classes.{is_blank, is_line_byte}
use Rattle.byte_grammar.specs.Language.{starts_in}
use Rattle.memchr.specs.Find.{IsFirstByte, is_byte3}
use Rattle.msg_head.specs.RawValues.{RawPieces, is_continuation, pieces_text}
use Rattle.msg_head.specs.tools.Prefixes.{StandsBefore}
use Rattle.msg_head.specs.tools.Texts.{BeginsWithPieces, IsCleanUpTo}
use Rattle.msg_head.proofs.Prefixes.{first_end, outside}
use Rattle.msg_head.proofs.PieceLaws.{after_first, opened_pieces, fold_starts}

-- where the text begins with pieces, what is left of it still does, with the same after them
pub record GoesOn (text left : List ℕ) : Type 0 where
  pub within : length left ≤ length text
  pub clean : IsCleanUpTo text left
  pub still : (pieces : RawPieces) (more : List ℕ) → BeginsWithPieces pieces more text → (others : RawPieces) × BeginsWithPieces others more left

first_stands : (pieces : RawPieces) (more left : List ℕ) → BeginsWithPieces pieces more left → StandsBefore is_line_byte (13 ∷ []) pieces.first (10 ∷ after_first pieces.continued more) left
first_stands pieces more left b = record { each = (and_parts _ _ b.are).0; joined = b.joined ∙ opened_pieces pieces more }

apart_from_ends : (c : ℕ) → is_line_byte c ≡ true → is_byte3 0 13 10 c ≡ true → ⊥
apart_from_ends c is end = elim (or_cases ((c == 0) || (c == 13)) (c == 10) end) [
  | inl other ↦ elim (or_cases (c == 0) (c == 13) other) [
    | inl e ↦ outside is_line_byte c 0 is refl (eqb-true c 0 e)
    | inr e ↦ outside is_line_byte c 13 is refl (eqb-true c 13 e)
  ]
  | inr e ↦ outside is_line_byte c 10 is refl (eqb-true c 10 e)
]

-- the search for the first NUL, CR or LF finds the end of the first piece
pub cr_found : (pieces : RawPieces) (more left : List ℕ) (found : Option ℕ) → BeginsWithPieces pieces more left → IsFirstByte (is_byte3 0 13 10) left found → found ≡ Some (length pieces.first)
cr_found pieces more left found b h = first_end is_line_byte (is_byte3 0 13 10) 13 pieces.first (10 ∷ after_first pieces.continued more) left found refl apart_from_ends (first_stands pieces more left b) h

-- what is there
pub at_cr : (pieces : RawPieces) (more left : List ℕ) (n : ℕ) → BeginsWithPieces pieces more left → n ≡ length pieces.first → drop n left ≡ 13 ∷ 10 ∷ after_first pieces.continued more
at_cr pieces more left n b same =
    ap (λ k. drop k left) same ∙ ap (λ (s : List ℕ). drop (length pieces.first) s) (b.joined ∙ opened_pieces pieces more) ∙ drop-append_seam pieces.first (13 ∷ 10 ∷ after_first pieces.continued more)

pub after_is : (pieces : RawPieces) (more left after : List ℕ) (n : ℕ) → BeginsWithPieces pieces more left → n ≡ length pieces.first → drop n left ≡ codes "\r\n" ++ after → after ≡ after_first pieces.continued more
after_is pieces more left after n b same there = append_cancel_left (13 ∷ 10 ∷ []) _ _ (sym there ∙ at_cr pieces more left n b same)

-- no blank is first after the last piece
pub last_piece : (folds : List (List ℕ)) (more : List ℕ) → list_all is_continuation folds ≡ true → starts_in is_blank (after_first folds more) ≡ false → after_first folds more ≡ more
last_piece [] more each none = refl
last_piece (f ∷ fs) more each none = absurd (false≢true (sym none ∙ fold_starts f (13 ∷ 10 ∷ after_first fs more) (and_parts _ _ each).0))

-- and one does after another
pub next_piece : (folds : List (List ℕ)) (more : List ℕ) → list_all is_continuation folds ≡ true → starts_in is_blank more ≡ false → starts_in is_blank (after_first folds more) ≡ true → (others : RawPieces) × BeginsWithPieces others more (after_first folds more)
next_piece [] more each ends some = absurd (false≢true (sym ends ∙ some))
next_piece (f ∷ fs) more each ends some =
    let all = and_parts (is_continuation f) (list_all is_continuation fs) each in
    let fold = and_parts (starts_in is_blank f) (list_all is_line_byte f) all.0 in
    let others : RawPieces = record { first = f; continued = fs } in
    (others, record { are = and_from (list_all is_line_byte f) (list_all is_continuation fs) fold.1 all.1; ends = ends; joined = sym (opened_pieces others more) })

-- the pieces are what is before the end
pub pieces_are : (pieces : RawPieces) (more text after : List ℕ) → BeginsWithPieces pieces more text → after ≡ more → take (length text - (length after + 2)) text ≡ pieces_text pieces
pieces_are pieces more text after b same =
    let size : length text - (length after + 2) ≡ length (pieces_text pieces) =
    omega (arith, ap (length {A = ℕ}) b.joined, length-append (pieces_text pieces) (13 ∷ 10 ∷ more), ap (length {A = ℕ}) same) in
    ap (λ k. take k text) size ∙ ap (λ (s : List ℕ). take (length (pieces_text pieces)) s) b.joined ∙ take-append_seam (pieces_text pieces) (13 ∷ 10 ∷ more)
