-- Sections and cuts: a clean section is cut in lines, and what is cut is a clean section.
use Rattle.std.proofs.Common.{◌≡◌, ℕ, ◌≤◌, ◌==◌, Bool, true, ◌&&◌, nat_lt, inl, inr, List, [], ◌∷◌, ◌++◌, length, drop, get_or, refl, sym, ap, ◌∙◌, arith, append_assoc, length-append, codes}
use Rattle.std.specs.List.{list_all, flat_map}
use Rattle.std.proofs.lemmas.Bool.{and_parts, and_from, cases_lt, lt-ltb, false≢true}
use Rattle.std.proofs.lemmas.List.{append-nil, append_cancel_left}
use Rattle.std.proofs.lemmas.List.Folds.{list_all-append}
use Rattle.std.proofs.lemmas.Grind.{flat_map-append}
use Rattle.byte_grammar.specs.Classes.{is_blank, is_line_byte}
use Rattle.byte_grammar.specs.Language.{starts_in}
use Rattle.msg_head.specs.RawValues.{RawPieces, are_pieces, is_continuation, continuation_text}
use Rattle.msg_head.specs.Cuts.{IsCut, IsSection, cut_text, is_cut}
use Rattle.msg_head.specs.tools.Texts.{IsClean, ended}
use Rattle.msg_head.proofs.Prefixes.{outside}

-- ---- the pieces of lines

-- a piece that isn't empty, without NUL, CR and LF
abbrev pub is_full : List ℕ → Bool
is_full piece = nat_lt 0 (length piece) && list_all is_line_byte piece

-- the text of pieces, each ended, as the text of the first one and its folds
folds_ended : (folds : List (List ℕ)) → flat_map continuation_text folds ++ 13 ∷ 10 ∷ [] ≡ 13 ∷ 10 ∷ flat_map ended folds
folds_ended [] = refl
folds_ended (f ∷ fs) =
    ap (λ (s : List ℕ). 13 ∷ 10 ∷ s) (append_assoc f (flat_map continuation_text fs) (13 ∷ 10 ∷ []) ∙ ap (λ (s : List ℕ). f ++ s) (folds_ended fs) ∙ sym (append_assoc f (13 ∷ 10 ∷ []) (flat_map ended fs)))

pub cut_ended : (line : RawPieces) → cut_text line ≡ flat_map ended (line.first ∷ line.continued)
cut_ended line =
    append_assoc line.first (flat_map continuation_text line.continued) (13 ∷ 10 ∷ [])
    ∙ ap (λ (s : List ℕ). line.first ++ s) (folds_ended line.continued)
    ∙ sym (append_assoc line.first (13 ∷ 10 ∷ []) (flat_map ended line.continued))

full_fold : (f : List ℕ) → is_continuation f ≡ true → is_full f ≡ true
full_fold [] is = absurd (false≢true is)
full_fold (c ∷ cs) is = and_from (nat_lt 0 (length (c ∷ cs))) (list_all is_line_byte (c ∷ cs)) (lt-ltb 0 (length (c ∷ cs)) (omega arith)) (and_parts (starts_in is_blank (c ∷ cs)) (list_all is_line_byte (c ∷ cs)) is).1

full_folds : (fs : List (List ℕ)) → list_all is_continuation fs ≡ true → list_all is_full fs ≡ true
full_folds [] is = refl
full_folds (f ∷ fs) is =
    let both = and_parts (is_continuation f) (list_all is_continuation fs) is in
    and_from (is_full f) (list_all is_full fs) (full_fold f both.0) (full_folds fs both.1)

-- all pieces of the lines
pub record PiecesOf (lines : List RawPieces) : Type 0 where
  pub pieces : List (List ℕ)
  pub text : flat_map cut_text lines ≡ flat_map ended pieces
  pub full : list_all is_full pieces ≡ true

pub pieces_of : (lines : List RawPieces) → list_all is_cut lines ≡ true → PiecesOf lines
pieces_of [] each = record { pieces = []; text = refl; full = refl }
pieces_of (l ∷ ls) each =
    let both = and_parts (nat_lt 0 (length l.first) && are_pieces l) _ each in
    let some = and_parts (nat_lt 0 (length l.first)) (are_pieces l) both.0 in
    let are = and_parts (list_all is_line_byte l.first) (list_all is_continuation l.continued) some.1 in
    let others = pieces_of ls both.1 in
    let own = l.first ∷ l.continued in
    let own_full : list_all is_full own ≡ true = and_from (is_full l.first) (list_all is_full l.continued) (and_from (nat_lt 0 (length l.first)) (list_all is_line_byte l.first) some.0 are.0) (full_folds l.continued are.1) in
    record {
      pieces = own ++ others.pieces;
      text = (λ i. cut_ended l i ++ others.text i) ∙ sym (flat_map-append ended own others.pieces);
      full = list_all-append is_full own others.pieces ∙ and_from (list_all is_full own) (list_all is_full others.pieces) own_full others.full;
    }

-- ---- the first empty line after pieces that aren't empty

opened_ended : (p : List ℕ) (ps : List (List ℕ)) (rest : List ℕ) → flat_map ended (p ∷ ps) ++ rest ≡ p ++ 13 ∷ 10 ∷ (flat_map ended ps ++ rest)
opened_ended p ps rest =
    append_assoc (ended p) (flat_map ended ps) rest ∙ append_assoc p (13 ∷ 10 ∷ []) (flat_map ended ps ++ rest)

-- what is where a clean piece, CRLF and more are other bytes, CRLF CRLF and more
pub data Lies (p tail one other : List ℕ) : Type 0 where
  here : tail ≡ 13 ∷ 10 ∷ other → Lies p tail one other
  later : (left : List ℕ) → tail ≡ left ++ 13 ∷ 10 ∷ 13 ∷ 10 ∷ other → Lies p tail one other

lies : (p tail one other : List ℕ) → list_all is_line_byte p ≡ true → p ++ 13 ∷ 10 ∷ tail ≡ one ++ 13 ∷ 10 ∷ 13 ∷ 10 ∷ other → Lies p tail one other
lies [] tail [] other is e = here (append_cancel_left (13 ∷ 10 ∷ []) tail (13 ∷ 10 ∷ other) e)
lies [] tail (c ∷ []) other is e = absurd (false≢true (ap (λ (s : List ℕ). get_or s 1 0 == 13) e))
lies [] tail (c ∷ d ∷ one) other is e = later one (ap (drop {A = ℕ} 2) e)
lies (x ∷ xs) tail [] other is e =
    let same : x ≡ 13 = ap (λ (s : List ℕ). get_or s 0 0) e in
    absurd (outside is_line_byte x 13 (and_parts (is_line_byte x) (list_all is_line_byte xs) is).0 refl same)
lies (x ∷ xs) tail (c ∷ one) other is e =
    let rest : xs ++ 13 ∷ 10 ∷ tail ≡ one ++ 13 ∷ 10 ∷ 13 ∷ 10 ∷ other = ap (drop {A = ℕ} 1) e in
    elim (lies xs tail one other (and_parts (is_line_byte x) (list_all is_line_byte xs) is).1 rest) [
      | here h ↦ here h
      | later left h ↦ later left h
    ]

full_no_cr : (p rest other : List ℕ) → is_full p ≡ true → p ++ rest ≡ 13 ∷ other → ⊥
full_no_cr [] rest other full e = false≢true full
full_no_cr (c ∷ cs) rest other full e =
    let same : c ≡ 13 = ap (λ (s : List ℕ). get_or s 0 0) e in
    let clean = (and_parts (nat_lt 0 (length (c ∷ cs))) (list_all is_line_byte (c ∷ cs)) full).1 in
    outside is_line_byte c 13 (and_parts (is_line_byte c) (list_all is_line_byte cs) clean).0 refl same

end_first : (p : List ℕ) (ps : List (List ℕ)) (one other : List ℕ) → list_all is_line_byte p ≡ true → list_all is_full ps ≡ true → p ++ 13 ∷ 10 ∷ (flat_map ended ps ++ 13 ∷ 10 ∷ []) ≡ one ++ 13 ∷ 10 ∷ 13 ∷ 10 ∷ other → other ≡ []
end_first p [] one other clean full e = elim (lies p (13 ∷ 10 ∷ []) one other clean e) [
  | here h ↦ sym (append_cancel_left (13 ∷ 10 ∷ []) [] other h)
  | later left h ↦ absurd (omega (arith, ap (length {A = ℕ}) h, length-append left (13 ∷ 10 ∷ 13 ∷ 10 ∷ other)))
]
end_first p (q ∷ qs) one other clean full e =
    let both = and_parts (is_full q) (list_all is_full qs) full in
    let q_clean = (and_parts (nat_lt 0 (length q)) (list_all is_line_byte q) both.0).1 in
    let opened = opened_ended q qs (13 ∷ 10 ∷ []) in
    elim (lies p (flat_map ended (q ∷ qs) ++ 13 ∷ 10 ∷ []) one other clean e) [
      | here h ↦ absurd (full_no_cr q (13 ∷ 10 ∷ (flat_map ended qs ++ 13 ∷ 10 ∷ [])) (10 ∷ other) both.0 (sym opened ∙ h))
      | later left h ↦ end_first q qs left other q_clean both.1 (sym opened ∙ h)
    ]

-- ended pieces end with CRLF
pub record EndsLine (text : List ℕ) : Type 0 where
  pub before : List ℕ
  pub is : text ≡ before ++ 13 ∷ 10 ∷ []

pub ended_ends : (p : List ℕ) (ps : List (List ℕ)) → EndsLine (flat_map ended (p ∷ ps))
ended_ends p [] = record { before = p; is = append-nil (ended p) }
ended_ends p (q ∷ qs) =
    let others = ended_ends q qs in
    record { before = ended p ++ others.before; is = ap (λ (x : List ℕ). ended p ++ x) others.is ∙ sym (append_assoc (ended p) others.before (13 ∷ 10 ∷ [])) }

-- ---- what is cut is a clean section

pub record CutSection (start : List ℕ) (lines : List RawPieces) (bytes : List ℕ) (cut : IsCut start lines bytes) : Type 0 where
  pub section : List ℕ
  pub is : IsSection bytes section
  pub clean : IsClean section
  pub joined : bytes ≡ section ++ cut.more

full_clean : (ps : List (List ℕ)) → list_all is_full ps ≡ true → list_all (list_all is_line_byte) ps ≡ true
full_clean [] full = refl
full_clean (p ∷ ps) full =
    let both = and_parts (is_full p) (list_all is_full ps) full in
    and_from (list_all is_line_byte p) (list_all (list_all is_line_byte) ps) (and_parts (nat_lt 0 (length p)) (list_all is_line_byte p) both.0).1 (full_clean ps both.1)

pub cut_section : (start : List ℕ) (lines : List RawPieces) (bytes : List ℕ) (cut : IsCut start lines bytes) → CutSection start lines bytes cut
cut_section start lines bytes cut =
    let ps = pieces_of lines cut.lines_are.each in
    let own = start ∷ ps.pieces in
    let section = flat_map ended own ++ 13 ∷ 10 ∷ [] in
    let ends = ended_ends start ps.pieces in
    let opened = opened_ended start ps.pieces (13 ∷ 10 ∷ []) in
    let rest_is : flat_map ended ps.pieces ++ 13 ∷ 10 ∷ [] ≡ cut.section = ap (λ (x : List ℕ). x ++ 13 ∷ 10 ∷ []) (sym ps.text) ∙ sym cut.lines_are.joined in
    let joined : bytes ≡ section ++ cut.more =
    cut.joined
    ∙ ap (λ (x : List ℕ). start ++ 13 ∷ 10 ∷ (x ++ cut.more)) (sym rest_is)
    ∙ sym (append_assoc start (13 ∷ 10 ∷ (flat_map ended ps.pieces ++ 13 ∷ 10 ∷ [])) cut.more)
    ∙ ap (λ (x : List ℕ). x ++ cut.more) (sym opened) in
    let clean_own = and_from (list_all is_line_byte start) (list_all (list_all is_line_byte) ps.pieces) cut.clean (full_clean ps.pieces ps.full) in
    record {
      section = section;
      is = record {
        more = cut.more;
        joined = joined;
        before = ends.before;
        ends = ap (λ (x : List ℕ). x ++ 13 ∷ 10 ∷ []) ends.is ∙ append_assoc ends.before (13 ∷ 10 ∷ []) (13 ∷ 10 ∷ []);
        first = λ one other e. end_first start ps.pieces one other cut.clean ps.full (sym opened ∙ e);
      };
      clean = record {
        pieces = own ++ [] ∷ [];
        each = list_all-append (list_all is_line_byte) own ([] ∷ []) ∙ and_from _ _ clean_own refl;
        joined = sym (flat_map-append ended own ([] ∷ []));
      };
      joined = joined;
    }

-- ---- bytes have one section

prefix_of_other : (s t more rest : List ℕ) → s ++ more ≡ t ++ rest → length s ≤ length t → (x : List ℕ) × (t ≡ s ++ x)
prefix_of_other [] t more rest e low = (t, refl)
prefix_of_other (c ∷ s) [] more rest e low = absurd (omega (arith, low))
prefix_of_other (c ∷ s) (d ∷ t) more rest e low =
    let first : d ≡ c = ap (λ (s : List ℕ). get_or s 0 0) (sym e) in
    let left : s ++ more ≡ t ++ rest = ap (drop {A = ℕ} 1) e in
    let others = prefix_of_other s t more rest left (omega (arith, low)) in
    (others.0, λ i. first i ∷ others.1 i)

shorter_same : (bytes s t : List ℕ) → IsSection bytes s → IsSection bytes t → length s ≤ length t → s ≡ t
shorter_same bytes s t a b low =
    let wider = prefix_of_other s t a.more b.more (sym a.joined ∙ b.joined) low in
    let none = b.first a.before wider.0 (wider.1 ∙ ap (λ (x : List ℕ). x ++ wider.0) a.ends ∙ append_assoc a.before (codes "\r\n\r\n") wider.0) in
    sym (wider.1 ∙ ap (λ (x : List ℕ). s ++ x) none ∙ append-nil s)

pub one_section : (bytes s t : List ℕ) → IsSection bytes s → IsSection bytes t → s ≡ t
one_section bytes s t a b = elim (cases_lt (length t) (length s)) [
  | inl low ↦ sym (shorter_same bytes t s b a (omega (arith, low)))
  | inr high ↦ shorter_same bytes s t a b (omega (arith, high))
]
