-- Bytes are cut into lines in at most one way.
use Rattle.std.proofs.Common.{◌≡◌, ℕ, ◌<◌, Bool, true, false, not, nat_lt, List, [], ◌∷◌, ◌++◌, length, drop, refl, sym, ap, ◌∙◌, arith, append_assoc}
use Rattle.std.specs.List.{list_all, flat_map}
use Rattle.std.proofs.lemmas.Bool.{and_parts, ltb-true, false≢true}
use Rattle.std.proofs.lemmas.List.{append_cancel_left}
use Rattle.byte_grammar.specs.Classes.{is_blank, is_line_byte}
use Rattle.byte_grammar.specs.Language.{starts_in}
use Rattle.msg_head.specs.RawValues.{RawPieces, pieces_text}
use Rattle.msg_head.specs.Cuts.{AreLinesOf, IsCut, cut_text, is_cut, begins_anew}
use Rattle.msg_head.specs.tools.Texts.{BeginsWithCut}
use Rattle.msg_head.proofs.Prefixes.{outside, one_prefix}
use Rattle.msg_head.proofs.PieceLaws.{one_pieces, opened_pieces, after_first}

-- lines that are cut, apart from the text that they are
pub record AreCut (lines : List RawPieces) : Type 0 where
  pub each : list_all is_cut lines ≡ true
  pub ends : list_all begins_anew (drop 1 lines) ≡ true

-- the lines, an empty line, and more
abbrev pub lines_text : List RawPieces → List ℕ → List ℕ
lines_text lines more = flat_map cut_text lines ++ 13 ∷ 10 ∷ more

drop_one : (lines : List RawPieces) (p : RawPieces → Bool) → list_all p lines ≡ true → list_all p (drop 1 lines) ≡ true
drop_one [] p h = refl
drop_one (l ∷ ls) p h = (and_parts _ _ h).1

pub others_cut : (l : RawPieces) (ls : List RawPieces) → AreCut (l ∷ ls) → AreCut ls
others_cut l ls a = record { each = (and_parts _ _ a.each).1; ends = drop_one ls _ a.ends }

pub opened_lines : (l : RawPieces) (ls : List RawPieces) (more : List ℕ) → lines_text (l ∷ ls) more ≡ pieces_text l ++ 13 ∷ 10 ∷ lines_text ls more
opened_lines l ls more =
    append_assoc (cut_text l) (flat_map cut_text ls) (13 ∷ 10 ∷ more) ∙ append_assoc (pieces_text l) (13 ∷ 10 ∷ []) (lines_text ls more)

first_blank : (l more : List ℕ) → nat_lt 0 (length l) ≡ true → not (starts_in is_blank l) ≡ true → starts_in is_blank (l ++ more) ≡ false
first_blank [] more some is = absurd (false≢true some)
first_blank (c ∷ cs) more some is = not_is (is_blank c) is
  where
    not_is : (b : Bool) → not b ≡ true → b ≡ false
    not_is true h = sym h
    not_is false h = refl

-- no blank begins what comes after a line
more_ends : (ls : List RawPieces) (more : List ℕ) → list_all is_cut ls ≡ true → list_all begins_anew ls ≡ true → starts_in is_blank (lines_text ls more) ≡ false
more_ends [] more each ends = refl
more_ends (l ∷ ls) more each ends =
    let some = (and_parts _ _ (and_parts _ _ each).0).0 in
    ap (starts_in is_blank) (opened_lines l ls more ∙ opened_pieces l (lines_text ls more))
    ∙ first_blank l.first (13 ∷ 10 ∷ after_first l.continued (lines_text ls more)) some (and_parts _ _ ends).0

-- the first of the lines is there
pub line_first : (l : RawPieces) (ls : List RawPieces) (more text : List ℕ) → AreCut (l ∷ ls) → text ≡ lines_text (l ∷ ls) more → BeginsWithCut l (lines_text ls more) text
line_first l ls more text a e =
    let p = and_parts _ _ (and_parts _ _ a.each).0 in
    record {
      begins = record { are = p.1; ends = more_ends ls more (and_parts _ _ a.each).1 a.ends; joined = e ∙ opened_lines l ls more };
      some = ltb-true 0 (length l.first) p.0;
    }

-- a line doesn't begin with CR
pub line_no_cr : (l : RawPieces) (more rest bytes : List ℕ) → BeginsWithCut l more bytes → bytes ≡ 13 ∷ rest → ⊥
line_no_cr l more rest bytes b e = begins l.first (after_first l.continued more) b.some (and_parts _ _ b.begins.are).0 (sym (opened_pieces l more) ∙ sym b.begins.joined ∙ e)
  where
    begins : (first tail : List ℕ) → 0 < length first → list_all is_line_byte first ≡ true → first ++ 13 ∷ 10 ∷ tail ≡ 13 ∷ rest → ⊥
    begins [] tail some is e = omega (arith, some)
    begins (c ∷ cs) tail some is e =
        let same : c ≡ 13 = cc in outside is_line_byte c 13 (and_parts _ _ is).0 refl same

pub one_lines : (ls ms : List RawPieces) (more rest : List ℕ) → AreCut ls → AreCut ms → lines_text ls more ≡ lines_text ms rest → (ls ≡ ms) × (more ≡ rest)
one_lines [] [] more rest a b e = (refl, append_cancel_left (13 ∷ 10 ∷ []) more rest e)
one_lines [] (m ∷ ms) more rest a b e =
    absurd (line_no_cr m (lines_text ms rest) (10 ∷ more) (13 ∷ 10 ∷ more) (line_first m ms rest _ b e) refl)
one_lines (l ∷ ls) [] more rest a b e =
    absurd (line_no_cr l (lines_text ls more) (10 ∷ rest) (13 ∷ 10 ∷ rest) (line_first l ls more _ a (sym e)) refl)
one_lines (l ∷ ls) (m ∷ ms) more rest a b e =
    let same = one_pieces l m (lines_text ls more) (lines_text ms rest) (lines_text (l ∷ ls) more) (line_first l ls more _ a refl).begins (line_first m ms rest _ b e).begins in
    let others = one_lines ls ms more rest (others_cut l ls a) (others_cut m ms b) same.1 in
    (λ i. same.0 i ∷ others.0 i, others.1)

-- ---- lines of a section

pub are_cut : (section : List ℕ) (lines : List RawPieces) → AreLinesOf section lines → AreCut lines
are_cut section lines a = record { each = a.each; ends = a.ends }

pub others_of : (section : List ℕ) (l : RawPieces) (ls : List RawPieces) → AreLinesOf section (l ∷ ls) → AreLinesOf (lines_text ls []) ls
others_of section l ls a =
    let others = others_cut l ls (are_cut section (l ∷ ls) a) in
    record { joined = refl; each = others.each; ends = others.ends }

pub first_of_lines : (section : List ℕ) (l : RawPieces) (ls : List RawPieces) → AreLinesOf section (l ∷ ls) → BeginsWithCut l (lines_text ls []) section
first_of_lines section l ls a = line_first l ls [] section (are_cut section (l ∷ ls) a) a.joined

-- the bytes of a head as it is cut
pub cut_bytes : (start : List ℕ) (lines : List RawPieces) (bytes : List ℕ) (cut : IsCut start lines bytes) → bytes ≡ start ++ 13 ∷ 10 ∷ lines_text lines cut.more
cut_bytes start lines bytes cut =
    cut.joined ∙ ap (λ (s : List ℕ). start ++ 13 ∷ 10 ∷ s) (ap (λ (s : List ℕ). s ++ cut.more) cut.lines_are.joined ∙ append_assoc (flat_map cut_text lines) (13 ∷ 10 ∷ []) cut.more)

pub one_cut : (start other : List ℕ) (ls ms : List RawPieces) (bytes : List ℕ) → IsCut start ls bytes → IsCut other ms bytes → (start ≡ other) × (ls ≡ ms)
one_cut start other ls ms bytes a b =
    let starts = one_prefix is_line_byte 13 start other (10 ∷ lines_text ls a.more) (10 ∷ lines_text ms b.more) refl a.clean b.clean (sym (cut_bytes start ls bytes a) ∙ cut_bytes other ms bytes b) in
    let lines = one_lines ls ms a.more b.more (are_cut a.section ls a.lines_are) (are_cut b.section ms b.lines_are) (append_cancel_left (10 ∷ []) _ _ starts.1) in
    (starts.0, lines.0)
