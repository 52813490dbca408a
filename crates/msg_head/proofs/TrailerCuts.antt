-- Trailer sections as they are cut: as a head is whose first line is empty.
use Rattle.std.proofs.Common.{◌≡◌, ℕ, ◌==◌, true, List, [], ◌∷◌, ◌++◌, length, take, drop, get_or, refl, sym, subst, ap, ◌∙◌, append_assoc}
use Rattle.std.specs.List.{All, list_all, flat_map}
use Rattle.std.proofs.lemmas.Bool.{and_parts, false≢true}
use Rattle.std.proofs.lemmas.List.{append_cancel_left, append_cancel_right, take-append-drop}
use Rattle.byte_grammar.specs.Classes.{is_line_byte}
use Rattle.msg_head.specs.RawValues.{RawPieces}
use Rattle.msg_head.specs.Lines.{FieldLine, IsLine, line_text}
use Rattle.msg_head.specs.Cuts.{IsSection, AreLinesOf, IsCut}
use Rattle.msg_head.specs.Trailers.{IsTrailerSection, SpellsTrailer, trailer_text}
use Rattle.msg_head.specs.Laws.{OneTrailer, TrailerEndsAtFirstEnd}
use Rattle.msg_head.specs.tools.Texts.{EndsWithLf, IsClean, IsCleanUpToCrlf, ended}
use Rattle.msg_head.proofs.Prefixes.{outside}
use Rattle.msg_head.proofs.LineLaws.{one_cut}
use Rattle.msg_head.proofs.HeadParts.{LinesCut, lines_cut, cut_after, text_first, text_used}
use Rattle.msg_head.proofs.OneHeads.{one_lines_made}
use Rattle.msg_head.proofs.Sectioning.{cut_section, one_section}
use Rattle.msg_head.proofs.CleanTexts.{clean_whole}
use Rattle.msg_head.proofs.Grouping.{section_cut, lines_after}

-- ---- sections

-- the bytes are the section and more
pub section_first : (bytes section : List ℕ) (s : IsTrailerSection bytes section) → bytes ≡ section ++ s.more
section_first bytes section s = append_cancel_left (13 ∷ 10 ∷ []) bytes (section ++ s.more) s.joined

pub one_trailer_section : (bytes s t : List ℕ) → IsTrailerSection bytes s → IsTrailerSection bytes t → s ≡ t
one_trailer_section bytes s t a b =
    append_cancel_left (13 ∷ 10 ∷ []) s t (one_section (13 ∷ 10 ∷ bytes) (13 ∷ 10 ∷ s) (13 ∷ 10 ∷ t) a b)

pub trailer_ends_with_lf : (bytes section : List ℕ) → IsTrailerSection bytes section → EndsWithLf section
trailer_ends_with_lf bytes section s = by_before s.before s.ends
  where
    by_before : (before : List ℕ) → 13 ∷ 10 ∷ section ≡ before ++ 13 ∷ 10 ∷ 13 ∷ 10 ∷ [] → EndsWithLf section
    by_before [] e = (13 ∷ [], append_cancel_left (13 ∷ 10 ∷ []) section (13 ∷ 10 ∷ []) e)
    by_before (c ∷ []) e = absurd (false≢true (ap (λ (s : List ℕ). get_or s 1 0 == 13) e))
    by_before (c ∷ d ∷ before) e =
        let rest : section ≡ before ++ 13 ∷ 10 ∷ 13 ∷ 10 ∷ [] = ap (drop {A = ℕ} 2) e in
        (before ++ 13 ∷ 10 ∷ 13 ∷ [], rest ∙ sym (append_assoc before (13 ∷ 10 ∷ 13 ∷ []) (10 ∷ [])))

-- ---- clean sections

clean_with : (text : List ℕ) → IsClean text → IsClean (13 ∷ 10 ∷ text)
clean_with text c = record { pieces = [] ∷ c.pieces; each = c.each; joined = ap (λ (x : List ℕ). 13 ∷ 10 ∷ x) c.joined }

clean_without : (text : List ℕ) → IsClean (13 ∷ 10 ∷ text) → IsClean text
clean_without text c = by_pieces c.pieces c.each c.joined
  where
    by_pieces : (pieces : List (List ℕ)) → list_all (list_all is_line_byte) pieces ≡ true → 13 ∷ 10 ∷ text ≡ flat_map ended pieces → IsClean text
    by_pieces [] each e = absurd (false≢true (sym (ap (λ (s : List ℕ). get_or s 0 0 == 13) e)))
    by_pieces ([] ∷ ps) each e = record { pieces = ps; each = each; joined = append_cancel_left (13 ∷ 10 ∷ []) text (flat_map ended ps) e }
    by_pieces ((b ∷ bs) ∷ ps) each e =
        let same : b ≡ 13 = ap (λ (s : List ℕ). get_or s 0 0) (sym e) in
        absurd (outside is_line_byte b 13 (and_parts (is_line_byte b) (list_all is_line_byte bs) (and_parts (list_all is_line_byte (b ∷ bs)) (list_all (list_all is_line_byte) ps) each).0).0 refl same)

-- a section that is clean up to a CRLF is clean
pub clean_trailer : (section : List ℕ) → IsTrailerSection section section → IsCleanUpToCrlf section → IsClean section
clean_trailer section is c = clean_without section (clean_whole (13 ∷ 10 ∷ section) [] section is refl refl c)

-- and it is cut into lines
pub trailer_lines : (section : List ℕ) → IsTrailerSection section section → IsClean section → (lines : List RawPieces) × AreLinesOf section lines
trailer_lines section is clean =
    let cut = section_cut (13 ∷ 10 ∷ section) (record { is = is; clean = clean_with section clean }) in
    (cut.lines, (lines_after (13 ∷ 10 ∷ section) cut [] section refl refl).rest_is)

-- the bytes are cut in this way
pub lines_cut_from : (bytes section : List ℕ) (lines : List RawPieces) → IsTrailerSection bytes section → AreLinesOf section lines → IsCut [] lines (13 ∷ 10 ∷ bytes)
lines_cut_from bytes section lines s are = record { section = section; more = s.more; clean = refl; joined = s.joined; lines_are = are }

-- ---- field lines and an empty line

-- the text of a trailer section and more, as they are cut
pub record TrailerCut (lines : List FieldLine) (more bytes : List ℕ) : Type 0 where
  pub own : LinesCut lines
  pub cut : IsCut [] own.cuts (13 ∷ 10 ∷ bytes)
  pub more_is : cut.more ≡ more

trailer_cut : (lines : List FieldLine) (more bytes : List ℕ) → All IsLine lines → bytes ≡ trailer_text lines ++ more → TrailerCut lines more bytes
trailer_cut lines more bytes each e =
    let own = lines_cut lines each in
    let there = cut_after [] lines own more (13 ∷ 10 ∷ bytes) refl (ap (λ (x : List ℕ). 13 ∷ 10 ∷ x) (e ∙ append_assoc (flat_map line_text lines) (13 ∷ 10 ∷ []) more)) in
    record { own = own; cut = there.cut; more_is = there.more_is }

pub spelled_trailer : (lines : List FieldLine) (used : ℕ) (bytes : List ℕ) → SpellsTrailer lines used bytes → TrailerCut lines (drop used bytes) bytes
spelled_trailer lines used bytes s = trailer_cut lines (drop used bytes) bytes s.spells.is.each (text_first (trailer_text lines) used bytes s.spells.text)

pub trailer_used : (lines : List FieldLine) (used : ℕ) (bytes : List ℕ) → SpellsTrailer lines used bytes → used ≡ length (trailer_text lines)
trailer_used lines used bytes s = text_used (trailer_text lines) used bytes s.within s.spells.text

pub one_trailer_law : OneTrailer
one_trailer_law bytes one other n m a b =
    let p = spelled_trailer one n bytes a in
    let q = spelled_trailer other m bytes b in
    let cuts = one_cut [] [] p.own.cuts q.own.cuts (13 ∷ 10 ∷ bytes) p.cut q.cut in
    let same = one_lines_made p.own.cuts q.own.cuts one other cuts.1 p.own.made q.own.made in
    (same, trailer_used one n bytes a ∙ ap (λ (ls : List FieldLine). length (trailer_text ls)) same ∙ sym (trailer_used other m bytes b))

-- the bytes that spell it are a section, and clean
pub record CleanTrailer (bytes section : List ℕ) : Type 0 where
  pub is : IsTrailerSection bytes section
  pub clean : IsClean section

pub spelled_section : (lines : List FieldLine) (used : ℕ) (bytes : List ℕ) → SpellsTrailer lines used bytes → CleanTrailer bytes (take used bytes)
spelled_section lines used bytes s =
    let own = spelled_trailer lines used bytes s in
    let there = cut_section [] own.own.cuts (13 ∷ 10 ∷ bytes) own.cut in
    let whole = 13 ∷ 10 ∷ take used bytes in
    let same : there.section ≡ whole = append_cancel_right there.section whole (drop used bytes) (ap (λ (x : List ℕ). there.section ++ x) (sym own.more_is) ∙ sym there.joined ∙ ap (λ (x : List ℕ). 13 ∷ 10 ∷ x) (sym (take-append-drop used bytes))) in
    record {
      is = subst (λ (x : List ℕ). IsSection (13 ∷ 10 ∷ bytes) x) same there.is;
      clean = clean_without (take used bytes) (subst IsClean same there.clean);
    }

pub trailer_end_law : TrailerEndsAtFirstEnd
trailer_end_law bytes lines used s = (spelled_section lines used bytes s).is
