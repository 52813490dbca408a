-- A clean section is cut into lines.
use Rattle.std.proofs.Common.{◌≡◌, ℕ, true, ◌&&◌, not, nat_lt, inl, inr, List, [], ◌∷◌, ◌++◌, length, drop, refl, sym, ap, ◌∙◌, arith, append_assoc, length-append}
use Rattle.std.specs.List.{list_all, flat_map}
use Rattle.std.proofs.lemmas.Bool.{and_parts, and_from, cases_Bool, lt-ltb}
use Rattle.std.proofs.lemmas.List.{append-nil, append_cancel_left, append_cancel_right}
use Rattle.std.proofs.lemmas.List.Folds.{list_all-append}
use Rattle.std.proofs.lemmas.Grind.{flat_map-append}
use Rattle.byte_grammar.specs.Classes.{is_blank, is_line_byte}
use Rattle.byte_grammar.specs.Language.{starts_in}
use Rattle.msg_head.specs.RawValues.{RawPieces, are_pieces, is_continuation}
use Rattle.msg_head.specs.Starts.{StartLine}
use Rattle.msg_head.specs.Cuts.{AreLinesOf, IsCut, MakesNoStart, cut_text, is_cut, begins_anew}
use Rattle.msg_head.specs.tools.Texts.{ended}
use Rattle.msg_head.specs.tools.Prefixes.{BeginsWithStart, BeginsWithNoStart}
use Rattle.msg_head.specs.tools.Judged.{IsCleanSection}
use Rattle.msg_head.proofs.Prefixes.{one_prefix}
use Rattle.msg_head.proofs.Naked.{last_plain}
use Rattle.msg_head.proofs.HeadParts.{start_cut}
use Rattle.msg_head.proofs.Sectioning.{is_full, cut_ended}

-- ---- pieces, joined to lines

pub record Grouped (ps : List (List ℕ)) : Type 0 where
  pub lines : List RawPieces
  pub text : flat_map cut_text lines ≡ flat_map ended ps
  pub each : list_all is_cut lines ≡ true
  pub ends : list_all begins_anew (drop 1 lines) ≡ true

one_more : (p : List ℕ) (ps : List (List ℕ)) → is_full p ≡ true → (lines : List RawPieces) → flat_map cut_text lines ≡ flat_map ended ps
    → list_all is_cut lines ≡ true
    → list_all begins_anew (drop 1 lines) ≡ true → Grouped (p ∷ ps)
one_more p ps full [] text each ends =
    let both = and_parts (nat_lt 0 (length p)) (list_all is_line_byte p) full in
    let own : RawPieces = record { first = p; continued = [] } in
    record {
      lines = own ∷ [];
      text = append-nil (cut_text own) ∙ cut_ended own ∙ append-nil (ended p) ∙ sym (append-nil (ended p)) ∙ ap (λ (x : List ℕ). ended p ++ x) text;
      each = and_from _ _ (and_from (nat_lt 0 (length p)) (are_pieces own) both.0 (and_from (list_all is_line_byte p) true both.1 refl)) refl;
      ends = refl;
    }
one_more p ps full (l ∷ ls) text each ends =
    let both = and_parts (nat_lt 0 (length p)) (list_all is_line_byte p) full in
    let one = and_parts (nat_lt 0 (length l.first) && are_pieces l) _ each in
    let are = and_parts (list_all is_line_byte l.first) (list_all is_continuation l.continued) (and_parts (nat_lt 0 (length l.first)) (are_pieces l) one.0).1 in
    elim (cases_Bool (starts_in is_blank l.first)) [
      | inl blank ↦
          let own : RawPieces = record { first = p; continued = l.first ∷ l.continued } in
          let fold : is_continuation l.first ≡ true = and_from (starts_in is_blank l.first) (list_all is_line_byte l.first) blank are.0 in
          let own_text : cut_text own ≡ ended p ++ cut_text l = cut_ended own ∙ ap (λ (x : List ℕ). ended p ++ x) (sym (cut_ended l)) in
          record {
            lines = own ∷ ls;
            text = ap (λ (x : List ℕ). x ++ flat_map cut_text ls) own_text ∙ append_assoc (ended p) (cut_text l) (flat_map cut_text ls) ∙ ap (λ (x : List ℕ). ended p ++ x) text;
            each = and_from _ _ (and_from (nat_lt 0 (length p)) (are_pieces own) both.0 (and_from (list_all is_line_byte p) (list_all is_continuation (l.first ∷ l.continued)) both.1 (and_from (is_continuation l.first) (list_all is_continuation l.continued) fold are.1))) one.1;
            ends = ends;
          }
      | inr plain ↦
          let own : RawPieces = record { first = p; continued = [] } in
          record {
            lines = own ∷ l ∷ ls;
            text = λ i. (cut_ended own ∙ append-nil (ended p)) i ++ text i;
            each = and_from _ _ (and_from (nat_lt 0 (length p)) (are_pieces own) both.0 (and_from (list_all is_line_byte p) true both.1 refl)) each;
            ends = and_from _ _ (ap not plain) ends;
          }
    ]

pub grouped : (ps : List (List ℕ)) → list_all is_full ps ≡ true → Grouped ps
grouped [] full = record { lines = []; text = refl; each = refl; ends = refl }
grouped (p ∷ ps) full =
    let both = and_parts (is_full p) (list_all is_full ps) full in
    let others = grouped ps both.1 in
    one_more p ps both.0 others.lines others.text others.each others.ends

-- ---- the pieces of a section

record Last (ps : List (List ℕ)) : Type 0 where
  pub others : List (List ℕ)
  pub last : List ℕ
  pub are : ps ≡ others ++ last ∷ []

last_of : (p : List ℕ) (ps : List (List ℕ)) → Last (p ∷ ps)
last_of p [] = record { others = []; last = p; are = refl }
last_of p (q ∷ qs) =
    let l = last_of q qs in record { others = p ∷ l.others; last = l.last; are = ap (λ (x : List (List ℕ)). p ∷ x) l.are }

-- nothing is after the last end
last_empty : (others : List (List ℕ)) (last before : List ℕ) → list_all is_line_byte last ≡ true → flat_map ended (others ++ last ∷ []) ≡ before ++ 13 ∷ 10 ∷ 13 ∷ 10 ∷ [] → (last ≡ []) × (flat_map ended others ≡ before ++ 13 ∷ 10 ∷ [])
last_empty others last before clean e =
    let made = flat_map ended others in
    by_last made before last clean (append_cancel_right (made ++ last) (before ++ 13 ∷ 10 ∷ []) (13 ∷ 10 ∷ []) (append_assoc made last (13 ∷ 10 ∷ []) ∙ ap (λ (x : List ℕ). made ++ x) (sym (append-nil (ended last))) ∙ sym (flat_map-append ended others (last ∷ [])) ∙ e ∙ sym (append_assoc before (13 ∷ 10 ∷ []) (13 ∷ 10 ∷ []))))
  where
    by_last : (made before last : List ℕ) → list_all is_line_byte last ≡ true → made ++ last ≡ before ++ 13 ∷ 10 ∷ [] → (last ≡ []) × (made ≡ before ++ 13 ∷ 10 ∷ [])
    by_last made before [] clean e = (refl, sym (append-nil made) ∙ e)
    by_last made before (y ∷ ys) clean e = absurd (last_plain made y ys (before ++ 13 ∷ []) clean (e ∙ sym (append_assoc before (13 ∷ []) (10 ∷ []))))

-- no piece between the start and the end is empty
all_full : (section pre : List ℕ) (ps : List (List ℕ)) → list_all (list_all is_line_byte) ps ≡ true → section ≡ pre ++ 13 ∷ 10 ∷ (flat_map ended ps ++ 13 ∷ 10 ∷ []) → ((one other : List ℕ) → section ≡ one ++ 13 ∷ 10 ∷ 13 ∷ 10 ∷ other → other ≡ []) → list_all is_full ps ≡ true
all_full section pre [] clean e first = refl
all_full section pre ([] ∷ qs) clean e first =
    let none = first pre (flat_map ended qs ++ 13 ∷ 10 ∷ []) e in
    absurd (omega (arith, ap (length {A = ℕ}) none, length-append (flat_map ended qs) (13 ∷ 10 ∷ [])))
all_full section pre ((c ∷ cs) ∷ qs) clean e first =
    let q = c ∷ cs in
    let both = and_parts (list_all is_line_byte q) (list_all (list_all is_line_byte) qs) clean in
    let tail = flat_map ended qs ++ 13 ∷ 10 ∷ [] in
    let further : section ≡ (pre ++ 13 ∷ 10 ∷ q) ++ 13 ∷ 10 ∷ tail =
    e
    ∙ ap (λ (x : List ℕ). pre ++ 13 ∷ 10 ∷ x) (append_assoc (ended q) (flat_map ended qs) (13 ∷ 10 ∷ []) ∙ append_assoc q (13 ∷ 10 ∷ []) tail)
    ∙ sym (append_assoc pre (13 ∷ 10 ∷ q) (13 ∷ 10 ∷ tail)) in
    and_from (is_full q) (list_all is_full qs) (and_from (nat_lt 0 (length q)) (list_all is_line_byte q) (lt-ltb 0 (length q) (omega arith)) both.0) (all_full section (pre ++ 13 ∷ 10 ∷ q) qs both.1 further first)

-- ---- a clean section, cut

pub record SectionCut (section : List ℕ) : Type 0 where
  pub start : List ℕ
  pub lines : List RawPieces
  pub cut : IsCut start lines section
  pub no_more : cut.more ≡ []

cut_by : (section start : List ℕ) (ps : List (List ℕ)) → list_all (list_all is_line_byte) (start ∷ ps) ≡ true → section ≡ flat_map ended (start ∷ ps) ++ 13 ∷ 10 ∷ [] → ((one other : List ℕ) → section ≡ one ++ 13 ∷ 10 ∷ 13 ∷ 10 ∷ other → other ≡ []) → SectionCut section
cut_by section start ps clean e first =
    let both = and_parts (list_all is_line_byte start) (list_all (list_all is_line_byte) ps) clean in
    let joined : section ≡ start ++ 13 ∷ 10 ∷ (flat_map ended ps ++ 13 ∷ 10 ∷ []) =
    e ∙ append_assoc (ended start) (flat_map ended ps) (13 ∷ 10 ∷ []) ∙ append_assoc start (13 ∷ 10 ∷ []) (flat_map ended ps ++ 13 ∷ 10 ∷ []) in
    let lines = grouped ps (all_full section start ps both.1 joined first) in
    let rest = flat_map ended ps ++ 13 ∷ 10 ∷ [] in
    record {
      start = start;
      lines = lines.lines;
      cut = record {
        section = rest;
        more = [];
        clean = both.0;
        joined = joined ∙ ap (λ (x : List ℕ). start ++ 13 ∷ 10 ∷ x) (sym (append-nil rest));
        lines_are = record { joined = ap (λ (x : List ℕ). x ++ 13 ∷ 10 ∷ []) (sym lines.text); each = lines.each; ends = lines.ends };
      };
      no_more = refl;
    }

by_pieces : (section before : List ℕ) (ps : List (List ℕ)) → list_all (list_all is_line_byte) ps ≡ true → section ≡ flat_map ended ps → section ≡ before ++ 13 ∷ 10 ∷ 13 ∷ 10 ∷ [] → ((one other : List ℕ) → section ≡ one ++ 13 ∷ 10 ∷ 13 ∷ 10 ∷ other → other ≡ []) → SectionCut section
by_pieces section before [] clean e ends first =
    absurd (omega (arith, ap (length {A = ℕ}) (sym e ∙ ends), length-append before (13 ∷ 10 ∷ 13 ∷ 10 ∷ [])))
by_pieces section before (p ∷ ps) clean e ends first =
    let l = last_of p ps in
    let apart = and_parts (list_all (list_all is_line_byte) l.others) (list_all (list_all is_line_byte) (l.last ∷ [])) (sym (list_all-append (list_all is_line_byte) l.others (l.last ∷ [])) ∙ ap (list_all (list_all is_line_byte)) (sym l.are) ∙ clean) in
    let joined = ap (flat_map ended) (sym l.are) ∙ sym e ∙ ends in
    let empty = last_empty l.others l.last before (and_parts (list_all is_line_byte l.last) true apart.1).0 joined in
    with_others l.others apart.0 empty.1 (ends ∙ sym (append_assoc before (13 ∷ 10 ∷ []) (13 ∷ 10 ∷ [])) ∙ ap (λ (x : List ℕ). x ++ 13 ∷ 10 ∷ []) (sym empty.1))
  where
    with_others : (others : List (List ℕ)) → list_all (list_all is_line_byte) others ≡ true → flat_map ended others ≡ before ++ 13 ∷ 10 ∷ [] → section ≡ flat_map ended others ++ 13 ∷ 10 ∷ [] → SectionCut section
    with_others [] clean is e = absurd (omega (arith, ap (length {A = ℕ}) is, length-append before (13 ∷ 10 ∷ [])))
    with_others (start ∷ others) clean is e = cut_by section start others clean e first

pub section_cut : (section : List ℕ) → IsCleanSection section → SectionCut section
section_cut section s = by_pieces section s.is.before s.clean.pieces s.clean.each s.clean.joined s.is.ends s.is.first

-- ---- its first line

-- The text before the section's first end is the start, and what comes after that end is the lines.
pub record LinesAfter (section : List ℕ) (cut : SectionCut section) (text rest : List ℕ) : Type 0 where
  pub start_is : text ≡ cut.start
  pub rest_is : AreLinesOf rest cut.lines

pub lines_after : (section : List ℕ) (cut : SectionCut section) (text rest : List ℕ) → list_all is_line_byte text ≡ true → section ≡ text ++ 13 ∷ 10 ∷ rest → LinesAfter section cut text rest
lines_after section cut text rest clean e =
    let same = one_prefix is_line_byte 13 text cut.start (10 ∷ rest) (10 ∷ (cut.cut.section ++ cut.cut.more)) refl clean cut.cut.clean (sym e ∙ cut.cut.joined) in
    let rest_is : rest ≡ cut.cut.section =
    append_cancel_left (10 ∷ []) rest (cut.cut.section ++ cut.cut.more) same.1 ∙ ap (λ (x : List ℕ). cut.cut.section ++ x) cut.no_more ∙ append-nil cut.cut.section in
    let lines = cut.cut.lines_are in
    record { start_is = same.0; rest_is = record { joined = rest_is ∙ lines.joined; each = lines.each; ends = lines.ends } }

pub record StartsWell (section : List ℕ) (cut : SectionCut section) (rest : List ℕ) : Type 0 where
  pub rest_is : AreLinesOf rest cut.lines
  pub good : ¬ MakesNoStart cut.start

pub well_started : (section : List ℕ) (cut : SectionCut section) (start : StartLine) (rest : List ℕ) → BeginsWithStart start rest section → StartsWell section cut rest
well_started section cut start rest b =
    let own = start_cut start b.is in
    let after = lines_after section cut own.text rest own.clean (b.joined ∙ ap (λ (x : List ℕ). x ++ rest) own.is ∙ append_assoc own.text (13 ∷ 10 ∷ []) rest) in
    record {
      rest_is = after.rest_is;
      good = λ none. none start b.is (ap (λ (x : List ℕ). x ++ 13 ∷ 10 ∷ []) (sym after.start_is) ∙ sym own.is);
    }

pub bad_start : (section : List ℕ) (cut : SectionCut section) → BeginsWithNoStart section → MakesNoStart cut.start
bad_start section cut none line is e =
    none line (cut.cut.section ++ cut.cut.more) (record {
      is = is;
      joined = cut.cut.joined ∙ sym (append_assoc cut.start (13 ∷ 10 ∷ []) (cut.cut.section ++ cut.cut.more)) ∙ ap (λ (x : List ℕ). x ++ (cut.cut.section ++ cut.cut.more)) e;
    })
