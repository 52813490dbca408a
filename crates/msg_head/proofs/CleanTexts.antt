-- Texts without naked ends, part by part.
use Rattle.std.proofs.Common.{◌≡◌, ℕ, ◌<◌, true, List, [], ◌∷◌, ◌++◌, length, refl, sym, subst, ap, ◌∙◌, arith, append_assoc}
use Rattle.std.specs.List.{list_all, flat_map}
use Rattle.std.proofs.lemmas.Bool.{and_parts, and_from}
use Rattle.std.proofs.lemmas.List.Folds.{list_all-append}
use Rattle.std.proofs.lemmas.Grind.{flat_map-append}
use Rattle.byte_grammar.specs.Classes.{is_tchar, is_line_byte}
use Rattle.msg_head.specs.Cuts.{IsSection}
use Rattle.msg_head.specs.Starts.{StartLine}
use Rattle.msg_head.specs.tools.Texts.{IsClean, IsCleanUpTo, IsCleanUpToCrlf, ended}
use Rattle.msg_head.specs.tools.Prefixes.{StandsBefore, BeginsWithStart}
use Rattle.msg_head.proofs.LineBytes.{line_bytes_of}
use Rattle.msg_head.proofs.Naked.{opened_pieces_of}
use Rattle.msg_head.proofs.HeadParts.{start_cut}
use Rattle.msg_head.proofs.Sectioning.{ended_ends}

-- before a text that has an end, clean bytes leave it clean
pub clean_before : (prefix text left : List ℕ) → list_all is_line_byte prefix ≡ true → length left < length text → IsCleanUpTo text left → IsCleanUpTo (prefix ++ text) left
clean_before prefix text left each some c = with_pieces c.pieces c.each c.joined
  where
    with_pieces : (pieces : List (List ℕ)) → list_all (list_all is_line_byte) pieces ≡ true → text ≡ flat_map ended pieces ++ left → IsCleanUpTo (prefix ++ text) left
    with_pieces [] all joined = absurd (omega (arith, some, ap (length {A = ℕ}) joined))
    with_pieces (p ∷ ps) all joined =
        let both = and_parts (list_all is_line_byte p) (list_all (list_all is_line_byte) ps) all in
        record {
          pieces = (prefix ++ p) ∷ ps;
          each = and_from (list_all is_line_byte (prefix ++ p)) (list_all (list_all is_line_byte) ps) (list_all-append is_line_byte prefix p ∙ and_from (list_all is_line_byte prefix) (list_all is_line_byte p) each both.0) both.1;
          joined =
              ap (λ (x : List ℕ). prefix ++ x) (joined ∙ opened_pieces_of p ps left)
              ∙ sym (append_assoc prefix p (13 ∷ 10 ∷ (flat_map ended ps ++ left)))
              ∙ sym (opened_pieces_of (prefix ++ p) ps left);
        }

-- after a name and a colon
pub clean_line : (bytes name text left : List ℕ) → StandsBefore is_tchar (58 ∷ []) name text bytes → length left < length text → IsCleanUpTo text left → IsCleanUpTo bytes left
clean_line bytes name text left s some c =
    subst (λ (x : List ℕ). IsCleanUpTo x left) (sym s.joined) (clean_before name (58 ∷ text) left (line_bytes_of is_tchar name refl refl refl s.each) (omega (arith, some)) (clean_before (58 ∷ []) text left refl some c))

pub clean_both : (text middle left : List ℕ) → IsCleanUpTo text middle → IsCleanUpTo middle left → IsCleanUpTo text left
clean_both text middle left a b = record {
  pieces = a.pieces ++ b.pieces;
  each = list_all-append (list_all is_line_byte) a.pieces b.pieces ∙ and_from _ _ a.each b.each;
  joined =
      a.joined
      ∙ ap (λ (x : List ℕ). flat_map ended a.pieces ++ x) b.joined
      ∙ sym (append_assoc (flat_map ended a.pieces) (flat_map ended b.pieces) left)
      ∙ ap (λ (x : List ℕ). x ++ left) (sym (flat_map-append ended a.pieces b.pieces));
}

-- A section that is a clean text, its end and a rest which is clean up to a CRLF is clean, since
-- the section ends at its first empty line.
pub clean_whole : (section text rest : List ℕ) → IsSection section section → list_all is_line_byte text ≡ true → section ≡ text ++ 13 ∷ 10 ∷ rest → IsCleanUpToCrlf rest → IsClean section
clean_whole section text rest is clean e c =
    let lines = c.1 in
    let pieces = text ∷ lines.pieces in
    let ends = ended_ends text lines.pieces in
    let joined : section ≡ flat_map ended pieces ++ (13 ∷ 10 ∷ c.2.0) =
    e
    ∙ sym (append_assoc text (13 ∷ 10 ∷ []) rest)
    ∙ ap (λ (x : List ℕ). ended text ++ x) (lines.joined ∙ ap (λ (x : List ℕ). flat_map ended lines.pieces ++ x) c.2.1)
    ∙ sym (append_assoc (ended text) (flat_map ended lines.pieces) (13 ∷ 10 ∷ c.2.0)) in
    let none : c.2.0 ≡ [] = is.first ends.before c.2.0 (joined ∙ ap (λ (x : List ℕ). x ++ 13 ∷ 10 ∷ c.2.0) ends.is ∙ append_assoc ends.before (13 ∷ 10 ∷ []) (13 ∷ 10 ∷ c.2.0)) in
    record {
      pieces = pieces ++ [] ∷ [];
      each = list_all-append (list_all is_line_byte) pieces ([] ∷ []) ∙ and_from _ _ (and_from (list_all is_line_byte text) (list_all (list_all is_line_byte) lines.pieces) clean lines.each) refl;
      joined =
          joined
          ∙ ap (λ (x : List ℕ). flat_map ended pieces ++ 13 ∷ 10 ∷ x) none
          ∙ sym (flat_map-append ended pieces ([] ∷ []));
    }

-- in this way a head is clean, after its start line
pub clean_section : (section rest : List ℕ) (start : StartLine) → IsSection section section → BeginsWithStart start rest section → IsCleanUpToCrlf rest → IsClean section
clean_section section rest start is b c =
    let own = start_cut start b.is in
    clean_whole section own.text rest is own.clean (b.joined ∙ ap (λ (x : List ℕ). x ++ rest) own.is ∙ append_assoc own.text (13 ∷ 10 ∷ []) rest) c
