-- The parts of a field line are determined by the line as it is cut.
use Rattle.std.proofs.Common.{◌≡◌, ℕ, ◌<◌, ◌==◌, true, nat_lt, List, [], ◌∷◌, ◌++◌, length, drop, get_or, refl, sym, ap, ◌∙◌, append_assoc}
use Rattle.std.specs.List.{list_all, flat_map}
use Rattle.std.proofs.lemmas.Bool.{and_parts, and_from, lt-ltb, false≢true}
use Rattle.std.proofs.lemmas.List.Folds.{list_all-append}
use Rattle.byte_grammar.specs.Classes.{is_tchar, is_line_byte}
use Rattle.msg_head.specs.RawValues.{RawPieces, are_pieces, is_continuation, pieces_text, continuation_text}
use Rattle.msg_head.specs.Lines.{FieldLine, line_text}
use Rattle.msg_head.specs.Cuts.{MakesLine, MakesNoLine}
use Rattle.msg_head.specs.tools.Texts.{BeginsWithPieces, BeginsWithCut}
use Rattle.msg_head.specs.tools.Prefixes.{StandsBefore, NoneStandsBefore}
use Rattle.msg_head.proofs.Prefixes.{one_before, outside}
use Rattle.msg_head.proofs.PieceLaws.{after_first, opened_pieces}
use Rattle.msg_head.proofs.StartParts.{empty_not}

pub opened_line : (line : FieldLine) (more : List ℕ) → line_text line ++ more ≡ line.name ++ 58 ∷ (line.raw ++ 13 ∷ 10 ∷ more)
opened_line line more =
    append_assoc line.name (58 ∷ (line.raw ++ 13 ∷ 10 ∷ [])) more ∙ ap (λ (s : List ℕ). line.name ++ 58 ∷ s) (append_assoc line.raw (13 ∷ 10 ∷ []) more)

-- ---- what is in bytes that begin with a line which is a field line

made_bytes : (cut : RawPieces) (line : FieldLine) (more bytes : List ℕ) → BeginsWithCut cut more bytes → MakesLine cut line → bytes ≡ line.name ++ 58 ∷ (line.raw ++ 13 ∷ 10 ∷ more)
made_bytes cut line more bytes b m =
    b.begins.joined ∙ sym (append_assoc (pieces_text cut) (13 ∷ 10 ∷ []) more) ∙ ap (λ (s : List ℕ). s ++ more) m.text ∙ opened_line line more

name_stands : (cut : RawPieces) (line : FieldLine) (more bytes : List ℕ) → BeginsWithCut cut more bytes → MakesLine cut line → StandsBefore is_tchar (58 ∷ []) line.name (line.raw ++ 13 ∷ 10 ∷ more) bytes
name_stands cut line more bytes b m = record { each = (and_parts _ _ m.is.name).1; joined = made_bytes cut line more bytes b m }

raw_begins : (cut : RawPieces) (line : FieldLine) (more bytes name rest : List ℕ) → BeginsWithCut cut more bytes → (m : MakesLine cut line) → StandsBefore is_tchar (58 ∷ []) name rest bytes → BeginsWithPieces m.is.raw.0 more rest
raw_begins cut line more bytes name rest b m n = record {
  are = m.is.raw.1;
  ends = b.begins.ends;
  joined =
      (one_before is_tchar 58 [] name line.name rest _ bytes refl n (name_stands cut line more bytes b m)).1 ∙ ap (λ (s : List ℕ). s ++ 13 ∷ 10 ∷ more) m.is.raw.2;
}

-- ---- where no field line is

pub no_name : (cut : RawPieces) (more bytes : List ℕ) → BeginsWithCut cut more bytes → NoneStandsBefore is_tchar (58 ∷ []) bytes → MakesNoLine cut
no_name cut more bytes b none line m = none line.name _ (name_stands cut line more bytes b m)

pub empty_name : (cut : RawPieces) (more bytes name rest : List ℕ) → BeginsWithCut cut more bytes → StandsBefore is_tchar (58 ∷ []) name rest bytes → length name ≡ 0 → MakesNoLine cut
empty_name cut more bytes name rest b n empty line m =
    let same = (one_before is_tchar 58 [] name line.name rest _ bytes refl n (name_stands cut line more bytes b m)).0 in
    empty_not is_tchar line.name m.is.name (sym (ap (length {A = ℕ}) same) ∙ empty)

pub no_raw : (cut : RawPieces) (more bytes name rest : List ℕ) → BeginsWithCut cut more bytes → StandsBefore is_tchar (58 ∷ []) name rest bytes → ((pieces : RawPieces) (other : List ℕ) → ¬ BeginsWithPieces pieces other rest) → MakesNoLine cut
no_raw cut more bytes name rest b n none line m = none m.is.raw.0 more (raw_begins cut line more bytes name rest b m n)

-- ---- where one is

colon_in_first : (name rest first tail : List ℕ) → list_all is_tchar name ≡ true → name ++ 58 ∷ rest ≡ first ++ 13 ∷ tail → (raw : List ℕ) × (first ≡ name ++ 58 ∷ raw) × (rest ≡ raw ++ 13 ∷ tail)
colon_in_first [] rest [] tail each e = absurd (false≢true (ap (λ (s : List ℕ). get_or s 0 0 == 13) e))
colon_in_first [] rest (f ∷ fs) tail each e = (fs, ap (λ (s : List ℕ). get_or s 0 0 ∷ fs) (sym e), ap (drop {A = ℕ} 1) e)
colon_in_first (x ∷ xs) rest [] tail each e =
    let same : x ≡ 13 = ap (λ (s : List ℕ). get_or s 0 0) e in absurd (outside is_tchar x 13 (and_parts _ _ each).0 refl same)
colon_in_first (x ∷ xs) rest (f ∷ fs) tail each e =
    let same : f ≡ x = ap (λ (s : List ℕ). get_or s 0 0) (sym e) in
    let left : xs ++ 58 ∷ rest ≡ fs ++ 13 ∷ tail = ap (drop {A = ℕ} 1) e in
    let others = colon_in_first xs rest fs tail (and_parts _ _ each).1 left in
    (others.0, λ i. same i ∷ others.1 i, others.2)

-- the name and the raw value's pieces
pub record PartsOf (cut : RawPieces) (more name rest : List ℕ) : Type 0 where
  pub pieces : RawPieces
  pub begins : BeginsWithPieces pieces more rest
  pub makes : MakesLine cut (record { name = name; raw = pieces_text pieces })

pub parts_of : (cut : RawPieces) (more bytes name rest : List ℕ) → BeginsWithCut cut more bytes → StandsBefore is_tchar (58 ∷ []) name rest bytes → 0 < length name → PartsOf cut more name rest
parts_of cut more bytes name rest b n some =
    let at = colon_in_first name rest cut.first (10 ∷ after_first cut.continued more) n.each (sym n.joined ∙ b.begins.joined ∙ opened_pieces cut more) in
    let pieces : RawPieces = record { first = at.0; continued = cut.continued } in
    let cut_are = and_parts (list_all is_line_byte cut.first) (list_all is_continuation cut.continued) b.begins.are in
    let clean = and_parts (list_all is_line_byte name) (list_all is_line_byte (58 ∷ at.0)) (sym (list_all-append is_line_byte name (58 ∷ at.0)) ∙ ap (list_all is_line_byte) (sym at.1) ∙ cut_are.0) in
    let are : are_pieces pieces ≡ true = and_from (list_all is_line_byte at.0) (list_all is_continuation cut.continued) clean.1 cut_are.1 in
    let folds = flat_map continuation_text cut.continued in
    record {
      pieces = pieces;
      begins = record { are = are; ends = b.begins.ends; joined = at.2 ∙ sym (opened_pieces pieces more) };
      makes = record {
        is = record { name = and_from (nat_lt 0 (length name)) (list_all is_tchar name) (lt-ltb 0 (length name) some) n.each; raw = (pieces, are, refl) };
        text =
            ap (λ (s : List ℕ). (s ++ folds) ++ 13 ∷ 10 ∷ []) at.1
            ∙ ap (λ (s : List ℕ). s ++ 13 ∷ 10 ∷ []) (append_assoc name (58 ∷ at.0) folds)
            ∙ append_assoc name (58 ∷ (at.0 ++ folds)) (13 ∷ 10 ∷ []);
      };
    }
