-- Bytes begin with pieces in at most one way.
use Rattle.std.proofs.Common.{◌≡◌, ℕ, true, false, List, [], ◌∷◌, ◌++◌, refl, sym, ap, ◌∙◌, append_assoc}
use Rattle.std.specs.List.{list_all, flat_map}
use Rattle.std.proofs.lemmas.Bool.{and_parts, false≢true}
use Rattle.std.proofs.lemmas.List.{append_cancel_left}
use Rattle.byte_grammar.specs.Classes.{is_blank, is_line_byte}
use Rattle.byte_grammar.specs.Language.{starts_in}
use Rattle.msg_head.specs.RawValues.{RawPieces, is_continuation, continuation_text, pieces_text}
use Rattle.msg_head.specs.tools.Texts.{BeginsWithPieces}
use Rattle.msg_head.proofs.Prefixes.{one_prefix}

-- what comes after the CRLF after the first piece
abbrev pub after_first : List (List ℕ) → List ℕ → List ℕ
after_first [] more = more
after_first (f ∷ fs) more = f ++ 13 ∷ 10 ∷ after_first fs more

opened_folds : (folds : List (List ℕ)) (more : List ℕ) → flat_map continuation_text folds ++ 13 ∷ 10 ∷ more ≡ 13 ∷ 10 ∷ after_first folds more
opened_folds [] more = refl
opened_folds (f ∷ fs) more =
    ap (λ (s : List ℕ). 13 ∷ 10 ∷ s) (append_assoc f (flat_map continuation_text fs) (13 ∷ 10 ∷ more) ∙ ap (λ (s : List ℕ). f ++ s) (opened_folds fs more))

pub opened_pieces : (pieces : RawPieces) (more : List ℕ) → pieces_text pieces ++ 13 ∷ 10 ∷ more ≡ pieces.first ++ 13 ∷ 10 ∷ after_first pieces.continued more
opened_pieces pieces more =
    append_assoc pieces.first (flat_map continuation_text pieces.continued) (13 ∷ 10 ∷ more) ∙ ap (λ (s : List ℕ). pieces.first ++ s) (opened_folds pieces.continued more)

-- a fold begins with a blank
pub fold_starts : (f more : List ℕ) → is_continuation f ≡ true → starts_in is_blank (f ++ more) ≡ true
fold_starts [] more is = absurd (false≢true is)
fold_starts (c ∷ cs) more is = (and_parts _ _ is).0

one_folds : (fs gs : List (List ℕ)) (more rest : List ℕ) → list_all is_continuation fs ≡ true → list_all is_continuation gs ≡ true → starts_in is_blank more ≡ false → starts_in is_blank rest ≡ false → after_first fs more ≡ after_first gs rest → (fs ≡ gs) × (more ≡ rest)
one_folds [] [] more rest a b m r e = (refl, e)
one_folds [] (g ∷ gs) more rest a b m r e =
    absurd (false≢true (sym m ∙ ap (starts_in is_blank) e ∙ fold_starts g (13 ∷ 10 ∷ after_first gs rest) (and_parts _ _ b).0))
one_folds (f ∷ fs) [] more rest a b m r e =
    absurd (false≢true (sym r ∙ ap (starts_in is_blank) (sym e) ∙ fold_starts f (13 ∷ 10 ∷ after_first fs more) (and_parts _ _ a).0))
one_folds (f ∷ fs) (g ∷ gs) more rest a b m r e =
    let p = and_parts _ _ a in
    let q = and_parts _ _ b in
    let same = one_prefix is_line_byte 13 f g (10 ∷ after_first fs more) (10 ∷ after_first gs rest) refl (and_parts _ _ p.0).1 (and_parts _ _ q.0).1 e in
    let others = one_folds fs gs more rest p.1 q.1 m r (append_cancel_left (10 ∷ []) _ _ same.1) in
    (λ i. same.0 i ∷ others.0 i, others.1)

pub one_pieces : (one other : RawPieces) (more rest bytes : List ℕ) → BeginsWithPieces one more bytes → BeginsWithPieces other rest bytes → (one ≡ other) × (more ≡ rest)
one_pieces one other more rest bytes a b =
    let p = and_parts _ _ a.are in
    let q = and_parts _ _ b.are in
    let e = sym (opened_pieces one more) ∙ sym a.joined ∙ b.joined ∙ opened_pieces other rest in
    let firsts = one_prefix is_line_byte 13 one.first other.first (10 ∷ after_first one.continued more) (10 ∷ after_first other.continued rest) refl p.0 q.0 e in
    let folds = one_folds one.continued other.continued more rest p.1 q.1 a.ends b.ends (append_cancel_left (10 ∷ []) _ _ firsts.1) in
    (λ i. record { first = firsts.0 i; continued = folds.0 i }, folds.1)
