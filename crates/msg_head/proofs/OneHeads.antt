-- Bytes begin with at most one head.
use Rattle.std.proofs.Common.{◌≡◌, ℕ, Bool, true, false, ◌==◌, not, inl, inr, List, [], ◌∷◌, ◌++◌, length, drop, Option, Some, None, refl, sym, subst, ap, ◌∙◌, arith}
use Rattle.std.specs.List.{list_all}
use Rattle.std.proofs.lemmas.Bool.{and_parts, and_from, cases_Bool, eqb-true, false≢true}
use Rattle.std.proofs.lemmas.List.{append-nil, append_cancel_right, take-append-drop, length-take-le}
use Rattle.std.proofs.lemmas.List.Folds.{list_all-append}
use Rattle.byte_grammar.specs.Classes.{is_digit, is_tchar, is_visible, is_line_byte}
use Rattle.msg_head.specs.RawValues.{RawPieces}
use Rattle.msg_head.specs.Lines.{FieldLine}
use Rattle.msg_head.specs.Starts.{StartLine, request, status, RequestLine, IsRequestLine, StatusLine, IsStatusLine, IsStartLine, start_text, reason_text, request_text, status_text}
use Rattle.msg_head.specs.Cuts.{MakesLine}
use Rattle.msg_head.specs.Heads.{Head, IsHead, head_text}
use Rattle.msg_head.specs.Laws.{OneHead, OneHeadOfText, NoHeadInPrefix}
use Rattle.msg_head.proofs.Prefixes.{outside, one_prefix}
use Rattle.msg_head.proofs.StartParts.{one_request, opened_request, version_is, version_visible}
use Rattle.msg_head.proofs.StatusParts.{opened_status, clean_code}
use Rattle.msg_head.proofs.LineLaws.{one_cut}
use Rattle.msg_head.proofs.HeadParts.{AreMade, head_cut, spelled_first, used_is}

-- ---- start lines

one_code : (code other : List ℕ) (r s : Option (List ℕ)) → list_all is_digit code ≡ true → list_all is_digit other ≡ true → code ++ reason_text r ≡ other ++ reason_text s → (code ≡ other) × (r ≡ s)
one_code code other None None a b e = (sym (append-nil code) ∙ e ∙ append-nil other, refl)
one_code code other (Some r) (Some s) a b e =
    let same = one_prefix is_digit 32 code other r s refl a b e in (same.0, ap Some same.1)
one_code code other (Some r) None a b e = absurd (not_all code r (ap (list_all is_digit) (e ∙ append-nil other) ∙ b))
  where
    not_all : (code r : List ℕ) → list_all is_digit (code ++ 32 ∷ r) ≡ true → ⊥
    not_all code r h = false≢true (and_parts (list_all is_digit code) false (sym (list_all-append is_digit code (32 ∷ r)) ∙ h)).1
one_code code other None (Some s) a b e = absurd (not_all other s (ap (list_all is_digit) (sym e ∙ append-nil code) ∙ a))
  where
    not_all : (code r : List ℕ) → list_all is_digit (code ++ 32 ∷ r) ≡ true → ⊥
    not_all code r h = false≢true (and_parts (list_all is_digit code) false (sym (list_all-append is_digit code (32 ∷ r)) ∙ h)).1

one_status : (one other : StatusLine) (more rest : List ℕ) → IsStatusLine one → IsStatusLine other → status_text one ++ more ≡ status_text other ++ rest → one ≡ other
one_status one other more rest a b e =
    let versions = one_prefix is_visible 32 one.version other.version ((one.code ++ reason_text one.reason) ++ 13 ∷ 10 ∷ more) ((other.code ++ reason_text other.reason) ++ 13 ∷ 10 ∷ rest) refl (version_visible one.version a.version) (version_visible other.version b.version) (sym (opened_status one more) ∙ e ∙ opened_status other rest) in
    let texts = one_prefix is_line_byte 13 (one.code ++ reason_text one.reason) (other.code ++ reason_text other.reason) (10 ∷ more) (10 ∷ rest) refl (clean_code one a) (clean_code other b) versions.1 in
    let codes_are = one_code one.code other.code one.reason other.reason (and_parts _ _ a.code).1 (and_parts _ _ b.code).1 texts.0 in
    λ i. record { version = versions.0 i; code = codes_are.0 i; reason = codes_are.1 i }

abbrev is_other : ℕ → Bool
is_other c = not (c == 32)

others_of : (test : ℕ → Bool) (text : List ℕ) → test 32 ≡ false → list_all test text ≡ true → list_all is_other text ≡ true
others_of test [] out is = refl
others_of test (c ∷ cs) out is =
    let both = and_parts (test c) (list_all test cs) is in
    and_from (is_other c) (list_all is_other cs) (elim (cases_Bool (c == 32)) [
      | inl e ↦ absurd (outside test c 32 both.0 out (eqb-true c 32 e))
      | inr e ↦ ap not e
    ]) (others_of test cs out both.1)

-- no request line is a status line: a version is no token
not_both : (line : RequestLine) (other : StatusLine) (more rest : List ℕ) → IsRequestLine line → IsStatusLine other → request_text line ++ more ≡ status_text other ++ rest → ⊥
not_both line other more rest a b e =
    let tokens = (and_parts _ _ a.method).1 in
    let same = one_prefix is_other 32 line.method other.version (line.target ++ 32 ∷ (line.version ++ 13 ∷ 10 ∷ more)) ((other.code ++ reason_text other.reason) ++ 13 ∷ 10 ∷ rest) refl (others_of is_tchar line.method refl tokens) (others_of is_visible other.version refl (version_visible other.version b.version)) (sym (opened_request line more) ∙ e ∙ opened_status other rest) in
    let token : list_all is_tchar other.version ≡ true = ap (list_all is_tchar) (sym same.0) ∙ tokens in
    elim (version_is other.version b.version) [
      | inl one ↦ false≢true (sym (ap (list_all is_tchar) one) ∙ token)
      | inr one ↦ false≢true (sym (ap (list_all is_tchar) one) ∙ token)
    ]

pub one_start : (one other : StartLine) (more rest : List ℕ) → IsStartLine one → IsStartLine other → start_text one ++ more ≡ start_text other ++ rest → one ≡ other
one_start (request one) (request other) more rest a b e = ap request (one_request one other more rest a b e).0
one_start (status one) (status other) more rest a b e = ap status (one_status one other more rest a b e)
one_start (request one) (status other) more rest a b e = absurd (not_both one other more rest a b e)
one_start (status one) (request other) more rest a b e = absurd (not_both other one rest more b a (sym e))

-- ---- field lines

pub one_made : (cut : RawPieces) (one other : FieldLine) → MakesLine cut one → MakesLine cut other → one ≡ other
one_made cut one other a b =
    let names = one_prefix is_tchar 58 one.name other.name (one.raw ++ 13 ∷ 10 ∷ []) (other.raw ++ 13 ∷ 10 ∷ []) refl (and_parts _ _ a.is.name).1 (and_parts _ _ b.is.name).1 (sym a.text ∙ b.text) in
    let raws = append_cancel_right one.raw other.raw (13 ∷ 10 ∷ []) names.1 in
    λ i. record { name = names.0 i; raw = raws i }

pub one_lines_made : (cuts others : List RawPieces) (ls ms : List FieldLine) → cuts ≡ others → AreMade cuts ls → AreMade others ms → ls ≡ ms
one_lines_made [] [] [] [] e a b = refl
one_lines_made (c ∷ cs) (d ∷ ds) (l ∷ ls) (m ∷ ms) e a b =
    let first : c ≡ d = cc in
    let rest : cs ≡ ds = cc in
    let same = one_made d l m (subst (λ (x : RawPieces). MakesLine x l) first a.0) b.0 in
    let others = one_lines_made cs ds ls ms rest a.1 b.1 in
    λ i. same i ∷ others i
one_lines_made (c ∷ cs) [] ls ms e a b = absurd cc
one_lines_made [] (d ∷ ds) ls ms e a b = absurd cc
one_lines_made [] [] (l ∷ ls) ms e a b = absurd a
one_lines_made [] [] [] (m ∷ ms) e a b = absurd b
one_lines_made (c ∷ cs) (d ∷ ds) [] ms e a b = absurd a
one_lines_made (c ∷ cs) (d ∷ ds) (l ∷ ls) [] e a b = absurd b

-- ---- heads

pub one_head : (one other : Head) (more rest bytes : List ℕ) → IsHead one → IsHead other → bytes ≡ head_text one ++ more → bytes ≡ head_text other ++ rest → one ≡ other
one_head one other more rest bytes a b e f =
    let p = head_cut one more bytes a e in
    let q = head_cut other rest bytes b f in
    let same = one_cut p.start.text q.start.text p.lines.cuts q.lines.cuts bytes p.cut q.cut in
    let texts : start_text one.start ++ [] ≡ start_text other.start ++ [] =
    ap (λ (x : List ℕ). x ++ []) (p.start.is ∙ ap (λ (x : List ℕ). x ++ 13 ∷ 10 ∷ []) same.0 ∙ sym q.start.is) in
    let starts = one_start one.start other.start [] [] a.start b.start texts in
    let lines = one_lines_made p.lines.cuts q.lines.cuts one.lines other.lines same.1 p.lines.made q.lines.made in
    λ i. record { start = starts i; lines = lines i }

pub one_head_law : OneHead
one_head_law bytes one other n m a b =
    let same = one_head one other (drop n bytes) (drop m bytes) bytes a.spells.is b.spells.is (spelled_first one n bytes a) (spelled_first other m bytes b) in
    (same, used_is one n bytes a ∙ ap (λ (h : Head). length (head_text h)) same ∙ sym (used_is other m bytes b))

pub one_head_of_text_law : OneHeadOfText
one_head_of_text_law bytes one other a b =
    one_head one other [] [] bytes a.is b.is (a.text ∙ sym (append-nil (head_text one))) (b.text ∙ sym (append-nil (head_text other)))

pub no_head_in_prefix_law : NoHeadInPrefix
no_head_in_prefix_law one other n a b low e =
    let text = head_text other in
    let same = one_head one other (drop n text) [] text a b (sym (take-append-drop n text) ∙ ap (λ (x : List ℕ). x ++ drop n text) e) (sym (append-nil text)) in
    let size : n ≡ length (head_text one) = sym (length-take-le n text (omega (arith, low))) ∙ ap (length {A = ℕ}) e in
    omega (arith, low, size, ap (λ (h : Head). length (head_text h)) same)
