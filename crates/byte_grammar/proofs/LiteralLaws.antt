-- The reader of one text meets it.
use Rattle.std.proofs.Common.{cond, ltb, eqb, ◌==◌, ◌≡◌, ℕ, suc, ◌+◌, ◌-◌, ◌≤◌, Bool, true, false, List, [], ◌∷◌, ◌++◌, length, take, drop, Ok, Err, refl, ap, subst, ◌∙◌, arith, inl, inr}
use Rattle.std.proofs.lemmas.List.{length-append, take-append-drop, length-drop, drop_at, drop_all, take_all}
use Rattle.std.proofs.lemmas.List.Sums.{common_prefix_len-le}
use Rattle.std.proofs.lemmas.Bool.{cases_Bool, eqb-true, eq-eqb, ltb-false, le-ltb}
use Rattle.byte_grammar.specs.Language.{Begins}
use Rattle.byte_grammar.specs.tools.Walks.{left, Next}
use Rattle.byte_grammar.proofs.Laws.{Meets, the_ok, not_err, ok_is}
use Rattle.byte_grammar.specs.tools.CountedWalk.{common_length, literal_read}
use Rattle.byte_grammar.specs.tools.CountedTexts.{Anything, IsLiteral}

-- ---- how many bytes are the same

common_nil : (xs : List ℕ) → common_length xs [] ≡ 0
common_nil [] = refl
common_nil (x ∷ xs) = refl

-- where the bytes end no more are the same
pub common_ended : (text bytes : List ℕ) (n : ℕ) → length bytes ≤ n → common_length text bytes ≡ n + common_length (drop n text) (drop n bytes) → n ≡ common_length text bytes
common_ended text bytes n le e =
    omega (arith, e, ap (λ (y : List ℕ). common_length (drop n text) y) (drop_all n bytes le), common_nil (drop n text))

common_le : (text bytes : List ℕ) → (common_length text bytes ≤ length text) × (common_length text bytes ≤ length bytes)
common_le text bytes = common_prefix_len-le (λ (a b : ℕ). a == b) text bytes

same_more : (b c n : ℕ) (text bytes : List ℕ) → c ≡ b → bytes ≡ take n text ++ drop n bytes → b ∷ bytes ≡ take (1 + n) (c ∷ text) ++ drop (1 + n) (b ∷ bytes)
same_more b c n text bytes is e =
    let next : suc n ≡ 1 + n = omega arith in
    let more : b ∷ bytes ≡ c ∷ (take n text ++ drop n bytes) = cc (is, e) in
    subst (λ (k : ℕ). b ∷ bytes ≡ take k (c ∷ text) ++ drop k (b ∷ bytes)) next more

-- what is the same comes first
same_front : (text bytes : List ℕ) → bytes ≡ take (common_length text bytes) text ++ drop (common_length text bytes) bytes
same_front [] bytes = refl
same_front (c ∷ text) [] = refl
same_front (c ∷ text) (b ∷ bytes) = elim (cases_Bool (eqb c b)) [
  | inl is ↦ rw is (same_more b c (common_length text bytes) text bytes (eqb-true c b is) (same_front text bytes))
  | inr other ↦ rw other refl
]

common_whole : (text r : List ℕ) → common_length text (text ++ r) ≡ length text
common_whole [] r = refl
common_whole (c ∷ text) r = rw (eq-eqb c c refl) (omega (arith, common_whole text r))

-- what both begin with is the same
common_front : (x more r : List ℕ) → length x ≤ common_length (x ++ more) (x ++ r)
common_front [] more r = omega arith
common_front (c ∷ x) more r = rw (eq-eqb c c refl) (omega (arith, common_front x more r))

-- ---- the reader

pub meets_literal : (text : List ℕ) → Meets (IsLiteral text) Anything (literal_read text)
unfolding literal_read
meets_literal text = record {
  ok = λ bytes v rest e. ok (ltb (common_length text bytes) (length text)) bytes v rest refl e;
  err = λ bytes n e. err (ltb (common_length text bytes) (length text)) bytes n refl e;
  only = only;
  far = λ x more r v h. far (ltb (common_length text (x ++ r)) (length text)) x more r refl h.0;
}
  where
    ok : (b : Bool) (bytes v rest : List ℕ) → ltb (common_length text bytes) (length text) ≡ b → cond b (Err (length bytes - common_length text bytes)) (the_ok {A = List ℕ × List ℕ} (text, drop (length text) bytes)) ≡ Ok (v, rest) → (x : List ℕ) × (bytes ≡ x ++ rest) × IsLiteral text x v
    ok true bytes v rest is e = absurd cc
    ok false bytes v rest is e =
        let long : length text ≤ common_length text bytes = ltb-false _ _ is in
        let all : common_length text bytes ≡ length text = omega (arith, long, (common_le text bytes).0) in
        let parts : bytes ≡ take (length text) text ++ drop (length text) bytes = subst (λ (n : ℕ). bytes ≡ take n text ++ drop n bytes) all (same_front text bytes) in
        let whole : take (length text) text ≡ text = take_all (length text) text (omega arith) in
        let pair : (text, drop (length text) bytes) ≡ (v, rest) = ok_is _ _ e in
        (text, parts ∙ ap (λ (y : List ℕ). y ++ drop (length text) bytes) whole ∙ ap (λ (a : List ℕ × List ℕ). text ++ a.1) pair, (refl, ap (λ (a : List ℕ × List ℕ). a.0) pair))

    err : (b : Bool) (bytes : List ℕ) (n : ℕ) → ltb (common_length text bytes) (length text) ≡ b → cond b (Err (length bytes - common_length text bytes)) (the_ok {A = List ℕ × List ℕ} (text, drop (length text) bytes)) ≡ Err n → (x rest : List ℕ) × (bytes ≡ x ++ rest) × (length rest ≡ n) × Begins (IsLiteral text) x
    err true bytes n is e =
        let k = common_length text bytes in
        let count : length bytes - k ≡ n = cc in
        (take k text, drop k bytes, same_front text bytes, omega (arith, count, length-drop k bytes, (common_le text bytes).1), (drop k text, text, (take-append-drop k text, refl)))
    err false bytes n is e = absurd (not_err _ _ e)

    only : (x r v : List ℕ) → IsLiteral text x v → Next (Anything v) r → literal_read text (x ++ r) ≡ Ok (v, r)
    only x r v h after =
        ap (λ (y : List ℕ). literal_read text (y ++ r)) h.0
        ∙ ap (λ (b : Bool). cond b (Err (length (text ++ r) - common_length text (text ++ r))) (the_ok {A = List ℕ × List ℕ} (text, drop (length text) (text ++ r)))) (le-ltb (common_length text (text ++ r)) (length text) (omega (arith, common_whole text r)))
        ∙ ap (λ (a : List ℕ × List ℕ). the_ok a) (λ i. (h.1 i, drop_at text r (length text) refl i))

    far : (b : Bool) (x more r : List ℕ) → ltb (common_length text (x ++ r)) (length text) ≡ b → x ++ more ≡ text → left (cond b (Err (length (x ++ r) - common_length text (x ++ r))) (the_ok {A = List ℕ × List ℕ} (text, drop (length text) (x ++ r)))) ≤ length r
    far true x more r is h = omega (arith, length-append x r, subst (λ (y : List ℕ). length x ≤ common_length y (x ++ r)) h (common_front x more r))
    far false x more r is h = omega (arith, length-drop (length text) (x ++ r), length-append x r, length-append x more, ap (λ (y : List ℕ). length y) h)
