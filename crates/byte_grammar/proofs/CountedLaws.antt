-- The readers of bytes that a number counts meet their texts.
use Rattle.std.proofs.Common.{cond, ltb, ◌≡◌, ℕ, ◌-◌, ◌≤◌, ◌<◌, Bool, true, false, List, [], ◌++◌, length, take, drop, replicate, Ok, Err, refl, sym, ap, ◌∙◌, arith, codes}
use Rattle.std.proofs.lemmas.List.{append-nil, length-append, length-replicate, take-append-drop, length-take, length-drop, take_at, drop_at}
use Rattle.std.proofs.lemmas.Bool.{eqb-true, ltb-false, ltb-true, le-ltb}
use Rattle.byte_grammar.specs.Language.{Begins}
use Rattle.byte_grammar.specs.Walk.{cut_at}
use Rattle.byte_grammar.specs.tools.CountedTexts.{Anything, IsBytes, IsCounted}
use Rattle.byte_grammar.specs.tools.CountedWalk.{is_end, bytes_read, counted_read}
use Rattle.byte_grammar.specs.tools.Languages.{Then, Mapped, IsByte}
use Rattle.byte_grammar.specs.tools.Walks.{left, Next}
use Rattle.byte_grammar.proofs.Laws.{Meets, meets_then, meets_map, meets_same, any_next, ok_is, not_err}
use Rattle.byte_grammar.proofs.LeafLaws.{meets_byte}

pub meets_bytes : (size : ℕ) → Meets (IsBytes size) Anything (bytes_read size)
unfolding bytes_read
meets_bytes size = record { ok = λ bytes v rest e. ok (ltb (length bytes) size) bytes v rest refl e; err = λ bytes n e. err (ltb (length bytes) size) bytes n refl e; only = only; far = λ x more r v h. far (ltb (length (x ++ r)) size) x more r v refl h }
  where
    ok : (b : Bool) (bytes v rest : List ℕ) → ltb (length bytes) size ≡ b → cond b (Err 0) (cut_at size bytes) ≡ Ok (v, rest) → (x : List ℕ) × (bytes ≡ x ++ rest) × IsBytes size x v
    ok true bytes v rest is e = absurd cc
    ok false bytes v rest is e =
        let long : size ≤ length bytes = ltb-false _ _ is in
        let count : length (take size bytes) ≡ size = omega (arith, long, length-take size bytes) in
        let pair : (take size bytes, drop size bytes) ≡ (v, rest) = ok_is _ _ e in
        let first : take size bytes ≡ v = ap (λ (a : List ℕ × List ℕ). a.0) pair in (
          take size bytes,
          sym (take-append-drop size bytes) ∙ ap (λ (a : List ℕ × List ℕ). take size bytes ++ a.1) pair,
          (first, ap (λ (y : List ℕ). length y) (sym first) ∙ count),
        )

    err : (b : Bool) (bytes : List ℕ) (n : ℕ) → ltb (length bytes) size ≡ b → cond b (Err 0) (cut_at size bytes) ≡ Err n → (x rest : List ℕ) × (bytes ≡ x ++ rest) × (length rest ≡ n) × Begins (IsBytes size) x
    err true bytes n is e =
        let short : length bytes < size = ltb-true _ _ is in
        let none : 0 ≡ n = cc in
        let more : List ℕ = replicate (size - length bytes) 0 in
        let count : length more ≡ size - length bytes = length-replicate {A = ℕ} (size - length bytes) 0 in
        (bytes, [], sym (append-nil bytes), none, (more, bytes ++ more, (refl, omega (arith, length-append bytes more, count, short))))
    err false bytes n is e = absurd (not_err _ _ e)

    only : (x r v : List ℕ) → IsBytes size x v → Next (Anything v) r → bytes_read size (x ++ r) ≡ Ok (v, r)
    only x r v h after =
        ap (λ (y : List ℕ). bytes_read size (y ++ r)) h.0
        ∙ ap (λ (b : Bool). cond b (Err 0) (cut_at size (v ++ r))) (le-ltb (length (v ++ r)) size (omega (arith, h.1, length-append v r)))
        ∙ ap (λ (a : List ℕ × List ℕ). Ok a) (λ i. (take_at v r size h.1 i, drop_at v r size h.1 i))

    far : (b : Bool) (x more r v : List ℕ) → ltb (length (x ++ r)) size ≡ b → IsBytes size (x ++ more) v → left (cond b (Err 0) (cut_at size (x ++ r))) ≤ length r
    far true x more r v is h = omega arith
    far false x more r v is h = omega (arith, length-drop size (x ++ r), length-append x r, length-append x more, ap (λ (y : List ℕ). length y) h.0, h.1)

pub meets_counted : (size : ℕ) → Meets (IsCounted size) Anything (counted_read size)
unfolding counted_read
meets_counted size =
    meets_same
    (meets_then (meets_bytes size) (λ d. meets_map {G = Anything} (meets_byte (is_end 10) 10 refl (λ _ _. true)) (λ (_ : ℕ). d) (λ v c h. refl))
    (λ x d h. (codes "\n", d, (10, record { same = refl; passes = refl }, refl)))
    (λ u y v r h after. any_next (y ++ r)))
    to from (λ v c h. refl)
  where
    to : (x v : List ℕ) → Then (IsBytes size) (λ d. Mapped (λ (_ : ℕ). d) (IsByte (is_end 10))) x v → IsCounted size x v
    to x v t =
        let lf : t.more.0 ≡ 10 = eqb-true _ _ t.more.1.passes in
        (cc (t.joined, t.spells.0, t.more.1.same, lf, t.more.2), ap (λ (y : List ℕ). length y) (sym t.more.2) ∙ t.spells.1)

    from : (x v : List ℕ) → IsCounted size x v → Then (IsBytes size) (λ d. Mapped (λ (_ : ℕ). d) (IsByte (is_end 10))) x v
    from x v h = record { first = v; second = codes "\n"; value = v; joined = h.0; spells = (refl, h.1); more = (10, record { same = refl; passes = refl }, refl) }
