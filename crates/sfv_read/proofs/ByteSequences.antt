-- A byte sequence's letters that are read are such, and such are read.
use Rattle.std.proofs.Common.{◌≡◌, ℕ, zero, suc, ◌≤◌, ◌<◌, Bool, true, false, not, cond, eqb, List, [], ◌∷◌, ◌++◌, length, replicate, Option, Some, None, Result, Ok, Err, refl, sym, ap, subst, ◌∙◌, append_assoc, arith, inl, inr, ◌⊎◌}
use Rattle.std.specs.List.{list_all}
use Rattle.std.proofs.lemmas.Bool.{eqb-true}
use Rattle.std.proofs.lemmas.List.{append-nil, length-append}
use Rattle.std.proofs.lemmas.List.Folds.{list_all-append}
use Rattle.byte_grammar.specs.Language.{Begins, IsRun}
use Rattle.byte_grammar.specs.tools.Languages.{Then, Mapped, Optional, IsAll}
use Rattle.byte_grammar.specs.Walk.{◌>>=◌, all_read, run_read}
use Rattle.byte_grammar.specs.tools.Walks.{Next, optional_read}
use Rattle.sfv_read.specs.tools.BareWalk.{pads, are_whole, padding_of, padding_read, padding_end_read, padding_if_whole, bytes_of, letters_end_read, byte_sequence_read}
use Rattle.sfv_read.specs.Class.{is_base64, is_colon, is_equals}
use Rattle.byte_grammar.proofs.Laws.{Meets, Partly, partly, meets_then, meets_then_with, meets_same, meets_map, and_is, ok_is, not_err, bind_err, any_next}
use Rattle.byte_grammar.proofs.ChoiceLaws.{Starts, meets_optional, optional_follow, run_starts}
use Rattle.byte_grammar.proofs.LeafLaws.{meets_byte, meets_run, meets_all}

-- colons around letters, with all of the `=` that fill the last group or none, by the bytes that they spell
pub record IsOctets (text bytes : List ℕ) : Type 0 where
  pub letters : List ℕ
  pub filling : List ℕ
  pub joined : text ≡ 58 ∷ (letters ++ (filling ++ 58 ∷ []))
  pub base64 : list_all is_base64 letters ≡ true
  pub whole : are_whole letters ≡ true
  pub filled : (filling ≡ []) ⊎ (filling ≡ replicate (pads (length letters)) 61)
  pub same : bytes_of letters ≡ bytes

not_zero : (n : ℕ) → false ≡ eqb n 0 → 0 < n
not_zero zero e = absurd (cc e)
not_zero (suc n) e = omega arith

abbrev IsPads : ℕ → List ℕ → Type 0
IsPads n f = (f ≡ []) ⊎ (f ≡ replicate n 61)

abbrev IsFilling : ℕ → List ℕ → List ℕ → Type 0
IsFilling n x f = (x ≡ f) × IsPads n f

abbrev IsClose : ℕ → List ℕ → List ℕ → Type 0
IsClose n x f = (x ≡ f ++ 58 ∷ []) × IsPads n f

pads_are : (n : ℕ) (v : List ℕ) → list_all is_equals v ≡ true → length v ≡ n → v ≡ replicate n 61
pads_are zero [] all e = refl
pads_are zero (c ∷ v) all e = absurd (omega arith)
pads_are (suc n) [] all e = absurd (omega arith)
pads_are (suc n) (c ∷ v) all e =
    let both = and_is (is_equals c) (list_all is_equals v) all in
    let tail = pads_are n v both.1 (omega arith) in
    cc (eqb-true c 61 both.0, tail)

are_pads : (n : ℕ) → (list_all is_equals (replicate n 61) ≡ true) × (length {A = ℕ} (replicate n 61) ≡ n)
are_pads zero = (refl, refl)
are_pads (suc n) = let h = are_pads n in (h.0, ap suc h.1)

pads_begin : (n : ℕ) (x v : List ℕ) → 0 < n → IsRun is_equals n n x v → Starts is_equals x
pads_begin zero x v some h = absurd (omega arith)
pads_begin (suc n) x v some h = run_starts is_equals n (suc n) x v h

abbrev none_read : List ℕ → Result (List ℕ × List ℕ) ℕ
none_read bytes = Ok ([], bytes)

abbrev some_read : ℕ → List ℕ → Result (List ℕ × List ℕ) ℕ
some_read n bytes = optional_read is_equals (λ b. run_read is_equals n n b) bytes >>= λ o. Ok (padding_of o.0, o.1)

none_pads : (n : ℕ) (f : List ℕ) → n ≡ 0 → IsPads n f → f ≡ []
none_pads n f e (inl h) = h
none_pads n f e (inr h) = h ∙ ap (λ (n : ℕ). replicate n 61) e

meets_filling : (n : ℕ) → Meets (IsFilling n) (λ _ c. not (is_equals c)) (padding_read n)
unfolding padding_read
meets_filling n = go (eqb n 0) refl
  where
    only : n ≡ 0 → (x r f : List ℕ) → x ≡ f → IsPads n f → none_read (x ++ r) ≡ Ok (f, r)
    only is x r f e h = let empty = none_pads n f is h in cc

    far : n ≡ 0 → (x more r f : List ℕ) → x ++ more ≡ f → IsPads n f → length (x ++ r) ≤ length r
    far is x more r f e h = omega (arith, length-append x more, length-append x r, ap (λ (y : List ℕ). length y) (e ∙ none_pads n f is h))

    sub : (o : Option (List ℕ)) (c : ℕ) → not (is_equals c) ≡ true → optional_follow is_equals (λ (_ : List ℕ) c. not (is_equals c)) o c ≡ true
    sub None c h = h
    sub (Some v) c h = h

    to : (x f : List ℕ) → Mapped padding_of (Optional (IsRun is_equals n n)) x f → IsFilling n x f
    to x f (None, h, e) = (h ∙ e, inl (sym e))
    to x f (Some v, h, e) = (h.same ∙ e, inr (sym e ∙ pads_are n v h.passes (omega (arith, h.least, h.most))))

    from : 0 < n → (x f : List ℕ) → IsFilling n x f → Mapped padding_of (Optional (IsRun is_equals n n)) x f
    from some x f (e, inl h) = (None, e ∙ h, sym h)
    from some x f (e, inr h) =
        let k = are_pads n in
        (Some f, record { same = e; passes = ap (list_all is_equals) h ∙ k.0; least = omega (arith, k.1, ap (λ (y : List ℕ). length y) h); most = omega (arith, k.1, ap (λ (y : List ℕ). length y) h) }, refl)

    go : (b : Bool) → eqb n 0 ≡ b → Meets (IsFilling n) (λ _ c. not (is_equals c)) (λ bytes. cond b (none_read bytes) (some_read n bytes))
    go true zero_is = record {
      ok = λ bytes f rest e.
          let pair : ([], bytes) ≡ (f, rest) = ok_is _ _ e in
          ([], ap (λ (a : List ℕ × List ℕ). a.1) pair, (ap (λ (a : List ℕ × List ℕ). a.0) pair, inl (ap (λ (a : List ℕ × List ℕ). a.0) (sym pair))));
      err = λ bytes n e. absurd (not_err _ _ e);
      only = λ x r f h after. only (eqb-true n 0 zero_is) x r f h.0 h.1;
      far = λ x more r f h. far (eqb-true n 0 zero_is) x more r f h.0 h.1;
    }
    go false other =
        let some : 0 < n = not_zero n (sym other) in
        meets_same
        (meets_map (meets_optional is_equals (meets_run is_equals n n 61 (omega arith) refl) (λ x v h. pads_begin n x v some h)) padding_of sub)
        to (from some) (λ v c h. h)

meets_close : (n : ℕ) → Meets (IsClose n) (λ _ _. true) (padding_end_read n)
unfolding padding_end_read
meets_close n =
    meets_same
    (meets_then (meets_filling n) (λ f. meets_map {G = λ _ _. true} (meets_byte is_colon 58 refl (λ _ _. true)) (λ (_ : ℕ). f) (λ v c h. h))
    (λ x u h. (58 ∷ [], u, (58, record { same = refl; passes = refl }, refl)))
    (λ u y v r h after. subst (λ (y : List ℕ). Next (λ c. not (is_equals c)) (y ++ r)) (sym h.1.same) (ap (λ (c : ℕ). not (is_equals c)) (eqb-true h.0 58 h.1.passes))))
    (λ x f t.
    let same : t.value ≡ f = t.more.2 in
    (cc (t.joined, t.spells.0, t.more.1.same, eqb-true t.more.0 58 t.more.1.passes, same), subst (λ (f : List ℕ). IsPads n f) same t.spells.1))
    (λ x f h. record { first = f; second = 58 ∷ []; value = f; joined = h.0; spells = (refl, h.1); more = (58, record { same = refl; passes = refl }, refl) })
    (λ v c h. h)

-- ---- letters

-- letters that make the last group whole
fill : (letters : List ℕ) → (more : List ℕ) × (list_all is_base64 more ≡ true) × (are_whole (letters ++ more) ≡ true)
fill [] = ([], refl, refl)
fill (a ∷ []) = (65 ∷ 65 ∷ 65 ∷ [], refl, refl)
fill (a ∷ b ∷ []) = (65 ∷ 65 ∷ [], refl, refl)
fill (a ∷ b ∷ c ∷ []) = (65 ∷ [], refl, refl)
fill (a ∷ b ∷ c ∷ d ∷ rest) = fill rest

-- what ends these letters, which spell v
End : List ℕ → List ℕ → List ℕ → Type 0
End letters x v = (are_whole letters ≡ true) × ((f : List ℕ) × IsClose (pads (length letters)) x f) × (bytes_of letters ≡ v)

abbrev last_if : Bool → List ℕ → List ℕ → Result (List ℕ × List ℕ) ℕ
last_if b letters bytes = cond b (padding_end_read (pads (length letters)) bytes) (Err (length bytes)) >>= λ f. Ok (bytes_of letters, f.1)

partly_last : (letters : List ℕ) → Partly (End letters) (λ _ _. true) (letters_end_read letters)
unfolding padding_if_whole letters_end_read End
partly_last letters = go (are_whole letters) refl
  where
    go : (b : Bool) → are_whole letters ≡ b → Partly (End letters) (λ _ _. true) (last_if b letters)
    go false is = record {
      ok = λ bytes v rest e. absurd (cc (e));
      less = λ bytes. omega arith;
      only = λ x r v h after. absurd (cc (h.0, is));
      far = λ x more r v h. absurd (cc (h.0, is));
    }
    go true is = partly (meets_same (meets_map {G = λ _ _. true} (meets_close (pads (length letters))) (λ (_ : List ℕ). bytes_of letters) (λ v c h. h))
        (λ x v h. (is, (h.0, h.1), h.2)) (λ x v h. (h.1.0, h.1.1, h.2)) (λ v c h. h))

IsLetters : List ℕ → List ℕ → Type 0
IsLetters x v = Then (IsAll is_base64) End x v

complete : (x u : List ℕ) → IsAll is_base64 x u → Begins IsLetters x
unfolding IsLetters End
complete x u h =
    let f = fill u in (
      f.0 ++ 58 ∷ [],
      bytes_of (u ++ f.0),
      record {
        first = x ++ f.0;
        second = 58 ∷ [];
        value = u ++ f.0;
        joined = sym (append_assoc x f.0 (58 ∷ []));
        spells = record { same = ap (λ (y : List ℕ). y ++ f.0) h.same; passes = list_all-append is_base64 u f.0 ∙ rw (h.passes, f.1) refl };
        more = (f.2, ([], (refl, inl refl)), refl);
      },
    )

close_next : (n : ℕ) (x f r : List ℕ) → IsClose n x f → Next (λ c. not (is_base64 c)) (x ++ r)
close_next n x f r (e, inl h) = subst (λ (y : List ℕ). Next (λ c. not (is_base64 c)) (y ++ r)) (sym (e ∙ ap (λ (f : List ℕ). f ++ 58 ∷ []) h)) refl
close_next zero x f r (e, inr h) = subst (λ (y : List ℕ). Next (λ c. not (is_base64 c)) (y ++ r)) (sym (e ∙ ap (λ (f : List ℕ). f ++ 58 ∷ []) h)) refl
close_next (suc n) x f r (e, inr h) = subst (λ (y : List ℕ). Next (λ c. not (is_base64 c)) (y ++ r)) (sym (e ∙ ap (λ (f : List ℕ). f ++ 58 ∷ []) h)) refl

end_next : (u y v r : List ℕ) → End u y v → Next (λ c. not (is_base64 c)) (y ++ r)
unfolding End
end_next u y v r h = close_next (pads (length u)) y h.1.0 r h.1.1

-- where the end stops, letters could go on, or the filling and the colon
stopped : (x u : List ℕ) → IsAll is_base64 x u → (bytes : List ℕ) (k : ℕ) → letters_end_read u bytes ≡ Err k → (y rest : List ℕ) × (bytes ≡ y ++ rest) × (length rest ≡ k) × Begins IsLetters (x ++ y)
unfolding padding_if_whole letters_end_read IsLetters End
stopped x u h bytes k e = go (are_whole u) refl e
  where
    go : (b : Bool) → are_whole u ≡ b → last_if b u bytes ≡ Err k → (y rest : List ℕ) × (bytes ≡ y ++ rest) × (length rest ≡ k) × Begins (λ x v. Then (IsAll is_base64) End x v) (x ++ y)
    go false is e = ([], bytes, refl, cc, subst (λ (y : List ℕ). Begins (λ x v. Then (IsAll is_base64) End x v) y) (sym (append-nil x)) (complete x u h))
    go true is e =
        elim (bind_err (padding_end_read (pads (length u)) bytes) (λ f. Ok (bytes_of u, f.1)) k e) [
          | inl w ↦
              let t = (meets_close (pads (length u))).err bytes k w in
              (t.0, t.1, t.2, t.3, (t.4.0, bytes_of u, record { first = x; second = t.0 ++ t.4.0; value = u; joined = append_assoc x t.0 t.4.0; spells = h; more = (is, (t.4.1, t.4.2), refl) }))
          | inr b ↦ absurd (not_err _ _ b.2)
        ]

meets_letters : Meets IsLetters (λ _ _. true) (λ bytes. all_read is_base64 bytes >>= λ l. letters_end_read l.0 l.1)
unfolding IsLetters
meets_letters =
    meets_then_with (meets_all is_base64) partly_last
    (λ x b. let c = complete (x ++ b.0) b.1 b.2 in (b.0 ++ c.0, c.1, subst (λ (y : List ℕ). IsLetters y c.1) (append_assoc x b.0 c.0) c.2))
    stopped
    (λ u y v r h after. end_next u y v r h)

pub meets_octets : Meets IsOctets (λ _ _. true) byte_sequence_read
unfolding byte_sequence_read bytes_of IsLetters End
meets_octets =
    meets_same
    (meets_then (meets_byte is_colon 58 refl (λ _ _. true)) (λ _. meets_letters)
    (λ x u h. (58 ∷ [], [], record { first = []; second = 58 ∷ []; value = []; joined = refl; spells = record { same = refl; passes = refl }; more = (refl, ([], (refl, inl refl)), refl) }))
    (λ u y v r h after. any_next (y ++ r)))
    (λ x v t.
    let e = t.more.more in
    record {
      letters = t.more.value;
      filling = e.1.0;
      joined = cc (t.joined, t.spells.same, eqb-true t.value 58 t.spells.passes, t.more.joined, t.more.spells.same, e.1.1.0);
      base64 = t.more.spells.passes;
      whole = e.0;
      filled = e.1.1.1;
      same = e.2;
    })
    (λ x v h. record {
      first = 58 ∷ [];
      second = h.letters ++ (h.filling ++ 58 ∷ []);
      value = 58;
      joined = h.joined;
      spells = record { same = refl; passes = refl };
      more = record { first = h.letters; second = h.filling ++ 58 ∷ []; value = h.letters; joined = refl; spells = record { same = refl; passes = h.base64 }; more = (h.whole, (h.filling, (refl, h.filled)), h.same) };
    })
    (λ v c h. h)
