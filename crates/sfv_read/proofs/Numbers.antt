-- A number that is read is one, and a number is read.
use Rattle.std.proofs.Common.{◌≡◌, ℕ, suc, ◌≤◌, ◌&&◌, Bool, true, false, not, cond, ltb, eqb, List, [], ◌∷◌, ◌++◌, length, Option, Some, None, Result, Ok, refl, sym, ap, subst, ◌∙◌, append_assoc, ℤ, arith}
use Rattle.std.proofs.lemmas.List.{length-append, append-nil}
use Rattle.std.proofs.lemmas.Bool.{ltb-false, ltb-true, eqb-true}
use Rattle.byte_grammar.specs.Language.{IsRun}
use Rattle.byte_grammar.specs.tools.Languages.{Then, Optional, Mapped}
use Rattle.byte_grammar.specs.Walk.{◌>>=◌, run_read}
use Rattle.byte_grammar.specs.Classes.{is_one_of, is_digit}
use Rattle.byte_grammar.specs.tools.Walks.{Next, optional_read}
use Rattle.sfv_read.specs.BareItem.{IsInteger, IsDecimal}
use Rattle.sfv_read.specs.tools.BareWalk.{number_of, part_read, fraction_read, number_read}
use Rattle.sfv_read.specs.Class.{is_minus, is_dot}
use Rattle.sfv_text.specs.declared.value.BareItem.{BareItem}
use Rattle.sfv_text.specs.declared.value.BareItem.TheVariants.{Integer, Decimal}
use Rattle.byte_grammar.proofs.Laws.{Meets, meets_then, not_err, ok_is, and_is, next_more, meets_same, meets_map, any_next}
use Rattle.byte_grammar.proofs.ChoiceLaws.{Starts, meets_optional, apart, starts_next, run_starts, optional_follow}
use Rattle.byte_grammar.proofs.LeafLaws.{meets_byte, meets_run}

-- what may follow a bare item or a key
abbrev pub ends : List ℕ
ends = 59 ∷ 61 ∷ 32 ∷ 9 ∷ 44 ∷ 41 ∷ []

abbrev pub End : {V : Type 0} → V → ℕ → Bool
End _ c = is_one_of ends c

-- a point and digits
record IsPart (text v : List ℕ) : Type 0 where
  joined : text ≡ 46 ∷ v
  digits : IsRun is_digit 1 3 v v

pub run_same : (P : ℕ → Bool) (lo hi : ℕ) (x v : List ℕ) → IsRun P lo hi x v → IsRun P lo hi v v
run_same P lo hi x v h = record { same = refl; passes = h.passes; least = h.least; most = h.most }

pub digit_next : (k : ℕ) → is_digit k ≡ false → (lo hi : ℕ) (x v r : List ℕ) → IsRun is_digit (suc lo) hi x v → Next (λ c. not (eqb c k)) (x ++ r)
digit_next k out lo hi x v r h = starts_next is_digit (λ c. not (eqb c k)) (apart is_digit k out) x r (run_starts is_digit lo hi x v h)

meets_part : Meets IsPart (λ _ c. not (is_digit c)) part_read
unfolding part_read
meets_part =
    meets_same (meets_then (meets_byte is_dot 46 refl (λ _ _. true)) (λ _. meets_run is_digit 1 3 48 (omega arith) refl)
    (λ x u h. (48 ∷ [], 48 ∷ [], record { same = refl; passes = refl; least = omega arith; most = omega arith }))
    (λ u y v r h after. any_next (y ++ r)))
    (λ x v t. record { joined = t.joined ∙ ap (λ (y : List ℕ). y ++ t.second) t.spells.same ∙ sharp t.value t.second v t.spells.passes t.more.same; digits = run_same is_digit 1 3 t.second v t.more })
    (λ x v p. record { first = 46 ∷ []; second = v; value = 46; joined = p.joined; spells = record { same = refl; passes = refl }; more = p.digits })
    (λ v c h. h)
  where
    sharp : (c : ℕ) (y v : List ℕ) → is_dot c ≡ true → y ≡ v → c ∷ y ≡ 46 ∷ v
    sharp c y v is e = cc (eqb-true c 46 is, e)

-- what may follow a number
after_number : {V : Type 0} → V → ℕ → Bool
after_number _ c = not (is_digit c) && not (is_dot c)

-- the part after the point, or none
IsFraction : ℕ → List ℕ → Option (List ℕ) → Type 0
IsFraction digits text None = text ≡ []
IsFraction digits text (Some part) = (digits ≤ 12) × IsPart text part

abbrev none_read : List ℕ → Result (Option (List ℕ) × List ℕ) ℕ
none_read bytes = Ok (None, bytes)

meets_fraction : (digits : ℕ) → Meets (IsFraction digits) after_number (fraction_read digits)
unfolding fraction_read IsFraction after_number
meets_fraction digits = go (ltb 12 digits) refl
  where
    opt : Meets (Optional IsPart) after_number (optional_read is_dot part_read)
    opt = meets_same (meets_optional is_dot meets_part (λ x v h. subst (λ (y : List ℕ). Starts is_dot y) (sym h.joined) refl)) (λ x o h. h) (λ x o h. h) sub
      where
        sub : (o : Option (List ℕ)) (c : ℕ) → (not (is_digit c) && not (is_dot c)) ≡ true → optional_follow is_dot (λ (_ : List ℕ) c. not (is_digit c)) o c ≡ true
        sub None c e = (and_is _ _ e).1
        sub (Some v) c e = (and_is _ _ e).0

    go : (b : Bool) → ltb 12 digits ≡ b → Meets (IsFraction digits) after_number (λ bytes. cond b (none_read bytes) (optional_read is_dot part_read bytes))
    go true e = record {
      ok = λ bytes o rest e.
          let pair : (None, bytes) ≡ (o, rest) = ok_is _ _ e in
          ([], ap (λ (a : Option (List ℕ) × List ℕ). a.1) pair, subst (λ (a : Option (List ℕ) × List ℕ). IsFraction digits [] a.0) pair refl);
      err = λ bytes n e. absurd (not_err _ _ e);
      only = only;
      far = far;
    }
      where
        only : (x r : List ℕ) (o : Option (List ℕ)) → IsFraction digits x o → Next (after_number o) r → none_read (x ++ r) ≡ Ok (o, r)
        only x r None h after = ap (λ (y : List ℕ). none_read (y ++ r)) h
        only x r (Some v) h after = absurd (omega (arith, ltb-true _ _ e, h.0))

        far : (x more r : List ℕ) (o : Option (List ℕ)) → IsFraction digits (x ++ more) o → length (x ++ r) ≤ length r
        far x more r None h = omega (arith, length-append x r, length-append x more, ap (λ (y : List ℕ). length y) h)
        far x more r (Some v) h = absurd (omega (arith, ltb-true _ _ e, h.0))
    go false e = meets_same opt to from (λ o c h. h)
      where
        to : (x : List ℕ) (o : Option (List ℕ)) → Optional IsPart x o → IsFraction digits x o
        to x None h = h
        to x (Some v) h = (ltb-false _ _ e, h)

        from : (x : List ℕ) (o : Option (List ℕ)) → IsFraction digits x o → Optional IsPart x o
        from x None h = h
        from x (Some v) h = h.1

-- ---- numbers

abbrev pub IsNumber : List ℕ → BareItem → Type 0
IsNumber text (Integer z) = IsInteger text z
IsNumber text (Decimal z) = IsDecimal text z
IsNumber text other = ⊥

IsFractional : (sign digits text : List ℕ) → BareItem → Type 0
IsFractional sign digits text v = Mapped (number_of sign digits) (IsFraction (length digits)) text v

fraction_next : (n : ℕ) (x : List ℕ) (o : Option (List ℕ)) (r : List ℕ) → IsFraction n x o → Next (after_number o) r → Next (λ c. not (is_digit c)) (x ++ r)
unfolding IsFraction after_number
fraction_next n x None r h after = subst (λ (y : List ℕ). Next (λ c. not (is_digit c)) (y ++ r)) (sym h) (next_more (λ c. not (is_digit c) && not (is_dot c)) (λ c. not (is_digit c)) (λ c e. (and_is _ _ e).0) r after)
fraction_next n x (Some v) r h after = subst (λ (y : List ℕ). Next (λ c. not (is_digit c)) (y ++ r)) (sym h.1.joined) refl

meets_digits : (sign : List ℕ) → Meets (Then (IsRun is_digit 1 15) (λ digits. IsFractional sign digits)) after_number (λ bytes. run_read is_digit 1 15 bytes >>= λ d. fraction_read (length d.0) d.1 >>= λ f. Ok (number_of sign d.0 f.0, f.1))
unfolding IsFractional IsFraction after_number
meets_digits sign =
    meets_then (meets_run is_digit 1 15 48 (omega arith) refl) (λ digits. meets_map (meets_fraction (length digits)) (number_of sign digits) (λ v c h. h))
    (λ x u h. ([], number_of sign u None, (None, none_is (length u), refl)))
    (λ u y v r h after. fraction_next (length u) y h.0 r h.1 after)
  where
    none_is : (n : ℕ) → IsFraction n [] None
    none_is n = refl

pub meets_number : Meets IsNumber (λ _ c. not (is_digit c) && not (is_dot c)) number_read
unfolding number_read IsFractional IsFraction after_number
meets_number =
    meets_same
    (meets_then (meets_run is_minus 0 1 45 (omega arith) refl) meets_digits
    (λ x u h. (48 ∷ [], number_of u (48 ∷ []) None, record { first = 48 ∷ []; second = []; value = 48 ∷ []; joined = refl; spells = record { same = refl; passes = refl; least = omega arith; most = omega arith }; more = (None, refl, refl) }))
    (λ u y v r h after. digit_start u y v r h))
    (λ x v t. to x t.first t.second t.value t.more.first t.more.second t.more.value t.joined t.spells t.more.joined t.more.spells t.more.more.0 v t.more.more.1 t.more.more.2)
    from
    (λ v c h. h)
  where
    digit_start : (sign y : List ℕ) (v : BareItem) (r : List ℕ) → Then (IsRun is_digit 1 15) (λ digits. IsFractional sign digits) y v → Next (λ c. not (is_minus c)) (y ++ r)
    digit_start sign y v r t = subst (λ (y : List ℕ). Next (λ c. not (is_minus c)) y) (ap (λ (y : List ℕ). y ++ r) (sym t.joined)) (subst (λ (y : List ℕ). Next (λ c. not (is_minus c)) y) (sym (append_assoc t.first t.second r)) (digit_next 45 refl 0 15 t.first t.value (t.second ++ r) t.spells))

    to : (x first second sign third fourth digits : List ℕ) → x ≡ first ++ second → IsRun is_minus 0 1 first sign → second ≡ third ++ fourth → IsRun is_digit 1 15 third digits
        → (o : Option (List ℕ)) (v : BareItem) → IsFraction (length digits) fourth o → number_of sign digits o ≡ v → IsNumber x v
    to x first second sign third fourth digits e m f d None v p is =
        subst (λ (v : BareItem). IsNumber x v) is (record {
          sign = sign;
          digits = digits;
          minus = run_same is_minus 0 1 first sign m;
          whole = run_same is_digit 1 15 third digits d;
          value = refl;
          joined = e ∙ cc (f, p, m.same, d.same, append-nil third);
        })
    to x first second sign third fourth digits e m f d (Some part) v p is =
        subst (λ (v : BareItem). IsNumber x v) is (record {
          sign = sign;
          digits = digits;
          part = part;
          minus = run_same is_minus 0 1 first sign m;
          fraction = p.1.digits;
          value = refl;
          whole = record { same = refl; passes = d.passes; least = d.least; most = p.0 };
          joined = cc (e, f, p.1.joined, m.same, d.same);
        })

    from : (x : List ℕ) (v : BareItem) → IsNumber x v → Then (IsRun is_minus 0 1) (λ sign. Then (IsRun is_digit 1 15) (λ digits. IsFractional sign digits)) x v
    from x (Integer z) h = record {
      first = h.sign;
      second = h.digits;
      value = h.sign;
      joined = h.joined;
      spells = h.minus;
      more = record { first = h.digits; second = []; value = h.digits; joined = sym (append-nil h.digits); spells = h.whole; more = (None, refl, ap (λ (z : ℤ). Integer z) (sym h.value)) };
    }
    from x (Decimal z) h = record {
      first = h.sign;
      second = h.digits ++ 46 ∷ h.part;
      value = h.sign;
      joined = h.joined;
      spells = h.minus;
      more = record {
        first = h.digits;
        second = 46 ∷ h.part;
        value = h.digits;
        joined = refl;
        spells = record { same = refl; passes = h.whole.passes; least = h.whole.least; most = omega (arith, h.whole.most) };
        more = (Some h.part, (h.whole.most, record { joined = refl; digits = h.fraction }), ap (λ (z : ℤ). Decimal z) (sym h.value));
      };
    }
    from x other h = absurd h
