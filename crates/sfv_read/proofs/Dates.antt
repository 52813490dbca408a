-- A Date that is read is one, and a Date is read.
use Rattle.std.proofs.Common.{ℕ, not, true, List, [], ◌∷◌, ◌++◌, ℤ, pos, refl, sym, ap, ◌∙◌, arith}
use Rattle.std.proofs.lemmas.Bool.{eqb-true}
use Rattle.std.specs.Str.Parse.{digits_value}
use Rattle.byte_grammar.specs.Classes.{is_digit}
use Rattle.byte_grammar.specs.Language.{IsRun}
use Rattle.byte_grammar.specs.tools.Languages.{Then, Mapped, IsByte}
use Rattle.byte_grammar.proofs.Laws.{Meets, meets_then, meets_same, meets_map, any_next}
use Rattle.byte_grammar.proofs.LeafLaws.{meets_byte, meets_run}
use Rattle.sfv_text.specs.declared.value.BareItem.{BareItem}
use Rattle.sfv_text.specs.declared.value.BareItem.TheVariants.{Date}
use Rattle.sfv_read.specs.BareItem.{with_sign, IsDate}
use Rattle.sfv_read.specs.Class.{is_at, is_minus}
use Rattle.sfv_read.specs.tools.BareWalk.{date_read}
use Rattle.sfv_read.proofs.Numbers.{digit_next, run_same}

-- digits after a sign
abbrev Digits : List ℕ → List ℕ → BareItem → Type 0
Digits sign x v = Mapped (λ digits. Date (with_sign sign (digits_value 10 digits))) (IsRun is_digit 1 15) x v

abbrev Signed : List ℕ → BareItem → Type 0
Signed x v = Then (IsRun is_minus 0 1) Digits x v

zero_run : IsRun is_digit 1 15 (48 ∷ []) (48 ∷ [])
zero_run = record { same = refl; passes = refl; least = omega arith; most = omega arith }

zero_digits : (sign : List ℕ) → Digits sign (48 ∷ []) (Date (with_sign sign 0))
zero_digits sign = (48 ∷ [], zero_run, refl)

meets_signed : Meets (Then (IsByte is_at) (λ _. Signed)) (λ _ c. not (is_digit c)) date_read
unfolding date_read
meets_signed =
    meets_then (meets_byte is_at 64 refl (λ _ _. true))
    (λ _. meets_then (meets_run is_minus 0 1 45 (omega arith) refl)
    (λ sign. meets_map {G = λ _ c. not (is_digit c)} (meets_run is_digit 1 15 48 (omega arith) refl) (λ digits. Date (with_sign sign (digits_value 10 digits))) (λ v c h. h))
    (λ x sign h. (48 ∷ [], Date (with_sign sign 0), zero_digits sign))
    (λ sign y v r h after. digit_next 45 refl 0 15 y h.0 r h.1))
    (λ x u h. (48 ∷ [], Date (pos 0), record { first = []; second = 48 ∷ []; value = []; joined = refl; spells = record { same = refl; passes = refl; least = omega arith; most = omega arith }; more = zero_digits [] }))
    (λ u y v r h after. any_next (y ++ r))

pub meets_date : Meets (Mapped (λ z. Date z) IsDate) (λ _ c. not (is_digit c)) date_read
meets_date = meets_same meets_signed to from (λ v c h. h)
  where
    to : (x : List ℕ) (v : BareItem) → Then (IsByte is_at) (λ _. Signed) x v → Mapped (λ z. Date z) IsDate x v
    to x v t =
        let s = t.more in
        let digits = s.more.0 in (
          with_sign s.value (digits_value 10 digits),
          record {
            number = s.value ++ digits;
            joined = cc (t.joined, t.spells.same, eqb-true t.value 64 t.spells.passes, s.joined, s.spells.same, s.more.1.same);
            is_number = record {
              sign = s.value;
              digits = digits;
              joined = refl;
              minus = run_same is_minus 0 1 s.first s.value s.spells;
              whole = run_same is_digit 1 15 s.second digits s.more.1;
              value = refl;
            };
          },
          s.more.2,
        )

    from : (x : List ℕ) (v : BareItem) → Mapped (λ z. Date z) IsDate x v → Then (IsByte is_at) (λ _. Signed) x v
    from x v h =
        let n = h.1.is_number in
        record {
          first = 64 ∷ [];
          second = h.1.number;
          value = 64;
          joined = h.1.joined;
          spells = record { same = refl; passes = refl };
          more = record {
            first = n.sign;
            second = n.digits;
            value = n.sign;
            joined = n.joined;
            spells = n.minus;
            more = (n.digits, n.whole, ap (λ (z : ℤ). Date z) (sym n.value) ∙ h.2);
          };
        }
