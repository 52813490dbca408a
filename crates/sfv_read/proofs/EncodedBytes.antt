-- Bytes that are read as `%` and two hexadecimal digits, and the characters that they make.
use Rattle.std.proofs.Common.{◌≡◌, ℕ, zero, suc, ◌+◌, ◌*◌, ◌/◌, ◌%◌, ◌<◌, true, List, [], ◌∷◌, ◌++◌, refl, sym, ap, subst, ◌∙◌, arith}
use Rattle.std.specs.Char.{digit_char}
use Rattle.std.specs.Str.{continuation_len}
use Rattle.std.specs.Str.Lossy.{second_byte_min}
use Rattle.std.proofs.lemmas.Bool.{eqb-true}
use Rattle.std.proofs.lemmas.Bool.Decides.{nat_tests}
use Rattle.byte_grammar.specs.tools.Languages.{Then, Mapped, IsByte}
use Rattle.byte_grammar.proofs.Laws.{Meets, meets_then, meets_same, meets_map, meets_done, and_is, any_next}
use Rattle.byte_grammar.proofs.LeafLaws.{meets_byte}
use Rattle.sfv_text.specs.Strict.{encoded_byte}
use Rattle.sfv_read.specs.Class.{is_percent}
use Rattle.sfv_read.specs.declared.display_string.HexDigits.{HexDigits}
use Rattle.sfv_read.specs.declared.display_string.HexDigits.TheVariants.{Lead}
use Rattle.sfv_read.specs.tools.DisplayWalk.{is_hex, hex_value, has_value, hex_members, is_between, after_lead, after_first, any_digit, continuation, hex_read, encoded_read, continuations_read, encoded_character_read}

-- ---- hexadecimal digits

hex_below : (c : ℕ) → is_hex c ≡ true → hex_value c < 16
hex_below c is = grind (arith, nat_tests)

hex_back : (c : ℕ) → is_hex c ≡ true → digit_char (hex_value c) ≡ c
hex_back c is = grind (arith, nat_tests)

hex_is : (v : ℕ) → v < 16 → is_hex (digit_char v) ≡ true
hex_is v lt = grind (arith, nat_tests)

hex_of : (v : ℕ) → v < 16 → hex_value (digit_char v) ≡ v
hex_of v lt = grind (arith, nat_tests)

-- the value is one of a digit of these
abbrev pub IsValue : HexDigits → ℕ → Type 0
IsValue digits v = (v < 16) × (has_value digits v ≡ true)

-- there is one of these digits
abbrev pub HasDigit : HexDigits → Type 0
HasDigit digits = (v : ℕ) × IsValue digits v

abbrev IsHex : HexDigits → List ℕ → ℕ → Type 0
IsHex digits x v = (x ≡ digit_char v ∷ []) × IsValue digits v

hex_passes : (digits : HexDigits) (v : ℕ) → IsValue digits v → hex_members digits (digit_char v) ≡ true
hex_passes digits v is = rw (hex_is v is.0, hex_of v is.0, is.1) refl

meets_hex : (digits : HexDigits) → HasDigit digits → Meets (IsHex digits) (λ _ _. true) (hex_read digits)
unfolding hex_read
meets_hex digits some =
    meets_same (meets_map {G = λ _ _. true} (meets_byte (hex_members digits) (digit_char some.0) (hex_passes digits some.0 some.1) (λ _ _. true)) hex_value (λ v c h. refl))
    to from (λ v c h. h)
  where
    to : (x : List ℕ) (v : ℕ) → Mapped hex_value (IsByte (hex_members digits)) x v → IsHex digits x v
    to x v h =
        let both = and_is (is_hex h.0) (has_value digits (hex_value h.0)) h.1.passes in
        subst (λ (v : ℕ). IsHex digits x v) h.2 (h.1.same ∙ ap (λ (c : ℕ). c ∷ []) (sym (hex_back h.0 both.0)), (hex_below h.0 both.0, both.1))

    from : (x : List ℕ) (v : ℕ) → IsHex digits x v → Mapped hex_value (IsByte (hex_members digits)) x v
    from x v h = (digit_char v, record { same = h.0; passes = hex_passes digits v h.1 }, hex_of v h.1.0)

-- ---- bytes

abbrev pub IsEncoded : HexDigits → (ℕ → HexDigits) → List ℕ → ℕ → Type 0
IsEncoded firsts seconds x b = (x ≡ encoded_byte b) × (b < 256) × (has_value firsts (b / 16) ≡ true) × (has_value (seconds (b / 16)) (b % 16) ≡ true)

module _ (firsts : HexDigits) (seconds : ℕ → HexDigits) where
  abbrev Low : ℕ → List ℕ → ℕ → Type 0
  Low h x b = Mapped (λ (l : ℕ). h * 16 + l) (IsHex (seconds h)) x b

  abbrev High : List ℕ → ℕ → Type 0
  High x b = Then (IsHex firsts) Low x b

  low_some : ((h : ℕ) → HasDigit (seconds h)) → (h : ℕ) → (x : List ℕ) × (b : ℕ) × Low h x b
  low_some others h = let l = others h in (digit_char l.0 ∷ [], h * 16 + l.0, (l.0, (refl, l.1), refl))

  pub meets_encoded : HasDigit firsts → ((h : ℕ) → HasDigit (seconds h)) → Meets (IsEncoded firsts seconds) (λ _ _. true) (encoded_read firsts seconds)
  unfolding encoded_read
  meets_encoded some others =
      meets_same
      (meets_then (meets_byte is_percent 37 refl (λ _ _. true))
      (λ _. meets_then (meets_hex firsts some) (λ h. meets_map {G = λ _ _. true} (meets_hex (seconds h) (others h)) (λ (l : ℕ). h * 16 + l) (λ v c e. refl))
      (λ x h is. low_some others h) (λ h y v r is after. any_next (y ++ r)))
      (λ x u is.
      let l = low_some others some.0 in
      (digit_char some.0 ∷ l.0, l.1, record { first = digit_char some.0 ∷ []; second = l.0; value = some.0; joined = refl; spells = (refl, some.1); more = l.2 }))
      (λ u y v r is after. any_next (y ++ r)))
      to from (λ v c h. h)
    where
      parts : (h l b : ℕ) → l < 16 → h * 16 + l ≡ b → (b / 16 ≡ h) × (b % 16 ≡ l)
      parts h l b lt e = (omega arith, omega arith)

      to : (x : List ℕ) (b : ℕ) → Then (IsByte is_percent) (λ _. High) x b → IsEncoded firsts seconds x b
      to x b t =
          let u = t.more in
          let l = u.more.0 in
          let low = u.more.1 in
          let p = parts u.value l b low.1.0 u.more.2 in
          let text : x ≡ 37 ∷ digit_char u.value ∷ digit_char l ∷ [] = cc (t.joined, t.spells.same, eqb-true t.value 37 t.spells.passes, u.joined, u.spells.0, low.0) in
          let small : b < 256 = omega (arith, u.spells.1.0, low.1.0, u.more.2) in
          (text ∙ (λ i. 37 ∷ digit_char (sym p.0 i) ∷ digit_char (sym p.1 i) ∷ []), small, ap (has_value firsts) p.0 ∙ u.spells.1.1, (λ i. has_value (seconds (p.0 i)) (p.1 i)) ∙ low.1.1)

      from : (x : List ℕ) (b : ℕ) → IsEncoded firsts seconds x b → Then (IsByte is_percent) (λ _. High) x b
      from x b h = record {
        first = 37 ∷ [];
        second = digit_char (b / 16) ∷ digit_char (b % 16) ∷ [];
        value = 37;
        joined = h.0;
        spells = record { same = refl; passes = refl };
        more = record {
          first = digit_char (b / 16) ∷ [];
          second = digit_char (b % 16) ∷ [];
          value = b / 16;
          joined = refl;
          spells = (refl, (omega (arith, h.1), h.2));
          more = (b % 16, (refl, (omega arith, h.3)), omega arith);
        };
      }

-- ---- bytes that go on with a character

abbrev pub IsContinuations : ℕ → HexDigits → List ℕ → List ℕ → Type 0
IsContinuations zero firsts x cs = (x ≡ []) × ([] ≡ cs)
IsContinuations (suc n) firsts x cs = Then (IsEncoded firsts any_digit) (λ c. Mapped (λ (ds : List ℕ). c ∷ ds) (IsContinuations n continuation)) x cs

first_some : (firsts : HexDigits) → HasDigit firsts → (x : List ℕ) × (b : ℕ) × IsEncoded firsts any_digit x b
first_some firsts some =
    let b : ℕ = some.0 * 16 in
    let high : b / 16 ≡ some.0 = omega arith in
    let low : b % 16 ≡ 0 = omega arith in
    let small : b < 256 = omega (arith, some.1.0) in
    (encoded_byte b, b, (refl, small, ap (has_value firsts) high ∙ some.1.1, ap (is_between 0 15) low))

pub continuations_some : (n : ℕ) (firsts : HexDigits) → HasDigit firsts → (x : List ℕ) × (cs : List ℕ) × IsContinuations n firsts x cs
continuations_some zero firsts some = ([], [], (refl, refl))
continuations_some (suc n) firsts some =
    let b = first_some firsts some in
    let r = continuations_some n continuation (8, (omega arith, refl)) in
    (b.0 ++ r.0, b.1 ∷ r.1, record { first = b.0; second = r.0; value = b.1; joined = refl; spells = b.2; more = (r.1, r.2, refl) })

pub meets_continuations : (n : ℕ) (firsts : HexDigits) → HasDigit firsts → Meets (IsContinuations n firsts) (λ _ _. true) (λ bytes. continuations_read n firsts bytes)
unfolding continuations_read
meets_continuations zero firsts some = meets_done [] (λ _ _. true)
meets_continuations (suc n) firsts some =
    meets_then (meets_encoded firsts any_digit some (λ h. (0, (omega arith, refl))))
    (λ c. meets_map {G = λ _ _. true} (meets_continuations n continuation (8, (omega arith, refl))) (λ (ds : List ℕ). c ∷ ds) (λ v d h. refl))
    (λ x c h.
    let r = continuations_some n continuation (8, (omega arith, refl)) in
    (r.0, c ∷ r.1, (r.1, r.2, refl)))
    (λ c y v r h after. any_next (y ++ r))

-- ---- characters

abbrev pub IsCharacter : List ℕ → List ℕ → Type 0
IsCharacter x s = Then (IsEncoded Lead after_lead) (λ b. Mapped (λ (cs : List ℕ). b ∷ cs) (IsContinuations (continuation_len b) (after_first b))) x s

after_lead_some : (v : ℕ) → HasDigit (after_lead v)
after_lead_some v = (2, (omega arith, grind (arith, nat_tests)))

after_first_some : (b : ℕ) → HasDigit (after_first b)
after_first_some b = (second_byte_min b / 16, (grind (arith, nat_tests), grind (arith, nat_tests)))

pub meets_character : Meets IsCharacter (λ _ _. true) encoded_character_read
unfolding encoded_character_read
meets_character =
    meets_then (meets_encoded Lead after_lead (0, (omega arith, refl)) after_lead_some)
    (λ b. meets_map {G = λ _ _. true} (meets_continuations (continuation_len b) (after_first b) (after_first_some b)) (λ (cs : List ℕ). b ∷ cs) (λ v d h. refl))
    (λ x b h.
    let r = continuations_some (continuation_len b) (after_first b) (after_first_some b) in
    (r.0, b ∷ r.1, (r.1, r.2, refl)))
    (λ b y v r h after. any_next (y ++ r))
