-- The line that is written for a size has that size.
use Rattle.std.proofs.Common.{◌==◌, ◌≡◌, ℕ, zero, suc, ◌+◌, ◌/◌, ◌%◌, ◌^◌, ◌≤◌, ◌<◌, Bool, true, false, cond, List, [], ◌∷◌, length, refl, sym, arith}
use Rattle.std.proofs.lemmas.Bool.{eqb-false}
use Rattle.std.proofs.lemmas.List.{append-nil}
use Rattle.std.proofs.lemmas.Fmt.{digits_is_IsNumeral}
use Rattle.std.specs.Char.{is_ascii_hexdigit}
use Rattle.std.specs.Fmt.{digits, digits_onto, digit_glyph}
use Rattle.std.specs.List.{list_all}
use Rattle.framing.specs.declared.chunk_limits.TheConstants.{MAX_CONTENT_BYTES}
use Rattle.framing.specs.Chunks.{IsChunkLine}
use Rattle.framing.proofs.LineLaws.{no_extension}

glyph_is : (d : ℕ) → d < 16 → is_ascii_hexdigit (digit_glyph false d) ≡ true
glyph_is zero h = refl
glyph_is (suc zero) h = refl
glyph_is (suc (suc zero)) h = refl
glyph_is (suc (suc (suc zero))) h = refl
glyph_is (suc (suc (suc (suc zero)))) h = refl
glyph_is (suc (suc (suc (suc (suc zero))))) h = refl
glyph_is (suc (suc (suc (suc (suc (suc zero)))))) h = refl
glyph_is (suc (suc (suc (suc (suc (suc (suc zero))))))) h = refl
glyph_is (suc (suc (suc (suc (suc (suc (suc (suc zero)))))))) h = refl
glyph_is (suc (suc (suc (suc (suc (suc (suc (suc (suc zero))))))))) h = refl
glyph_is (suc (suc (suc (suc (suc (suc (suc (suc (suc (suc zero)))))))))) h = refl
glyph_is (suc (suc (suc (suc (suc (suc (suc (suc (suc (suc (suc zero))))))))))) h = refl
glyph_is (suc (suc (suc (suc (suc (suc (suc (suc (suc (suc (suc (suc zero)))))))))))) h = refl
glyph_is (suc (suc (suc (suc (suc (suc (suc (suc (suc (suc (suc (suc (suc zero))))))))))))) h = refl
glyph_is (suc (suc (suc (suc (suc (suc (suc (suc (suc (suc (suc (suc (suc (suc zero)))))))))))))) h = refl
glyph_is (suc (suc (suc (suc (suc (suc (suc (suc (suc (suc (suc (suc (suc (suc (suc zero))))))))))))))) h = refl
glyph_is (suc (suc (suc (suc (suc (suc (suc (suc (suc (suc (suc (suc (suc (suc (suc (suc n)))))))))))))))) h = absurd (omega arith)

hex_onto : (k n : ℕ) (acc : List ℕ) → list_all is_ascii_hexdigit acc ≡ true → list_all is_ascii_hexdigit (digits_onto k 16 false n acc) ≡ true
hex_onto zero n acc h = h
hex_onto (suc k) n acc h =
    let more : list_all is_ascii_hexdigit (digit_glyph false (n % 16) ∷ acc) ≡ true = cc (glyph_is (n % 16) (omega arith), h) in
    either (n / 16 == 0) _ _ more (hex_onto k (n / 16) (digit_glyph false (n % 16) ∷ acc) more)
  where
    either : (b : Bool) (xs ys : List ℕ) → list_all is_ascii_hexdigit xs ≡ true → list_all is_ascii_hexdigit ys ≡ true → list_all is_ascii_hexdigit (cond b xs ys) ≡ true
    either true xs ys p q = p
    either false xs ys p q = q

few_onto : (k j n : ℕ) (acc : List ℕ) → n < 16 ^ suc j → length (digits_onto k 16 false n acc) ≤ suc j + length acc
few_onto zero j n acc h = omega arith
few_onto (suc k) j n acc h = either (n / 16 == 0) refl
    (λ i below. few_onto k i (n / 16) (digit_glyph false (n % 16) ∷ acc) below)
  where
    glyph : ℕ
    glyph = digit_glyph false (n % 16)

    Few : ℕ → Type 0
    Few i = length (digits_onto k 16 false (n / 16) (glyph ∷ acc)) ≤ suc i + length (glyph ∷ acc)

    next : (i : ℕ) → n < 16 ^ suc i → (n / 16 == 0) ≡ false → ((j : ℕ) → n / 16 < 16 ^ suc j → Few j) → length (digits_onto k 16 false (n / 16) (glyph ∷ acc)) ≤ suc i + length acc
    next zero below e few = absurd (omega (arith, eqb-false (n / 16) 0 e, below))
    next (suc i) below e few = omega (arith, few i (omega (arith, below)))

    either : (b : Bool) → (n / 16 == 0) ≡ b → ((j : ℕ) → n / 16 < 16 ^ suc j → Few j) → length (cond b (glyph ∷ acc) (digits_onto k 16 false (n / 16) (glyph ∷ acc))) ≤ suc j + length acc
    either true e few = omega arith
    either false e few = next j h e few

few_digits : (size : ℕ) → size < 16 ^ 6 → length (digits 16 false size) ≤ 6
unfolding digits
few_digits size h = omega (arith, few_onto 64 5 size [] h)

hex_digits : (size : ℕ) → list_all is_ascii_hexdigit (digits 16 false size) ≡ true
unfolding digits
hex_digits size = hex_onto 64 size [] refl

pub line_of_size : (size : ℕ) → size ≤ MAX_CONTENT_BYTES → IsChunkLine (digits 16 false size) size
line_of_size size h =
    let small : size < 16 ^ 6 = omega (arith, h) in
    let is = digits_is_IsNumeral 16 false (omega arith) (omega arith) size (omega (arith, small)) in
    record {
      digits = digits 16 false size;
      extension = [];
      joined = sym (append-nil (digits 16 false size));
      are_digits = record { same = refl; passes = hex_digits size; least = is.0.0; most = omega (arith, few_digits size small) };
      value = sym is.1;
      is_extension = no_extension;
    }
