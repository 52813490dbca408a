-- The first bytes of a name in lower case, as a number.
use Rattle.std.proofs.Common.{◌≡◌, ℕ, zero, suc, ◌+◌, ◌-◌, ◌<◌, List, [], ◌∷◌, ◌++◌, drop, sym, ◌∙◌, ap, arith, refl, subst}
use Rattle.std.specs.Prelude.{slice_index, replicate}
use Rattle.std.specs.List.{All, slice_range}
use Rattle.std.specs.Char.{to_ascii_lowercase}
use Rattle.std.specs.Str.{str_to_ascii_lowercase}
use Rattle.std.proofs.lemmas.Bool.Decides.{nat_tests}
use Rattle.std.proofs.lemmas.List.{get_or-drop}
use Rattle.std.proofs.lemmas.List.Elements.{All-from_get_or, All-take, All-drop}
use Rattle.line_index.specs.tools.Index.{first_bytes}

-- each is a byte
abbrev pub AreBytes : List ℕ → Type 0
AreBytes text = (k : ℕ) → slice_index text k < 256

lowered_byte : (c : ℕ) → c < 256 → to_ascii_lowercase c < 256
lowered_byte c less = grind (arith, nat_tests)

at_each : (text : List ℕ) → All (λ c. c < 256) text → AreBytes text
at_each [] all k = omega arith
at_each (c ∷ text) all zero = all 0 0 (omega arith)
at_each (c ∷ text) all (suc k) = at_each text (λ j d less. all (suc j) d (omega (arith, less))) k

lowered_at : (text : List ℕ) (k : ℕ) → slice_index (str_to_ascii_lowercase text) k ≡ to_ascii_lowercase (slice_index text k)
lowered_at [] k = refl
lowered_at (c ∷ text) zero = refl
lowered_at (c ∷ text) (suc k) = lowered_at text k

-- bytes in lower case are bytes
pub lowered_bytes : (text : List ℕ) → AreBytes text → AreBytes (str_to_ascii_lowercase text)
lowered_bytes text are k = subst (λ c. c < 256) (sym (lowered_at text k)) (lowered_byte (slice_index text k) (are k))

-- and so are those of a part
pub lowered_part : (bytes : List ℕ) (begin end : ℕ) → AreBytes bytes → AreBytes (str_to_ascii_lowercase (slice_range bytes begin end))
lowered_part bytes begin end are =
    let P : ℕ → Type 0 = λ c. c < 256 in
    let part = All-take P (end - begin) (drop begin bytes) (All-drop P begin bytes (All-from_get_or P bytes 0 (λ k less. are k))) in
    lowered_bytes (slice_range bytes begin end) (at_each (slice_range bytes begin end) part)

-- texts with the same first sixteen bytes have the same number
pub same_number : (one other : List ℕ) → ((k : ℕ) → k < 16 → slice_index one k ≡ slice_index other k) → first_bytes one ≡ first_bytes other
same_number one other at =
    rw (at 0 (omega arith), at 1 (omega arith), at 2 (omega arith), at 3 (omega arith), at 4 (omega arith), at 5 (omega arith), at 6 (omega arith), at 7 (omega arith), at 8 (omega arith), at 9 (omega arith), at 10 (omega arith), at 11 (omega arith), at 12 (omega arith), at 13 (omega arith), at 14 (omega arith), at 15 (omega arith)) refl

-- and so have they in lower case
pub same_first : (one other : List ℕ) → ((k : ℕ) → k < 16 → slice_index one k ≡ slice_index other k) → first_bytes (str_to_ascii_lowercase one) ≡ first_bytes (str_to_ascii_lowercase other)
same_first one other same =
    same_number (str_to_ascii_lowercase one) (str_to_ascii_lowercase other)
    (λ k less. lowered_at one k ∙ ap to_ascii_lowercase (same k less) ∙ sym (lowered_at other k))

-- zeros after a text are as good as its end
pub zeros_after : (text zeros : List ℕ) → ((k : ℕ) → slice_index zeros k ≡ 0) → (k : ℕ) → slice_index (text ++ zeros) k ≡ slice_index text k
zeros_after [] zeros none k = none k
zeros_after (c ∷ text) zeros none zero = refl
zeros_after (c ∷ text) zeros none (suc k) = zeros_after text zeros none k

zero_at : (n k : ℕ) → slice_index (replicate n 0) k ≡ 0
zero_at zero k = refl
zero_at (suc n) zero = refl
zero_at (suc n) (suc k) = zero_at n k

pub zeros_rest : (n k : ℕ) → slice_index (drop n (replicate 16 0)) k ≡ 0
zeros_rest n k = get_or-drop n (replicate 16 0) k 0 ∙ zero_at 16 (n + k)
