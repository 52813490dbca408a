-- A text of two parts, and the bytes that begin with it.
use Rattle.std.proofs.Common.{◌≡◌, ℕ, ◌+◌, ◌≤◌, List, ◌++◌, length, take, drop, sym, ap, ◌∙◌, arith, length-append}
use Rattle.std.proofs.lemmas.List.{take-take, drop-take, length-take-le, length-drop}
use Rattle.std.proofs.Math.Seq.{take-append_seam, drop-append_seam, take-add}

-- both parts are where they are looked for
pub record ArePartsOf (bytes first second : List ℕ) (used : ℕ) : Type 0 where
  pub rest : ℕ
  pub used_is : used ≡ length first + rest
  pub within : length first ≤ length bytes
  pub first_is : take (length first) bytes ≡ first
  pub rest_within : rest ≤ length (drop (length first) bytes)
  pub second_is : take rest (drop (length first) bytes) ≡ second

pub parted : (bytes first second : List ℕ) (used : ℕ) → used ≤ length bytes → take used bytes ≡ first ++ second → ArePartsOf bytes first second used
parted bytes first second used within text =
    let sized : used ≡ length first + length second = sym (length-take-le used bytes within) ∙ ap (length {A = ℕ}) text ∙ length-append first second in
    let low : length first ≤ used = omega (arith, sized) in
    record {
      rest = length second;
      used_is = sized;
      within = omega (arith, low, within);
      first_is = sym (take-take (length first) used bytes low) ∙ ap (take (length first)) text ∙ take-append_seam first second;
      rest_within = omega (arith, length-drop (length first) bytes, sized, within);
      second_is = sym (drop-take (length first) (length second) bytes) ∙ ap (λ n. drop (length first) (take n bytes)) (sym sized) ∙ ap (drop (length first)) text ∙ drop-append_seam first second;
    }

-- and in this way they join
pub joined : (bytes first second : List ℕ) (n m : ℕ) → take n bytes ≡ first → take m (drop n bytes) ≡ second → take (n + m) bytes ≡ first ++ second
joined bytes first second n m a b = take-add n m bytes ∙ (λ i. a i ++ b i)

pub within_both : (bytes : List ℕ) (n m : ℕ) → n ≤ length bytes → m ≤ length (drop n bytes) → n + m ≤ length bytes
within_both bytes n m a b = omega (arith, length-drop n bytes, a, b)
