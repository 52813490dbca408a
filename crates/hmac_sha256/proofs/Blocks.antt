-- The block of a key has 64 bytes, so a list that begins with one is parted in one way.
use Rattle.std.proofs.Common.{◌≡◌, ◌≤◌, ℕ, List, ◌++◌, length, nat_lt, true, false, sym, ◌∙◌, arith, length-append, inl, inr}
use Rattle.std.proofs.lemmas.Bool.{cases_lt}
use Rattle.std.proofs.lemmas.Bool.Decides.{nat_tests}
use Rattle.std.proofs.lemmas.List.{length-replicate}
use Rattle.std.proofs.Math.Seq.{take-append_seam, drop-append_seam}
use Rattle.sha2.proofs.Facts256.{length-sha256}
use Rattle.sha2.specs.Sha256.{sha256}
use Rattle.hmac_sha256.specs.Hmac.{block_of, key_block}

pub length-block_of : (bytes : List ℕ) → length bytes ≤ 64 → length (block_of bytes) ≡ 64
length-block_of bytes short = rw (length-append, length-replicate) (omega (arith, short))

pub length-key_block : (key : List ℕ) → length (key_block key) ≡ 64
length-key_block key = elim (cases_lt 64 (length key)) [
  | inl lt ↦ let long : nat_lt 64 (length key) ≡ true = grind (arith, nat_tests, lt) in rw long (length-block_of (sha256 key) (rw length-sha256 (omega arith)))
  | inr ge ↦ let short : nat_lt 64 (length key) ≡ false = grind (arith, nat_tests, ge) in rw short (length-block_of key ge)
]

-- two lists that begin with parts of one length have the same parts
pub same_parts : (a b t u : List ℕ) → a ++ t ≡ b ++ u → length a ≡ length b → (a ≡ b) × (t ≡ u)
same_parts a b t u same long = (
  sym (take-append_seam a t) ∙ rw (same, long) (take-append_seam b u),
  sym (drop-append_seam a t) ∙ rw (same, long) (drop-append_seam b u),
)
