-- The buckets of a book: entries are looked for among those that share a bucket with them.
use Rattle.std.specs.Prelude.{◌≡◌, ◌≤◌, ℕ, ◌%◌, ◌^◌, Bool, ◌==◌, List, ◌∷◌, ◌++◌, length, take}
use Rattle.std.specs.Int.{from_be_bytes, w32}
use Rattle.sha2.specs.Sha256.{sha256}
use Rattle.nonces.specs.Books.{Entry}

-- the number is the least power of two that isn't below the other
pub record IsLeastPowerOfTwo (least number : ℕ) : Type 0 where
  pub exponent : ℕ
  pub power : number ≡ 2 ^ exponent
  pub reaches : least ≤ number
  pub first : (k : ℕ) → least ≤ 2 ^ k → number ≤ 2 ^ k

-- the bucket of a keyid and a nonce, of so many: the first four bytes of SHA-256 (FIPS 180-4) of
-- the length of the keyid, the keyid and the nonce, as a number, modulo how many there are
abbrev pub bucket_of : ℕ → List ℕ → List ℕ → ℕ
bucket_of buckets keyid nonce =
    from_be_bytes w32 (take 4 (sha256 (length keyid ∷ keyid ++ nonce))) % buckets

-- the entry is in this bucket, of so many
abbrev pub is_in_bucket : ℕ → ℕ → Entry → Bool
is_in_bucket buckets bucket entry = bucket_of buckets entry.keyid entry.nonce == bucket
