-- Laws of lists that have the same entries: what is asked of one is answered by the other. And of
-- how many buckets a book has.
use Rattle.std.specs.Prelude.{◌≡◌, ℕ, List, ◌∷◌}
use Rattle.nonces.specs.Books.{Entry, HasDistinctNonces, HaveSameEntries, is_seen, live_entries}
use Rattle.nonces.specs.Buckets.{IsLeastPowerOfTwo}

-- a list has the same entries as itself
abbrev pub IsSameAsItself : Type 0
IsSameAsItself = (xs : List Entry) → HaveSameEntries xs xs

-- two lists have the same entries, whichever of them comes first
abbrev pub IsSameBothWays : Type 0
IsSameBothWays = (xs ys : List Entry) → HaveSameEntries xs ys → HaveSameEntries ys xs

-- two lists have the same entries, where both have those of a third
abbrev pub IsSameThrough : Type 0
IsSameThrough =
    (xs ys zs : List Entry) → HaveSameEntries xs ys → HaveSameEntries ys zs → HaveSameEntries xs zs

-- an entry is seen in one where it is in the other
abbrev pub IsSeenAlike : Type 0
IsSeenAlike =
    (xs ys : List Entry) (keyid nonce : List ℕ) → HaveSameEntries xs ys
    → is_seen keyid nonce xs ≡ is_seen keyid nonce ys

-- two lists that have the same entries have them with one more, too
abbrev pub IsSameWithOneMore : Type 0
IsSameWithOneMore =
    (xs ys : List Entry) (entry : Entry) → HaveSameEntries xs ys
    → HaveSameEntries (entry ∷ xs) (entry ∷ ys)

-- of two lists that have the same entries the same ones live
abbrev pub HaveSameLive : Type 0
HaveSameLive =
    (now : ℕ) (xs ys : List Entry) → HasDistinctNonces xs → HasDistinctNonces ys
    → HaveSameEntries xs ys → HaveSameEntries (live_entries now xs) (live_entries now ys)

-- each number has a least power of two that isn't below it
abbrev pub HasLeastPowerOfTwo : Type 0
HasLeastPowerOfTwo = (least : ℕ) → (number : ℕ) × IsLeastPowerOfTwo least number

-- and at most one
abbrev pub HasOneLeastPowerOfTwo : Type 0
HasOneLeastPowerOfTwo =
    (least number other : ℕ) → IsLeastPowerOfTwo least number → IsLeastPowerOfTwo least other
    → number ≡ other
