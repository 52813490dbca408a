-- The readers of bytes over lists, from left to right: what the code is compared with.
use Rattle.std.specs.Prelude.{ℕ, zero, suc, ◌-◌, nat_lt, Bool, List, [], ◌∷◌, length, take, drop, Result, Ok, Err, if◌then◌else◌}

-- A reader gives a value and the bytes after its text, or how many bytes were left where it
-- stopped.
abbrev pub Reader : Type 0 → Type 0
Reader V = List ℕ → Result (V × List ℕ) ℕ

infixl 10 ◌>>=◌
-- one reader, and then another over what the first gives; a failed one ends both
abbrev pub ◌>>=◌ : {A B : Type 0} → Result A ℕ → (A → Result B ℕ) → Result B ℕ
(Ok x) >>= f = f x
(Err e) >>= f = Err e

-- the byte and the rest where the test holds; else it stopped before the byte
abbrev pub byte_if : Bool → ℕ → List ℕ → Result (ℕ × List ℕ) ℕ
byte_if b c rest = if b then Ok (c, rest) else Err (length (c ∷ rest))

-- reads one byte of the class
unfoldable pub byte_read : (ℕ → Bool) → Reader ℕ
byte_read class [] = Err 0
byte_read class (c ∷ rest) = byte_if (class c) c rest

-- how many bytes of a class are first, at most so many
unfoldable pub run_length : (ℕ → Bool) → ℕ → List ℕ → ℕ
run_length class zero bytes = 0
run_length class (suc n) [] = 0
run_length class (suc n) (c ∷ rest) = if class c then suc (run_length class n rest) else 0

-- reads that many bytes, whatever they are
abbrev pub cut_at : ℕ → Reader (List ℕ)
cut_at n bytes = Ok (take n bytes, drop n bytes)

-- reads as many bytes of the class as there are, up to a most; fewer than the least are none
unfoldable pub run_read : (ℕ → Bool) → ℕ → ℕ → Reader (List ℕ)
run_read class least most bytes =
    if nat_lt (run_length class most bytes) least
    then Err (length bytes - run_length class most bytes)
    else cut_at (run_length class most bytes) bytes

-- reads all bytes of the class that come first, maybe none
unfoldable pub all_read : (ℕ → Bool) → Reader (List ℕ)
all_read class bytes = cut_at (run_length class (length bytes) bytes) bytes

-- reads a byte of one class, and all bytes of another that come after it
unfoldable pub word_read : (ℕ → Bool) → (ℕ → Bool) → Reader (List ℕ)
word_read first others bytes = do
  c ← byte_read first bytes
  r ← all_read others c.1
  Ok (c.0 ∷ r.0, r.1)
