-- What is fed of a line, and what a count and a buffer have absorbed. No public clause cites this
-- module.
use Rattle.std.specs.Prelude.{◌≡◌, ℕ, ◌-◌, ◌^◌, ◌<◌, Bool, true, false, List, [], ◌++◌, codes, length, take, min, vec_len}
use Rattle.signatures.specs.declared.buffer.ByteBuffer.{ByteBuffer}
use Rattle.signatures.specs.declared.buffer.ByteCount.{ByteCount}

-- the count is the text's length, or the most that fits
abbrev pub IsCounted : ByteCount → List ℕ → Type 0
IsCounted c text = c.count ≡ min (length text) (2 ^ 64 - 1)

abbrev pub buffer_size : ByteBuffer → ℕ
buffer_size f = vec_len f.bytes

-- the buffer begins with the text, unless that is longer
pub record IsFilled (f : ByteBuffer) (text : List ℕ) : Type 0 where
  pub fits : f.over ≡ false → (f.at ≡ length text) × (take f.at f.bytes.items ≡ text)
  pub over : f.over ≡ true → vec_len f.bytes < length text

-- the LF that ends the line before, which the first line has none of
abbrev pub end_before : Bool → List ℕ
end_before true = []
end_before false = codes "\n"

-- it, and the identifier with which a line begins
abbrev pub line_begin : Bool → List ℕ → List ℕ
line_begin is_first id = end_before is_first ++ (id ++ codes ": ")

-- what was fed is all but the LF that ends the last line, where there is a line
abbrev pub LacksEnd : (List ℕ → Type 0) → Bool → List ℕ → Type 0
LacksEnd IsFed is_none whole = (text : List ℕ) × IsFed text × (text ++ end_before is_none ≡ whole)
