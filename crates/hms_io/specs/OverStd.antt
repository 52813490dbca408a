-- What a source over a reader of std, a sink over a writer of std and a shelf over files are.
use Rattle.std.specs.Prelude.{ℕ, ◌-◌, List, Option, length, take}
use Rattle.std.specs.Option.{option_map}

-- a source over a reader of std: the bytes that it has left, and its faults
pub record ReaderSource : Type 0 where
  -- the bytes that the reader has left, where they are known
  pub left : Option (List ℕ)
  -- how many bytes the reader gave, at most 2^64 - 1
  pub given : ℕ
  -- how many calls were made from the one on that reported the end, at most 2^64 - 1
  pub ended : ℕ
  -- how many reads gave no byte, at most 2^64 - 1
  pub idle : ℕ
  pub faults : ℕ

-- a sink over a writer of std: the bytes that it took, and its faults
pub record WriterSink : Type 0 where
  -- the bytes that the writer took and flushed, where they are known
  pub taken : Option (List ℕ)
  -- how many bytes it took after those, in a write whose flush failed
  pub unflushed : ℕ
  -- how many writes took no byte, at most 2^64 - 1
  pub idle : ℕ
  pub faults : ℕ

-- a shelf over the files of a folder, of which nothing is known but what was asked and read
pub record FolderShelf : Type 0 where
  -- how many files were asked for, at most 2^64 - 1
  pub asked : ℕ
  -- how many bytes of them were read, at most 2^64 - 1
  pub reached : ℕ
  pub faults : ℕ

-- known bytes without the last n: those of a writer without the bytes whose flush failed
abbrev pub without_last : ℕ → Option (List ℕ) → Option (List ℕ)
without_last n known = option_map (λ bytes. take (length bytes - n) bytes) known
