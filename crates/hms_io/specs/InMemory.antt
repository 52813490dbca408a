-- What a source, a sink and a shelf in memory are.
use Rattle.std.specs.Prelude.{ℕ, List, Bool, length, ◌==◌}
use Rattle.hms_io.specs.Calls.{CallLog}
use Rattle.hms_io.specs.Files.{FileMap}

-- a source in memory: the bytes that it has left, how many it gives at once, its calls
pub record MemorySource : Type 0 where
  pub left : List ℕ
  -- how many bytes it gave
  pub given : ℕ
  -- how many calls were made from the one on that reported the end, at most 2^64 - 1
  pub ended : ℕ
  -- how many reads gave no byte, at most 2^64 - 1
  pub idle : ℕ
  -- the most bytes that one call gives
  pub piece : ℕ
  pub calls : CallLog

-- a sink in memory: the bytes that it took, its room, how many it takes at once, its calls
pub record MemorySink : Type 0 where
  pub taken : List ℕ
  -- the most bytes that it takes in all
  pub room : ℕ
  -- the most bytes that one call takes
  pub piece : ℕ
  -- how many writes took no byte, at most 2^64 - 1
  pub idle : ℕ
  pub calls : CallLog

-- the sink holds as many bytes as it has room for
abbrev pub is_full : MemorySink → Bool
is_full sink = length sink.taken == sink.room

-- a shelf in memory: its files by their names, the bytes given, and its calls
pub record MemoryShelf : Type 0 where
  pub files : FileMap
  -- how many bytes of files it gave, at most 2^64 - 1
  pub reached : ℕ
  pub calls : CallLog
