-- What the fields of a reader stand for. No public clause cites this module.
use Rattle.std.specs.Prelude.{◌≡◌, ◌≤◌, ◌<◌, ◌+◌, ◌*◌, ◌^◌, ⊤, ℕ, nat_eq, Option, Some, None, Result, Ok, Err, List, length, drop, if◌then◌else◌}
use Rattle.recording.specs.Items.{Body, PlacedItem}
use Rattle.recording.specs.declared.limits.TheConstants.{MAX_ITEM_BYTES, MAX_ITEMS}
use Rattle.recording.specs.declared.read.Stop.{Stop}
use Rattle.recording.specs.declared.reader.ReaderStage.{ReaderStage}
use Rattle.recording.specs.declared.reader.ReaderStage.TheVariants.{Begin, Items, LastLine, End, Refused}
use Rattle.recording.specs.declared.reader.TheConstants.{MAX_PIECE_BYTES}
use Rattle.recording.specs.tools.KeptBytes.{KeptBytes}
use Rattle.recording.specs.tools.RecordingWalk.{item_step}

-- the item with which the bytes at this offset begin, after this moment
abbrev pub item_of : ℕ → Result (Option Body × List ℕ) Stop → Option PlacedItem
item_of offset (Ok (Some body, rest)) = Some (record { offset = offset; body = body })
item_of offset (Ok (None, rest)) = None
item_of offset (Err stop) = None

-- the same, where it has so many bytes; with none there is no item
abbrev pub item_at : ℕ → ℕ → ℕ → List ℕ → Option PlacedItem
item_at size offset before bytes =
    if nat_eq size 0 then None else item_of offset (item_step before bytes)

-- how many bytes may come beside the items
abbrev pub lines_size : ReaderStage → ℕ
lines_size Begin = 16
lines_size Items = 16
lines_size LastLine = 20
lines_size End = 20
lines_size (Refused fault) = 20

-- before the first item no byte is used, and there is no moment
abbrev pub IsBegun : ReaderStage → ℕ → ℕ → Type 0
IsBegun Begin used moment = (used ≡ 0) × (moment ≡ 0)
IsBegun Items used moment = ⊤
IsBegun LastLine used moment = ⊤
IsBegun End used moment = ⊤
IsBegun (Refused fault) used moment = ⊤

-- The bytes that aren't used begin with an item that has so many of them, or there is none. Those
-- that are kept are the bytes of one item and of one piece at most. What comes before the end of so
-- many items has at most so many bytes.
pub record IsItemHeld (size offset before moment count : ℕ) (stage : ReaderStage)
    (bytes : KeptBytes) : Type 0 where
  pub within : size ≤ length bytes.unused
  pub item : 0 < size
      → (body : Body) × (item_step before bytes.unused ≡ Ok (Some body, drop size bytes.unused))
  pub among : length bytes.unused ≤ length bytes.all
  pub room : length bytes.all ≤ MAX_ITEM_BYTES + 32 + MAX_PIECE_BYTES
  pub few : count ≤ MAX_ITEMS
  pub soon : offset + size ≤ lines_size stage + count * 2 ^ 25
  pub begun : IsBegun stage (offset + size) moment
