-- The items that a text spells, as they are read one at a time. No public clause cites this module.
use Rattle.std.specs.Prelude.{◌≡◌, ◌≤◌, ℕ, ◌+◌, List, [], ◌∷◌, length, drop, codes, Result, Ok, Err}
use Rattle.recording.specs.declared.read.Stop.{Stop}
use Rattle.recording.specs.Items.{Body, PlacedItem, body_text}
use Rattle.recording.specs.tools.RecordingWalk.{walk}

-- each item at its place, the first at this offset
abbrev pub place : ℕ → List Body → List PlacedItem
place offset [] = []
place offset (item ∷ items) = record { offset = offset; body = item }
    ∷ place (offset + length (body_text item)) items

-- what is read
abbrev pub items_read : Result (List Body × List ℕ) Stop → List Body
items_read (Ok x) = x.0
items_read (Err s) = []

-- the items with which the bytes at this offset begin, after this moment
abbrev pub items_from : ℕ → ℕ → List ℕ → List PlacedItem
items_from offset last bytes = place offset (items_read (walk last bytes))

-- the items of the recording that the text is
abbrev pub items_in : List ℕ → List PlacedItem
items_in text = items_from (length (codes "hms-recording 1\n")) 0
    (drop (length (codes "hms-recording 1\n")) text)

-- the bytes are the end of the text: items that are allowed after this moment, and the last line
pub record AreLeft (text : List ℕ) (last : ℕ) (left : List ℕ) : Type 0 where
  pub within : length left ≤ length text
  pub items : List Body
  pub are : walk last left ≡ Ok (items, [])
