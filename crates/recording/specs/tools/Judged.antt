-- What the readers of a recording return. No public clause cites this module.
use Rattle.std.specs.Prelude.{◌≡◌, ℕ, List, Result, Ok, Err}
use Rattle.recording.specs.declared.read.Stop.{Stop}
use Rattle.recording.specs.declared.fault.RecordingFault.{RecordingFault}
use Rattle.recording.specs.Items.{Body, PlacedItem}
use Rattle.recording.specs.Recordings.{SpellsRecording}
use Rattle.recording.specs.Causes.{IsRecordingFault}
use Rattle.recording.specs.tools.RecordingWalk.{with_items, walk, recording_step}

-- what was returned, seen by view, is what the reader gives
abbrev pub Gives : {X Y : Type 0} → (X → Y) → Result X Stop → Result Y Stop → Type 0
Gives view (Ok x) read = read ≡ Ok (view x)
Gives view (Err s) read = read ≡ Err s

-- some items are read, up to where these bytes are left after this moment
pub record AreRead (text : List ℕ) (last : ℕ) (left : List ℕ) : Type 0 where
  pub items : List Body
  pub so_far : with_items items (walk last left) ≡ recording_step text

-- the answer and the fact for which it is given; out of memory has none, so it isn't given
abbrev pub Explains : List ℕ → Result (List PlacedItem) RecordingFault → Type 0
Explains text (Ok items) = SpellsRecording text items
Explains text (Err fault) = IsRecordingFault text fault
