-- What a reader of a recording has read of a source, and what it reads next.
use Rattle.std.specs.Prelude.{◌≡◌, ◌⊎◌, ⊤, ℕ, ◌+◌, ◌≤◌, Bool, true, false, Option, Some, None, Result, Ok, Err, List, [], ◌∷◌, ◌++◌, length, codes}
use Rattle.std.specs.Io.KnownBytes.{Consumes, IsAtEnd}
use Rattle.hms_io.specs.Cause.{Rose}
use Rattle.recording.specs.Causes.{IsRecordingFault}
use Rattle.recording.specs.Items.{PlacedItem, body_text}
use Rattle.recording.specs.Recordings.{AreAllowed, AreItems, ArePlaced, SpellsRecording, bodies, items_text, moments}
use Rattle.recording.specs.declared.fault.RecordingFault.{RecordingFault}
use Rattle.recording.specs.declared.item_fault.ItemFault.{ItemFault}
use Rattle.recording.specs.declared.item_fault.ItemFault.TheVariants.{Memory, Failed, Recording, TooManyItems}
use Rattle.recording.specs.declared.limits.TheConstants.{MAX_ITEMS}
use Rattle.recording.specs.declared.reader.ReaderStage.{ReaderStage}
use Rattle.recording.specs.declared.reader.ReaderStage.TheVariants.{Begin, Items, LastLine, End, Refused}
use Rattle.recording.specs.declared.reader.TheConstants.{MAX_PIECE_BYTES}

-- How many bytes the source gave, those of them that are in no item that was read, how many bytes
-- the reader keeps, the item that was read last, the last moment, how many items were read, and how
-- far the recording was read.
pub record ReaderState : Type 0 where
  pub given : ℕ
  pub held : List ℕ
  pub kept : ℕ
  pub item : Option PlacedItem
  pub moment : ℕ
  pub count : ℕ
  pub stage : ReaderStage

-- nothing was read
abbrev pub nothing_read : ReaderState
nothing_read = record {
  given = 0;
  held = [];
  kept = 0;
  item = None;
  moment = 0;
  count = 0;
  stage = Begin;
}

-- how many bytes the item has, its line among them
abbrev pub item_size : Option PlacedItem → ℕ
item_size None = 0
item_size (Some item) = length (body_text item.body)

-- how many bytes are held: those of the item, and those in no item that was read
abbrev pub size_held : ReaderState → ℕ
size_held state = item_size state.item + length state.held

-- ---- what was read

-- the text begins a recording: after the line that names the format come these items, which are
-- allowed, and then this rest
pub record BeginsWithItems (text : List ℕ) (items : List PlacedItem) (rest : List ℕ)
    : Type 0 where
  pub are : AreItems (bodies items)
  pub allowed : AreAllowed (bodies items)
  pub placed : ArePlaced (length (codes "hms-recording 1\n")) items
  pub joined : text ≡ items_text (bodies items) ++ rest

-- what the stage says of the text that was given, and of what is held of it
abbrev pub IsReadTo : ReaderStage → List PlacedItem → List ℕ → List ℕ → Type 0
IsReadTo Begin items text held = (items ≡ []) × (held ≡ text)
IsReadTo Items items text held = BeginsWithItems text items held
IsReadTo LastLine items text held = SpellsRecording text items × (held ≡ [])
IsReadTo End items text held = SpellsRecording text items × (held ≡ [])
IsReadTo (Refused fault) items text held =
    (items ≡ []) ⊎ ((rest : List ℕ) × BeginsWithItems text items rest)

-- the last of the moments, or 0 where there is none
abbrev pub IsLastMoment : List ℕ → ℕ → Type 0
IsLastMoment all last = (earlier : List ℕ) × (0 ∷ all ≡ earlier ++ last ∷ [])

-- the reader has read these items of the text that it was given
pub record HasRead (state : ReaderState) (items : List PlacedItem) (text : List ℕ)
    : Type 0 where
  pub given : state.given ≡ length text
  pub count : state.count ≡ length items
  pub moment : IsLastMoment (moments (bodies items)) state.moment
  pub read : IsReadTo state.stage items text state.held

-- ---- what is read next

-- the fault of each text that begins so: it comes before the end of what was given
abbrev pub IsFaultFrom : List ℕ → RecordingFault → Type 0
IsFaultFrom text fault = (rest : List ℕ) → IsRecordingFault (text ++ rest) fault

-- the text holds neither a further item nor a fault
pub record IsOpen (items : List PlacedItem) (text : List ℕ) : Type 0 where
  pub no_item : (next : PlacedItem) (rest : List ℕ)
      → ¬ BeginsWithItems text (items ++ next ∷ []) rest
  pub no_fault : (fault : RecordingFault) → ¬ IsFaultFrom text fault

-- These bytes were read after the text. Without the last of them, which are as many as one piece
-- may have at most, it held neither a further item nor a fault.
pub record ReadsNeeded (before now : Option (List ℕ)) (items : List PlacedItem)
    (text more : List ℕ) : Type 0 where
  pub taken : Consumes before now more
  pub needed : (more ≡ []) ⊎ ((earlier piece : List ℕ) × (more ≡ earlier ++ piece)
      × IsOpen items (text ++ earlier) × (length piece ≤ MAX_PIECE_BYTES))

-- the text is no recording that goes on after these items, and this is its fault: it has it
-- whatever comes, or it ends there
pub record IsFaultSoFar (text : List ℕ) (items : List PlacedItem) (fault : RecordingFault)
    : Type 0 where
  pub begins : (items ≡ []) ⊎ ((rest : List ℕ) × BeginsWithItems text items rest)
  pub last : (next : PlacedItem) (rest : List ℕ) → ¬ BeginsWithItems text (items ++ next ∷ []) rest
  pub is : IsRecordingFault text fault

-- what the answer says, where these items were read of the text, and these bytes of the source came
-- after it: the next item, that there is none, or why none is read
abbrev pub AnswersNext : List PlacedItem → List ℕ → List ℕ → Option (List ℕ) → ReaderState
    → Result Bool ItemFault → Type 0
AnswersNext items text more now new (Ok true) = (next : PlacedItem) × (new.item ≡ Some next)
    × (new.stage ≡ Items) × HasRead new (items ++ next ∷ []) (text ++ more)
AnswersNext items text more now new (Ok false) = SpellsRecording (text ++ more) items
    × IsAtEnd now × (new.stage ≡ End) × HasRead new items (text ++ more)
AnswersNext items text more now new (Err (Recording fault)) =
    IsFaultSoFar (text ++ more) items fault
    × (IsFaultFrom (text ++ more) fault ⊎ IsAtEnd now) × HasRead new items (text ++ more)
AnswersNext items text more now new (Err TooManyItems) = (length items ≡ MAX_ITEMS)
    × (next : PlacedItem) × (rest : List ℕ)
    × BeginsWithItems (text ++ more) (items ++ next ∷ []) rest
AnswersNext items text more now new (Err Failed) = IsOpen items (text ++ more)
AnswersNext items text more now new (Err Memory) = ⊤

-- what a call reads of a source and answers, where no call before it answered that there is none,
-- or a fault
abbrev pub ReadsNext : ReaderState → ReaderState → Option (List ℕ) → Option (List ℕ)
    → Result Bool ItemFault → Type 0
ReadsNext old new before now result =
    (items : List PlacedItem) (text : List ℕ) → HasRead old items text
    → ¬ (old.stage ≡ End) → ((fault : ItemFault) → ¬ (old.stage ≡ Refused fault))
    → (more : List ℕ) × ReadsNeeded before now items text more
    × AnswersNext items text more now new result

-- only a read that failed in this call raises the count of faults
abbrev pub CountsFault : ℕ → ℕ → ReaderStage → ItemFault → Type 0
CountsFault before now (Refused earlier) fault = now ≡ before
CountsFault before now stage Failed = Rose before now
CountsFault before now stage fault = now ≡ before

-- how many reads that give no byte come before this answer at most: one, where no item is found
abbrev pub idle_reads : Result Bool ItemFault → ℕ
idle_reads (Ok true) = 0
idle_reads (Ok false) = 1
idle_reads (Err fault) = 1
