-- What the steps of a reader of a recording say. No public clause cites this module.
use Rattle.std.specs.Prelude.{◌≡◌, ◌≢◌, ◌⊎◌, ⊤, ℕ, ◌+◌, ◌-◌, ◌<◌, ◌≤◌, Bool, true, false, Option, Some, None, Result, Ok, Err, List, [], ◌∷◌, ◌++◌, length, drop, codes}
use Rattle.std.specs.Io.KnownBytes.{IsAtEnd}
use Rattle.hms_io.specs.Cause.{Rose}
use Rattle.recording.specs.Items.{Body, moment, PlacedItem, body_text}
use Rattle.recording.specs.Recordings.{SpellsRecording, bodies, moments}
use Rattle.recording.specs.Readers.{ReaderState, BeginsWithItems, IsLastMoment, HasRead, IsFaultFrom, IsFaultSoFar, size_held}
use Rattle.recording.specs.declared.fault.RecordingFault.{RecordingFault}
use Rattle.recording.specs.declared.fault.RecordingFault.TheVariants.{Syntax, ItemTooLong, MomentFalls}
use Rattle.recording.specs.declared.item_fault.ItemFault.{ItemFault}
use Rattle.recording.specs.declared.item_fault.ItemFault.TheVariants.{Memory, Failed, Recording, TooManyItems}
use Rattle.recording.specs.declared.limits.TheConstants.{MAX_ITEM_BYTES, MAX_ITEMS}
use Rattle.recording.specs.declared.read.Stop.{Stop}
use Rattle.recording.specs.declared.read.Stop.TheVariants as stop
use Rattle.recording.specs.declared.reader.FoundItem.{FoundItem}
use Rattle.recording.specs.declared.reader.Next.{Next}
use Rattle.recording.specs.declared.reader.Next.TheVariants as next
use Rattle.recording.specs.declared.reader.ReaderStage.{ReaderStage}
use Rattle.recording.specs.declared.reader.ReaderStage.TheVariants.{Begin, Items, LastLine, End, Refused}
use Rattle.recording.specs.declared.reader.TheConstants.{MAX_PIECE_BYTES}
use Rattle.recording.specs.tools.NextItems.{bytes_left}
use Rattle.recording.specs.tools.ReaderViews.{item_of}
use Rattle.recording.specs.tools.RecordingWalk.{item_step, first_step}
use Rattle.recording.specs.tools.Running.{moment_after}

-- ---- an item of the bytes that are held

-- the fault where so many bytes were given
abbrev pub fault_at : ℕ → Stop → RecordingFault
fault_at given (stop.Left n) = Syntax (given - n)
fault_at given (stop.TooLong n) = ItemTooLong (given - n)
fault_at given (stop.MomentFalls n) = MomentFalls (given - n)

-- after the bytes that are skipped comes this item
pub record IsFound (last : ℕ) (bytes : List ℕ) (found : FoundItem) : Type 0 where
  pub body : Body
  pub within : found.skipped + found.len ≤ length bytes
  pub some : 0 < found.len
  pub few : found.len ≤ MAX_ITEM_BYTES + 32
  pub size : found.len ≡ length (body_text body)
  pub step : item_step last (drop found.skipped bytes)
      ≡ Ok (Some body, drop (found.skipped + found.len) bytes)
  pub after : found.moment ≡ moment_after last body

-- the bytes begin with the line that names the format, and this item, a moment
pub record IsFirstFound (bytes : List ℕ) (found : FoundItem) : Type 0 where
  pub skipped : found.skipped ≡ 16
  pub line : bytes ≡ codes "hms-recording 1\n" ++ drop 16 bytes
  pub item : IsFound 0 bytes found
  pub is : item.body ≡ moment found.moment

-- what is found first
abbrev pub FindsFirst : List ℕ → Result (Option FoundItem) Stop → Type 0
FindsFirst bytes (Ok (Some found)) = IsFirstFound bytes found
FindsFirst bytes (Ok None) = first_step bytes ≡ Err (stop.Left 0)
FindsFirst bytes (Err s) =
    (first_step bytes ≡ Err s) × (s ≢ stop.Left 0) × (bytes_left s ≤ length bytes)

-- what is found after this moment
abbrev pub FindsNext : ℕ → List ℕ → Result Next Stop → Type 0
FindsNext last bytes (Ok (next.Item found)) = (found.skipped ≡ 0) × IsFound last bytes found
FindsNext last bytes (Ok next.LastLine) =
    (4 ≤ length bytes) × (item_step last bytes ≡ Ok (None, drop 4 bytes))
FindsNext last bytes (Ok next.More) = item_step last bytes ≡ Err (stop.Left 0)
FindsNext last bytes (Err s) =
    (item_step last bytes ≡ Err s) × (s ≢ stop.Left 0) × (bytes_left s ≤ length bytes)

-- so many bytes are skipped before the item
abbrev pub IsSkipped : ReaderStage → ℕ → Type 0
IsSkipped Begin skipped = skipped ≡ 16
IsSkipped Items skipped = skipped ≡ 0
IsSkipped LastLine skipped = ⊥
IsSkipped End skipped = ⊥
IsSkipped (Refused fault) skipped = ⊥

-- the reader after this item
abbrev pub reached : ReaderState → FoundItem → ReaderState
reached old found = record {
  given = old.given;
  held = drop (found.skipped + found.len) old.held;
  kept = old.kept;
  item = item_of (old.given - length old.held + found.skipped)
      (item_step old.moment (drop found.skipped old.held));
  moment = found.moment;
  count = old.count + 1;
  stage = Items;
}

-- what going on to an item answers
abbrev pub Reaches : ReaderState → ReaderState → FoundItem → Result Bool ItemFault → Type 0
Reaches old new found (Ok true) = new ≡ reached old found
Reaches old new found (Ok false) = ⊥
Reaches old new found (Err TooManyItems) = (old.count ≡ MAX_ITEMS) × (new ≡ old)
Reaches old new found (Err Memory) = ⊥
Reaches old new found (Err Failed) = ⊥
Reaches old new found (Err (Recording fault)) = ⊥

-- ---- between two pieces

-- the reader goes on
abbrev pub IsGoing : ReaderStage → Type 0
IsGoing Begin = ⊤
IsGoing Items = ⊤
IsGoing LastLine = ⊤
IsGoing End = ⊥
IsGoing (Refused fault) = ⊥

-- what is held of the text that was given, where not all of it was gone over
abbrev pub IsHeldAt : ReaderStage → List PlacedItem → List ℕ → List ℕ → Type 0
IsHeldAt Begin items text held = (items ≡ []) × (held ≡ text)
IsHeldAt Items items text held = BeginsWithItems text items held
IsHeldAt LastLine items text held =
    (read : List ℕ) × SpellsRecording read items × (text ≡ read ++ held)
IsHeldAt End items text held = ⊥
IsHeldAt (Refused fault) items text held = ⊥

-- the reader goes on after these items of the text
pub record IsReading (state : ReaderState) (items : List PlacedItem) (text : List ℕ) : Type 0 where
  pub given : state.given ≡ length text
  pub count : state.count ≡ length items
  pub moment : IsLastMoment (moments (bodies items)) state.moment
  pub held : IsHeldAt state.stage items text state.held

-- what is held was gone over, and nothing is found before more comes
abbrev pub IsWaiting : ReaderStage → ℕ → List ℕ → Type 0
IsWaiting Begin last held = first_step held ≡ Err (stop.Left 0)
IsWaiting Items last held = item_step last held ≡ Err (stop.Left 0)
IsWaiting LastLine last held = held ≡ []
IsWaiting End last held = ⊥
IsWaiting (Refused fault) last held = ⊥

-- what is held is kept, the bytes of one item and of one piece are kept at most, and not too many
-- items were read
pub record IsFew (state : ReaderState) : Type 0 where
  pub held : size_held state ≤ state.kept
  pub kept : state.kept ≤ MAX_ITEM_BYTES + 32 + MAX_PIECE_BYTES
  pub count : state.count ≤ MAX_ITEMS

-- nothing follows the last line, or its first byte is the fault
abbrev pub FindsNothing : ReaderState → Result Bool ItemFault → Type 0
FindsNothing state (Ok true) = ⊥
FindsNothing state (Ok false) = state.held ≡ []
FindsNothing state (Err (Recording fault)) =
    (0 < length state.held) × (fault ≡ Syntax (state.given - length state.held))
FindsNothing state (Err Memory) = ⊥
FindsNothing state (Err Failed) = ⊥
FindsNothing state (Err TooManyItems) = ⊥

-- the reader stays where it was, or passed the last line
abbrev pub GoesOn : ReaderState → ReaderState → Type 0
GoesOn old new = (new ≡ old) ⊎ ((old.stage ≡ Items) × (new.stage ≡ LastLine))

-- what going over the bytes that are held does, whatever was read before
abbrev pub GoesOver : ReaderState → ReaderState → Result Bool ItemFault → Type 0
GoesOver old new (Ok true) = new.count ≡ old.count + 1
GoesOver old new (Ok false) =
    IsWaiting new.stage new.moment new.held × (new.item ≡ None) × GoesOn old new
    × (new.count ≡ old.count)
GoesOver old new (Err Memory) = ⊥
GoesOver old new (Err Failed) = ⊥
GoesOver old new (Err (Recording fault)) = ⊤
GoesOver old new (Err TooManyItems) = ⊤

-- the reader where it refuses for the fault
abbrev pub refused : ReaderState → ItemFault → ReaderState
refused state fault = record state { stage = Refused fault }

-- what it says, where these items were read of the text
abbrev pub AnswersHeld : List PlacedItem → List ℕ → ReaderState → Result Bool ItemFault → Type 0
AnswersHeld items text new (Ok true) = (next : PlacedItem) × (new.item ≡ Some next)
    × (new.stage ≡ Items) × HasRead new (items ++ next ∷ []) text
AnswersHeld items text new (Ok false) = IsReading new items text
AnswersHeld items text new (Err Memory) = ⊤
AnswersHeld items text new (Err Failed) = ⊤
AnswersHeld items text new (Err (Recording fault)) = IsFaultSoFar text items fault
    × IsFaultFrom text fault × HasRead (refused new (Recording fault)) items text
AnswersHeld items text new (Err TooManyItems) = (length items ≡ MAX_ITEMS)
    × (next : PlacedItem) × (rest : List ℕ) × BeginsWithItems text (items ++ next ∷ []) rest

-- the same, whatever these items and this text are
abbrev pub ReadsHeld : ReaderState → ReaderState → Result Bool ItemFault → Type 0
ReadsHeld old new result = (items : List PlacedItem) (text : List ℕ) → IsReading old items text
    → AnswersHeld items text new result

-- what it says that the source ended
abbrev pub AnswersEnd : List PlacedItem → List ℕ → ReaderState → Result Bool ItemFault → Type 0
AnswersEnd items text new (Ok true) = ⊤
AnswersEnd items text new (Ok false) =
    SpellsRecording text items × (new.stage ≡ End) × HasRead new items text
AnswersEnd items text new (Err Memory) = ⊤
AnswersEnd items text new (Err Failed) = ⊤
AnswersEnd items text new (Err (Recording fault)) =
    IsFaultSoFar text items fault × HasRead (refused new (Recording fault)) items text
AnswersEnd items text new (Err TooManyItems) = ⊤

-- the source ended after the last line, or what it gave is no recording
abbrev pub IsAnEnd : Result Bool ItemFault → Type 0
IsAnEnd (Ok true) = ⊥
IsAnEnd (Ok false) = ⊤
IsAnEnd (Err Memory) = ⊥
IsAnEnd (Err Failed) = ⊥
IsAnEnd (Err (Recording fault)) = ⊤
IsAnEnd (Err TooManyItems) = ⊥

-- ---- a piece

-- what comes of a piece, where this was taken
abbrev pub TakesPiece : ReaderState → ReaderState → List ℕ → Option (List ℕ)
    → Result Bool ItemFault → Type 0
TakesPiece old new piece now (Ok true) = (0 < length piece) × (new ≡ record old {
  given = old.given + length piece;
  held = old.held ++ piece;
  kept = length (old.held ++ piece);
})
TakesPiece old new piece now (Ok false) = (piece ≡ []) × IsAtEnd now × (new ≡ old)
TakesPiece old new piece now (Err Memory) = ⊤
TakesPiece old new piece now (Err Failed) = piece ≡ []
TakesPiece old new piece now (Err (Recording fault)) = ⊥
TakesPiece old new piece now (Err TooManyItems) = ⊥

-- only a read that failed raises the count of faults
abbrev pub CountsRead : ℕ → ℕ → Result Bool ItemFault → Type 0
CountsRead before now (Ok found) = now ≡ before
CountsRead before now (Err Memory) = now ≡ before
CountsRead before now (Err Failed) = Rose before now
CountsRead before now (Err (Recording fault)) = now ≡ before
CountsRead before now (Err TooManyItems) = now ≡ before

-- ---- a call

-- the reader after the answer: a fault is kept
abbrev pub answered : ReaderState → Result Bool ItemFault → ReaderState
answered state (Ok found) = state
answered state (Err fault) = refused state fault
