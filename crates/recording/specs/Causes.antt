-- Why a text is no recording.
use Rattle.std.specs.Prelude.{◌≡◌, ℕ, ◌<◌, List, [], ◌∷◌, ◌++◌, length, codes}
use Rattle.byte_grammar.specs.Causes.{IsFirst}
use Rattle.byte_grammar.specs.FaultOffset.{IsFaultOffset}
use Rattle.recording.specs.declared.limits.TheConstants.{MAX_ITEM_BYTES}
use Rattle.recording.specs.declared.fault.RecordingFault.{RecordingFault}
use Rattle.recording.specs.declared.fault.RecordingFault.TheVariants.{Memory, Syntax, ItemTooLong, MomentFalls}
use Rattle.byte_grammar.specs.Numbers.{number_line, IsNumber}
use Rattle.recording.specs.Items.{Body, Kind, kind_word}
use Rattle.recording.specs.Recordings.{AreItems, AreAllowed, HasForm, items_text, moments}

-- the line says that its item has more bytes than an item may have, whatever is before it
pub record IsLongLine (before : List Body) (line : List ℕ) : Type 0 where
  pub kind : Kind
  pub size : ℕ
  pub is : line ≡ number_line (kind_word kind) size
  pub number : IsNumber size
  pub long : MAX_ITEM_BYTES < size

-- the line is that of a moment earlier than the last one of the items before it
pub record IsFallingLine (before : List Body) (line : List ℕ) : Type 0 where
  pub seconds : ℕ
  pub is : line ≡ number_line (codes "at ") seconds
  pub number : IsNumber seconds
  pub others : List ℕ
  pub last : ℕ
  pub last_is : moments before ≡ others ++ last ∷ []
  pub falls : seconds < last

-- After items that are allowed there is such a line, at this offset. Nothing is said of what comes
-- after the line.
pub record HasLineAt (IsSuch : List Body → List ℕ → Type 0) (text : List ℕ) (offset : ℕ)
    : Type 0 where
  pub before : List Body
  pub line : List ℕ
  pub more : List ℕ
  pub joined : text ≡ items_text before ++ (line ++ more)
  pub are : AreItems before
  pub allowed : AreAllowed before
  pub such : IsSuch before line
  pub place : offset ≡ length (items_text before)

-- the fact for which the fault is answered; being out of memory is none of them
abbrev pub IsRecordingCause : List ℕ → RecordingFault → Type 0
IsRecordingCause text (ItemTooLong offset) = HasLineAt IsLongLine text offset
IsRecordingCause text (MomentFalls offset) = HasLineAt IsFallingLine text offset
IsRecordingCause text (Syntax offset) = IsFaultOffset HasForm text offset
IsRecordingCause text Memory = ⊥

-- The order in which the causes are judged. It is that from the left: a fault of the form is after
-- the end of a line that is too long or falls, and no text has one of each.
abbrev pub recording_order : RecordingFault → ℕ
recording_order Memory = 0
recording_order (ItemTooLong offset) = 1
recording_order (MomentFalls offset) = 2
recording_order (Syntax offset) = 3

-- the fault's cause is the first that holds
abbrev pub IsRecordingFault : List ℕ → RecordingFault → Type 0
IsRecordingFault text fault = IsFirst recording_order (IsRecordingCause text) fault
