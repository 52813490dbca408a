-- Laws of recordings.
use Rattle.std.specs.Prelude.{◌≡◌, ◌⊎◌, ◌+◌, ◌≤◌, ℕ, List, ◌++◌, length}
use Rattle.byte_grammar.specs.FaultOffset.{IsFaultOffset}
use Rattle.recording.specs.declared.fault.RecordingFault.{RecordingFault}
use Rattle.recording.specs.Items.{Body, PlacedItem}
use Rattle.recording.specs.Recordings.{AreItems, HasForm, HasRestForm, SpellsRecording, items_text}
use Rattle.recording.specs.Causes.{HasLineAt, IsLongLine, IsFallingLine, IsRecordingFault}

-- a text is a recording, or has a fault
abbrev pub HasRecordingOrFault : Type 0
HasRecordingOrFault = (text : List ℕ) →
    ((items : List PlacedItem) × SpellsRecording text items)
    ⊎ ((fault : RecordingFault) × IsRecordingFault text fault)

-- a text is at most one recording
abbrev pub OneRecording : Type 0
OneRecording = (text : List ℕ) (items others : List PlacedItem) →
    SpellsRecording text items → SpellsRecording text others → items ≡ others

-- a text has at most one fault
abbrev pub OneRecordingFault : Type 0
OneRecordingFault = (text : List ℕ) (fault other : RecordingFault) →
    IsRecordingFault text fault → IsRecordingFault text other → fault ≡ other

-- a recording has no fault
abbrev pub NoFaultOfRecording : Type 0
NoFaultOfRecording = (text : List ℕ) (items : List PlacedItem) (fault : RecordingFault) →
    SpellsRecording text items → ¬ IsRecordingFault text fault

-- ---- from the left

-- where there is such a line, a fault of the form is after its end
abbrev pub FaultIsAfter : (List Body → List ℕ → Type 0) → Type 0
FaultIsAfter IsSuch = (text : List ℕ) (offset place : ℕ) (at : HasLineAt IsSuch text offset) →
    IsFaultOffset HasForm text place → offset + length at.line ≤ place

-- a text has no line that is too long and another that falls: the later has one before it that
-- isn't allowed
abbrev pub OneOfBoth : Type 0
OneOfBoth = (text : List ℕ) (offset other : ℕ) →
    HasLineAt IsLongLine text offset → ¬ HasLineAt IsFallingLine text other

-- ---- item by item

-- After the first items of a recording come the others, and the last line.
abbrev pub RestIsOthers : Type 0
RestIsOthers = (before items : List Body) (rest : List ℕ) → AreItems before →
    HasForm (items_text before ++ rest) items →
    (others : List Body) × (items ≡ before ++ others) × HasRestForm rest others

-- other items may come after the first ones
abbrev pub OthersMayCome : Type 0
OthersMayCome = (before others : List Body) (rest : List ℕ) → AreItems before →
    HasRestForm rest others → HasForm (items_text before ++ rest) (before ++ others)

-- a fault of the form in what comes after the first items is that of the whole text
abbrev pub FaultOfRest : Type 0
FaultOfRest = (before : List Body) (rest : List ℕ) (place : ℕ) → AreItems before →
    IsFaultOffset HasRestForm rest place
    → IsFaultOffset HasForm (items_text before ++ rest) (length (items_text before) + place)
