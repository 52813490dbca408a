-- What each command reads: the files that it names, and its input.
use Rattle.std.specs.Prelude.{◌≡◌, ⊤, ◌+◌, ◌≤◌, ℕ, Bool, true, false, IsTrue, List, Option, None}
use Rattle.hms_io.specs.Files.{FileMap}
use Rattle.hms_io.specs.Reading.{LosesPrefix}
use Rattle.command_line.specs.Command.{CommandLine, Help, HelpOf, Version, Base, Verify, Sign, Rewrite, Explain, Audit, Gateway, Lists, Negotiate, Sample, IsCommand, conf_of, request_of, wanted_of, script_of, other_of}
use Rattle.intake.specs.Files.{FileRole, FileNames, Found, AreFound, file_names, file_bytes}
use Rattle.refusals.specs.declared.refusal.TheConstants.{MAX_INPUT_BYTES, MAX_RECORDING_BYTES}

-- the name of the file of each role
abbrev pub name_of : CommandLine → FileNames
name_of command =
    file_names (conf_of command) (request_of command) (wanted_of command) (script_of command)
    (other_of command)

-- how a command reads its input
pub data InputUse : Type 0 where
  -- not at all
  Unread : InputUse
  -- to its end before anything is written, and at most so many bytes of it
  Whole : ℕ → InputUse
  -- item by item, and what is written of an item before more is read
  Streamed : InputUse

-- how each command reads it, and how much of it at most
abbrev pub input_use : CommandLine → InputUse
input_use Help = Unread
input_use (HelpOf command) = Unread
input_use Version = Unread
input_use (Base words) = Whole MAX_INPUT_BYTES
input_use (Verify words) = Whole MAX_INPUT_BYTES
input_use (Sign words) = Whole MAX_INPUT_BYTES
input_use (Rewrite words) = Whole MAX_INPUT_BYTES
input_use (Explain words) = Whole MAX_INPUT_BYTES
input_use (Audit words) = Whole MAX_RECORDING_BYTES
input_use (Gateway words) = Streamed
input_use (Lists words) = Whole MAX_INPUT_BYTES
input_use (Negotiate words) = Whole MAX_INPUT_BYTES
input_use (Sample words) = Unread

-- what the command comes to is known before anything is written
abbrev pub is_whole : InputUse → Bool
is_whole Unread = true
is_whole (Whole limit) = true
is_whole Streamed = false

-- at most so many bytes are gone, the first ones
abbrev pub LosesAtMost : ℕ → Option (List ℕ) → Option (List ℕ) → Type 0
LosesAtMost most before now = (n : ℕ) × (n ≤ most) × LosesPrefix before now n

-- of an input at most one byte past the limit is gone; of a stream any number
abbrev pub LosesFew : InputUse → Option (List ℕ) → Option (List ℕ) → Type 0
LosesFew Unread before now = LosesAtMost 0 before now
LosesFew (Whole limit) before now = LosesAtMost (limit + 1) before now
LosesFew Streamed before now = (n : ℕ) × LosesPrefix before now n

-- so many bytes are given, of an input at most one past the limit
abbrev pub GivesAtMost : InputUse → ℕ → ℕ → Type 0
GivesAtMost Unread before now = now ≤ before
GivesAtMost (Whole limit) before now = now ≤ before + (limit + 1)
GivesAtMost Streamed before now = ⊤

-- ---- the same for arguments

-- the arguments are no command, or one that names no file
abbrev pub NamesNoFile : List (List ℕ) → Type 0
NamesNoFile arguments =
    (command : CommandLine) → IsCommand arguments command
    → (role : FileRole) → name_of command role ≡ None

-- the arguments are no command, or one that reads no input
abbrev pub ReadsNoInput : List (List ℕ) → Type 0
ReadsNoInput arguments =
    (command : CommandLine) → IsCommand arguments command → input_use command ≡ Unread

-- the arguments are no command, or one that writes nothing before it has read all
abbrev pub ReadsWhole : List (List ℕ) → Type 0
ReadsWhole arguments =
    (command : CommandLine) → IsCommand arguments command → IsTrue (is_whole (input_use command))

-- what was found of the files that the command names
abbrev pub AreFoundFor : List (List ℕ) → Option FileMap → Found → Type 0
AreFoundFor arguments shelf found =
    (command : CommandLine) → IsCommand arguments command → AreFound shelf (name_of command) found

-- of the files that the command names no more is read, together, than their limits and one byte
-- for each
abbrev pub ReachesNamed : List (List ℕ) → ℕ → ℕ → Type 0
ReachesNamed arguments before now =
    (command : CommandLine) → IsCommand arguments command
    → now ≤ before + file_bytes (name_of command)

-- at most so many bytes are gone as the command may read
abbrev pub ReadsFew : List (List ℕ) → Option (List ℕ) → Option (List ℕ) → Type 0
ReadsFew arguments before now =
    (command : CommandLine) → IsCommand arguments command → LosesFew (input_use command) before now

-- at most so many bytes are given as the command may read
abbrev pub GivesFew : List (List ℕ) → ℕ → ℕ → Type 0
GivesFew arguments before now =
    (command : CommandLine) → IsCommand arguments command
    → GivesAtMost (input_use command) before now
