-- How a run ends: what it has written and what is left of its input, by its status.
use Rattle.std.specs.Prelude.{◌≡◌, ◌⊎◌, ◌+◌, ◌≤◌, ℕ, IsTrue, List, [], Option, Some, None, IfSome}
use Rattle.std.specs.Io.KnownBytes.{Appends, Keeps}
use Rattle.std.specs.List.{list_all}
use Rattle.sfv_text.specs.Classes.{is_byte}
use Rattle.hms_io.specs.Cause.{Rose}
use Rattle.hms_io.specs.Files.{FileMap}
use Rattle.hms_io.specs.Reading.{LosesPrefix}
use Rattle.hms_io.specs.declared.status.Status.{Status}
use Rattle.hms_io.specs.declared.status.Status.TheVariants.{ReadFault, WriteFault, OutOfMemory}
use Rattle.command_line.specs.Command.{CommandLine, IsCommand, NoCommand}
use Rattle.hms_io.specs.Writing.{AppendsPart}
use Rattle.intake.specs.Files.{FileNames, Found}
use Rattle.commands.specs.Outcome.{status_of, output_of}
use Rattle.commands.specs.declared.outcome.Outcome.{Outcome}
use Rattle.commands.specs.declared.outcome.Outcome.TheVariants.{Refused}
use Rattle.program.specs.Commands.{InputUse, Unread, Whole, Streamed, input_use, name_of, AreFoundFor}
use Rattle.program.specs.Intake.{named_count, read_order, roles_until}
use Rattle.program.specs.Report.{Reports}
use Rattle.refusals.specs.Laws.{IsOfRefusal}
use Rattle.refusals.specs.Refusal.{refusal_line, refusal_status}
use Rattle.refusals.specs.declared.refusal.Refusal.{Refusal}
use Rattle.refusals.specs.declared.role.Role.TheVariants.{Input, Item}
use Rattle.refusals.specs.declared.file.FileRefusal.TheVariants.{TooLong}
use Rattle.refusals.specs.declared.refusal.Refusal.TheVariants.{Arguments, Of}

-- ---- what is left of the input

-- nothing, where its bytes are known
abbrev pub LeavesNothing : Option (List ℕ) → Option (List ℕ) → Type 0
LeavesNothing before now = IfSome before (λ _. now ≡ Some [])

-- The input is unread where no input is due, or what comes before it is refused; all but one byte
-- more than the limit is left where it is too long; and else nothing. Of a stream it is said with
-- what was written of it.
abbrev pub Leaves : InputUse → Type 0 → Option (List ℕ) → Option (List ℕ) → Outcome → Type 0
Leaves Unread Same before now outcome = Same
Leaves Streamed Same before now outcome = Unit {0}
Leaves (Whole limit) Same before now (Refused (Of Input (TooLong _))) =
    LosesPrefix before now (limit + 1)
Leaves (Whole limit) Same before now (Refused (Of Input refusal)) = LeavesNothing before now
Leaves (Whole limit) Same before now (Refused (Of (Item index) refusal)) =
    LeavesNothing before now
Leaves (Whole limit) Same before now (Refused (Of role refusal)) = Same
Leaves (Whole limit) Same before now (Refused Arguments) = Same
Leaves (Whole limit) Same before now outcome = LeavesNothing before now

-- the same for arguments: the source is unread where they are no command
pub record LeavesFor (arguments : List (List ℕ)) (Same : Type 0) (before now : Option (List ℕ))
    (outcome : Outcome) : Type 0 where
  pub none : NoCommand arguments → Same
  pub some : (command : CommandLine) → IsCommand arguments command
      → Leaves (input_use command) Same before now outcome

-- ---- the outcome

-- Some input has the outcome. Where the bytes of the source are known, they are that input.
pub record HasInput (R : List ℕ → Outcome → Type 0) (L : Outcome → Type 0)
    (before : Option (List ℕ)) (outcome : Outcome) : Type 0 where
  pub input : List ℕ
  pub known : IfSome before (λ bytes. bytes ≡ input)
  pub reports : R input outcome
  pub leaves : L outcome

-- some input has the outcome, with what was found in the files
pub record HasOutcome (R : Found → List ℕ → Outcome → Type 0) (L : Outcome → Type 0)
    (IsOfFiles : Found → Type 0) (before : Option (List ℕ)) (outcome : Outcome) : Type 0 where
  pub found : Found
  pub files : IsOfFiles found
  pub holds : HasInput (R found) L before outcome

-- the same for arguments
abbrev pub HasReport : List (List ℕ) → Option FileMap → Type 0 → Option (List ℕ)
    → Option (List ℕ) → Outcome → Type 0
HasReport arguments shelf Same before now =
    HasOutcome (Reports arguments) (LeavesFor arguments Same before now)
    (AreFoundFor arguments shelf) before

-- ---- what was written

-- What the sink took, by the status, where nothing is written before the outcome is known: nothing,
-- where a read failed or no memory was found; a proper prefix of the output, where a write failed;
-- and else all of the output. An output is of bytes.
abbrev pub Ends : List (List ℕ) → Option FileMap → Type 0 → Option (List ℕ) → Option (List ℕ)
    → Option (List ℕ) → Option (List ℕ) → Status → Type 0
Ends arguments shelf Same before left taken now ReadFault = Keeps taken now
Ends arguments shelf Same before left taken now OutOfMemory = Keeps taken now
Ends arguments shelf Same before left taken now WriteFault =
    (outcome : Outcome) × HasReport arguments shelf Same before left outcome
    × AppendsPart taken now (output_of outcome) × IsTrue (list_all is_byte (output_of outcome))
Ends arguments shelf Same before left taken now status =
    (outcome : Outcome) × HasReport arguments shelf Same before left outcome
    × (status_of outcome ≡ status) × Appends taken now (output_of outcome)
    × IsTrue (list_all is_byte (output_of outcome))

-- ---- why a run is refused

-- the refusal is the outcome, and its line was added to the known bytes
abbrev pub WritesRefusal : (Outcome → Type 0) → Option (List ℕ) → Option (List ℕ) → Refusal
    → Type 0
WritesRefusal Has taken now refusal =
    Has (Refused refusal) × Appends taken now (refusal_line refusal)

-- What is told of a refusal: the run is refused so, and its status is that of the run. Where none
-- is told, no refusal gives the status: what was asked for was written, a device failed, or no
-- memory was found.
abbrev pub TellsWhy : (Refusal → Type 0) → Status → Option Refusal → Type 0
TellsWhy IsRefusedSo status (Some refusal) =
    IsRefusedSo refusal × (refusal_status refusal ≡ status)
TellsWhy IsRefusedSo status None = ¬ IsOfRefusal status

-- ---- the files that are asked for

-- at most so many files are asked for as have a name; where a refusal is told, of those up to and
-- with the one that is refused
abbrev pub AsksFor : FileNames → Option Refusal → ℕ → ℕ → Type 0
AsksFor names (Some refusal) before now =
    now ≤ before + named_count names (roles_until refusal)
AsksFor names None before now = now ≤ before + named_count names read_order

-- the same for arguments
abbrev pub AsksForNamed : List (List ℕ) → Option Refusal → ℕ → ℕ → Type 0
AsksForNamed arguments refusal before now =
    (command : CommandLine) → IsCommand arguments command
    → AsksFor (name_of command) refusal before now

-- ---- the counts of faults

-- the shelf's count rose, and the source is unread; or the source's count rose, and the shelf's is
-- as it was
abbrev pub OneRose : Type 0 → ℕ → ℕ → ℕ → ℕ → Type 0
OneRose Same shelf shelf_now source source_now =
    (Rose shelf shelf_now × Same) ⊎ ((shelf_now ≡ shelf) × Rose source source_now)

-- the count of faults never falls; it rose at the status of its fault, and else it is as it was
pub record CountsFaults (fault status : Status) (before now : ℕ) : Type 0 where
  pub later : before ≤ now
  pub rose : status ≡ fault → Rose before now
  pub kept : (status ≡ fault) ⊎ (now ≡ before)

-- the counts of faults of the shelf and the source never fall: at the status of a failed read just
-- one of them rose, and else both are as they were
pub record CountsReads (Same : Type 0) (status : Status) (shelf shelf_now source source_now : ℕ)
    : Type 0 where
  pub shelf_later : shelf ≤ shelf_now
  pub source_later : source ≤ source_now
  pub rose : status ≡ ReadFault → OneRose Same shelf shelf_now source source_now
  pub kept : (status ≡ ReadFault) ⊎ ((shelf_now ≡ shelf) × (source_now ≡ source))
