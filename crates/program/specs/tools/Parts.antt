-- What the parts of a run keep. No public clause cites this module.
use Rattle.std.specs.Prelude.{◌≡◌, ◌⊎◌, ◌+◌, ◌≤◌, ⊤, ℕ, Bool, false, IsTrue, List, [], ◌∷◌, codes, sum_by, Option, Some, None, IfNone, IsSome, is_some, Result, Err, option_map}
use Rattle.std.specs.Io.KnownBytes.{Appends, Keeps}
use Rattle.std.specs.List.{filter, list_all}
use Rattle.std.specs.Str.{bytes_eq}
use Rattle.sfv_text.specs.Classes.{is_byte}
use Rattle.hms_io.specs.Files.{FileMap, KeepsFiles}
use Rattle.hms_io.specs.declared.status.Status.{Status}
use Rattle.hms_io.specs.declared.status.Status.TheVariants.{OutOfMemory, ReadFault as ReadFailed, WriteFault}
use Rattle.msg_body.specs.Messages.{Message, IsMessage}
use Rattle.msg_body.specs.Views.{message_of}
use Rattle.msg_body.specs.WholeTexts.{reading_for}
use Rattle.component_values.specs.Context.{answers_head}
use Rattle.conf.specs.Configuration.{Configuration}
use Rattle.conf.specs.ConfMeaning.{meaning}
use Rattle.verdicts.specs.Contexts.{context_for}
use Rattle.rewrite_script.specs.declared.rewrite.Rewrite.{Rewrite}
use Rattle.hms_io.specs.Writing.{AppendsPart}
use Rattle.gateway.specs.declared.fault.StreamFault.{StreamFault}
use Rattle.gateway.specs.declared.fault.StreamFault.TheVariants.{NotWritten}
use Rattle.refusals.specs.declared.refusal.TheConstants.{MAX_INPUT_BYTES}
use Rattle.refusals.specs.declared.role.Role.TheVariants.{Input, Item, Other}
use Rattle.refusals.specs.declared.file.FileRefusal.TheVariants.{TooLong, Message as NoMessage}
use Rattle.refusals.specs.declared.refusal.Refusal.{Refusal}
use Rattle.refusals.specs.declared.refusal.Refusal.TheVariants.{Of, Command}
use Rattle.command_line.specs.Command.{CommandLine, IsCommand}
use Rattle.intake.specs.Files.{AreFound, FileNames, FileRole, Conf as ConfFile, Request as RequestFile, HasFound, file_bytes, file_count, file_limit, file_names}
use Rattle.commands.specs.Layers.{ReadsThen}
use Rattle.intake.specs.MessageFiles.{IsMessageFile, IsMessageFileRefused, IsRequested}
use Rattle.intake.specs.Messages.{IsInputMessage, IsInputRefused}
use Rattle.commands.specs.Outcome.{output_of, refusal_of, status_of, IfOutcome}
use Rattle.commands.specs.declared.outcome.Outcome.{Outcome}
use Rattle.commands.specs.declared.outcome.Outcome.TheVariants.{Done, NotOk, Refused}
use Rattle.intake.specs.declared.stop.Stop.{Stop}
use Rattle.intake.specs.declared.tables.Needs.{Needs}
use Rattle.intake.specs.declared.stop.Stop.TheVariants.{ReadFault, Memory as NoMemory, Refused as StopRefused}
use Rattle.program.specs.Commands.{LosesAtMost, Whole, name_of}
use Rattle.program.specs.Ends.{CountsFaults, HasOutcome, Leaves, OneRose}
use Rattle.program.specs.Intake.{IsConfRead, TakenValues, named_count, read_order, roles_until}
use Rattle.program.specs.Report.{Answers, ReportsFiles}
use Rattle.intake.specs.declared.taken.FilesRead.{FilesRead}

-- what was read of the files of a command, the other record of the message aside
pub record FileValues : Type 0 where
  pub conf : Configuration
  pub related : Option Message
  pub wishes : Option Message
  pub script : List Rewrite

-- what the borrowed parts stand for
abbrev pub values_of : FilesRead → FileValues
values_of files = record {
  conf = meaning files.conf.now;
  related = option_map (λ view. message_of view.now) files.related;
  wishes = option_map (λ view. message_of view.now) files.wishes;
  script = files.script.now;
}

-- there is another record of the message where its file has a name, and it is a whole message that
-- may answer this request
abbrev pub HasOther : Option (List ℕ) → Option Message → Option Message → Type 0
HasOther name related None = name ≡ None
HasOther name related (Some other) = IsMessage (answers_head related) other

-- there is a request where its file has a name
abbrev pub HasRequested : Option (List ℕ) → Option Message → Type 0
HasRequested None related = ⊤
HasRequested (Some name) related = IsSome related

-- what is taken with this other record, if any, where the input is this message
abbrev pub taken_with : FileValues → Option Message → Message → TakenValues
taken_with files other message = record {
  conf = files.conf;
  wishes = files.wishes;
  script = files.script;
  other = other;
  context = context_for files.conf message files.related;
}

-- what comes of an input after these files and the other record
abbrev pub ReportsMessage : Answers → FileValues → Option Message → List ℕ → Outcome → Type 0
ReportsMessage Then files other input =
    ReadsThen (IsInputMessage (reading_for files.related) input)
    (IsInputRefused (reading_for files.related) input) (λ refusal. Of Input refusal)
    (λ message. Then (taken_with files other message))

-- what comes of what was found for the other record of the message, and of an input, after these
-- files
abbrev pub ReportsRecord : Answers → FileValues → Option (List ℕ) → Option (List ℕ) → List ℕ
    → Outcome → Type 0
ReportsRecord Then files name found input =
    ReadsThen (IsMessageFile (reading_for files.related) name found)
    (IsMessageFileRefused (reading_for files.related) name found) (λ refusal. Of Other refusal)
    (λ other. ReportsMessage Then files other input)

-- the configuration was read, of files that are kept since
pub record HasConf (needs : Needs) (names : FileNames) (first now : Option FileMap)
    (conf : Configuration) : Type 0 where
  pub kept : KeepsFiles first now
  pub configured : HasFound first (names ConfFile)
      (λ found. IsConfRead needs (names ConfFile) found conf)

-- it was, and the request that the input answers, where one is named
pub record HasRequest (needs : Needs) (names : FileNames) (first now : Option FileMap)
    (conf : Configuration) (related : Option Message) : Type 0 where
  pub before : HasConf needs names first now conf
  pub requested : HasFound first (names RequestFile)
      (λ found. IsRequested (names RequestFile) found related)

-- a run comes to an outcome with the files of these names
abbrev pub HasFilesOutcome : Needs → Answers → FileNames → Option FileMap → Type 0
    → Option (List ℕ) → Option (List ℕ) → Outcome → Type 0
HasFilesOutcome needs Then names shelf Same before now =
    HasOutcome (ReportsFiles needs Then names) (Leaves (Whole MAX_INPUT_BYTES) Same before now)
    (AreFound shelf names) before

-- of a source at most so many bytes are read: it isn't read after its end, and each read but one
-- gives a byte
pub record ReadsAtMost {S : Type 0} (left : S → Option (List ℕ))
    (given ended idle faults : S → ℕ) (most : ℕ) (before now : S) : Type 0 where
  pub later : faults before ≤ faults now
  pub few : LosesAtMost most (left before) (left now)
  pub gives : given now ≤ given before + most
  pub ends : ended before ≡ 0 → ended now ≤ 1
  pub idles : idle now ≤ idle before + 1

-- a shelf is asked for one file, or for none where it has no name
pub record AsksOne {X S : Type 0} (files : S → Option FileMap) (asked reached : S → ℕ)
    (weight : ℕ) (name : Option X) (before now : S) : Type 0 where
  pub keeps : KeepsFiles (files before) (files now)
  pub asks : asked now ≤ asked before + 1
  pub reaches : reached now ≤ reached before + weight
  pub unasked : IfNone name (now ≡ before)

-- of the files of these names at most so many were asked for, and so many bytes read, and where no
-- file has a name, the shelf is the same
pub record Asks (names : FileNames) (before now : Option FileMap)
    (asked asked_now reached reached_now : ℕ) (Same : Type 0) : Type 0 where
  pub files : KeepsFiles before now
  pub asks : asked_now ≤ asked + file_count names
  pub reaches : reached_now ≤ reached + file_bytes names
  pub unasked : ((role : FileRole) → names role ≡ None) → Same

-- the files that are read before the outcome is known
abbrev pub roles_read : Outcome → List FileRole
roles_read (Refused refusal) = roles_until refusal
roles_read outcome = read_order

-- where there is an outcome, at most so many files of these names were asked for
abbrev pub AsksUntil : FileNames → Result Outcome Stop → ℕ → ℕ → Type 0
AsksUntil names result before now =
    IfOutcome result (λ outcome. now ≤ before + named_count names (roles_read outcome))

-- how many bytes are read of the files of these roles that have a name
abbrev pub named_bytes : FileNames → List FileRole → ℕ
named_bytes names roles =
    sum_by (λ role. file_limit role + 1) (filter (λ role. is_some (names role)) roles)

-- the same of files and of bytes, where those of the first roles were asked for before
pub record AsksRest {S : Type 0} (files : S → Option FileMap) (asked reached : S → ℕ)
    (names : FileNames) (roles : List FileRole) (result : Result Outcome Stop) (before now : S)
    : Type 0 where
  pub kept : KeepsFiles (files before) (files now)
  pub until : (n : ℕ) → asked before ≤ n + named_count names roles
      → AsksUntil names result n (asked now)
  pub asks : (n : ℕ) → asked before ≤ n + named_count names roles
      → asked now ≤ n + file_count names
  pub reaches : (n : ℕ) → reached before ≤ n + named_bytes names roles
      → reached now ≤ n + file_bytes names
  pub unasked : ((role : FileRole) → names role ≡ None) → now ≡ before

-- the same for arguments, and at any end at most all are asked for
pub record AsksOf (arguments : List (List ℕ)) (result : Result Outcome Stop) (before now : ℕ)
    : Type 0 where
  pub until : (command : CommandLine) → IsCommand arguments command
      → AsksUntil (name_of command) result before now
  pub most : (command : CommandLine) → IsCommand arguments command
      → now ≤ before + file_count (name_of command)

-- only a failed read raises just one of the two counts
abbrev pub CountsOne : Type 0 → ℕ → ℕ → ℕ → ℕ → Result Outcome Stop → Type 0
CountsOne Same shelf shelf_now source source_now (Err ReadFault) =
    OneRose Same shelf shelf_now source source_now
CountsOne Same shelf shelf_now source source_now result =
    (shelf_now ≡ shelf) × (source_now ≡ source)

-- of the source at most so many bytes are read, and of both devices only a failed read raises just
-- one of the counts of faults
pub record UsesDevices {F S : Type 0} (shelf_faults : F → ℕ) (left : S → Option (List ℕ))
    (given ended idle faults : S → ℕ) (most : ℕ) (result : Result Outcome Stop)
    (shelf shelf_now : F) (source source_now : S) : Type 0 where
  pub cause : CountsOne (source_now ≡ source) (shelf_faults shelf) (shelf_faults shelf_now)
      (faults source) (faults source_now) result
  pub later : shelf_faults shelf ≤ shelf_faults shelf_now
  pub reads : ReadsAtMost left given ended idle faults most source source_now

-- the outcome is the command's own: no refusal, or one of the command
abbrev pub IsOwn : Outcome → Type 0
IsOwn (Done text) = ⊤
IsOwn (NotOk text) = ⊤
IsOwn (Refused (Command refusal)) = ⊤
IsOwn (Refused refusal) = ⊥

-- the outcome comes once all of the input was read
abbrev pub IsAfterInput : Outcome → Type 0
IsAfterInput (Refused (Of Input (NoMessage fault))) = ⊤
IsAfterInput outcome = IsOwn outcome

-- a text of more bytes than it may have is refused
abbrev pub too_long : ℕ → Outcome
too_long limit = Refused (Of Input (TooLong limit))

-- the outcome comes once all of a text was read, which isn't refused for its length
abbrev pub IsAfterText : Outcome → Type 0
IsAfterText (Refused (Of Input (TooLong limit))) = ⊥
IsAfterText (Refused (Of Input refusal)) = ⊤
IsAfterText (Refused (Of (Item index) refusal)) = ⊤
IsAfterText outcome = IsOwn outcome

-- of the files a configuration alone has this name
abbrev pub conf_names : Option (List ℕ) → FileNames
conf_names name = file_names name None None None None

-- ---- how an outcome is written

-- all of the output was written, and a refusal is told; a proper prefix of it was written; or no
-- memory was found for it, and nothing was written
abbrev pub IsWritten : Outcome → Option (List ℕ) → Option (List ℕ) → Status → Option Refusal
    → Type 0
IsWritten outcome taken now status refusal =
    ((status ≡ status_of outcome) × (refusal ≡ refusal_of outcome)
    × Appends taken now (output_of outcome) × IsTrue (list_all is_byte (output_of outcome)))
    ⊎ (((status ≡ WriteFault) × (refusal ≡ None)
    × AppendsPart taken now (output_of outcome) × IsTrue (list_all is_byte (output_of outcome)))
    ⊎ ((status ≡ OutOfMemory) × (refusal ≡ None) × Keeps taken now))

-- what was written where a run is stopped: the line of a refusal, or nothing
abbrev pub IsWrittenStop : Stop → Option (List ℕ) → Option (List ℕ) → Status → Option Refusal
    → Type 0
IsWrittenStop (StopRefused refusal) taken now status told =
    IsWritten (Refused refusal) taken now status told
IsWrittenStop ReadFault taken now status told =
    Keeps taken now × (status ≡ ReadFailed) × (told ≡ None)
IsWrittenStop NoMemory taken now status told =
    Keeps taken now × (status ≡ OutOfMemory) × (told ≡ None)

-- only a write of what comes after the records raises the count of faults further
abbrev pub CountsAfter : StreamFault → Status → ℕ → ℕ → Type 0
CountsAfter NotWritten status before now = (status ≡ WriteFault) × (now ≡ before)
CountsAfter fault status before now = CountsFaults WriteFault status before now

-- ---- arguments

-- the first word is the name of the command that writes before it has read all
abbrev pub begin_stream : List (List ℕ) → Bool
begin_stream [] = false
begin_stream (name ∷ words) = bytes_eq name (codes "gateway")
