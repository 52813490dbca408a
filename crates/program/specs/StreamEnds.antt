-- How a run of `gateway` ends: what it has written, item by item, and what was read of its input.
use Rattle.std.specs.Prelude.{◌≡◌, ◌⊎◌, ℕ, Bool, true, false, Option, Some, None, Result, Ok, Err, List}
use Rattle.std.specs.Io.KnownBytes.{Appends, Keeps}
use Rattle.hms_io.specs.Files.{FileMap}
use Rattle.hms_io.specs.declared.status.Status.{Status}
use Rattle.hms_io.specs.declared.status.Status.TheVariants.{Done, NotOk, ReadFault, WriteFault, OutOfMemory}
use Rattle.command_line.specs.Command.{Gateway, GatewayWords, IsCommand}
use Rattle.conf.specs.Configuration.{Configuration}
use Rattle.settings.specs.declared.gateway_conf.GatewayConf.{GatewayConf}
use Rattle.recording.specs.declared.limits.TheConstants.{MAX_ITEMS}
use Rattle.hms_io.specs.Writing.{AppendsPart}
use Rattle.gateway.specs.Served.{Serves}
use Rattle.gateway.specs.declared.fault.StreamFault.{StreamFault}
use Rattle.gateway.specs.declared.fault.StreamFault.TheVariants as stream
use Rattle.intake.specs.Files.{Found, AreFound, Conf as ConfFile}
use Rattle.intake.specs.declared.tables.Needs.TheVariants.{GatewayTables}
use Rattle.refusals.specs.Refusal.{refusal_line, refusal_status}
use Rattle.refusals.specs.declared.file.FileRefusal.{FileRefusal}
use Rattle.refusals.specs.declared.file.FileRefusal.TheVariants.{Recording, OutOfPlace, TooManyItems}
use Rattle.refusals.specs.declared.refusal.Refusal.{Refusal}
use Rattle.refusals.specs.declared.refusal.Refusal.TheVariants.{Of}
use Rattle.refusals.specs.declared.role.Role.TheVariants.{Conf, Input}
use Rattle.program.specs.Commands.{name_of}
use Rattle.program.specs.Ends.{HasReport, WritesRefusal}
use Rattle.program.specs.Intake.{IsConfLacking, IsConfRead}

-- ---- a refusal

-- The line of the refusal is written, and it is told; a part of the line where a write failed, and
-- none of it where no memory was found.
abbrev pub EndsRefused : Refusal → Option (List ℕ) → Option (List ℕ) → Status → Option Refusal
    → Type 0
EndsRefused refusal taken now WriteFault told =
    AppendsPart taken now (refusal_line refusal) × (told ≡ None)
EndsRefused refusal taken now OutOfMemory told = Keeps taken now × (told ≡ None)
EndsRefused refusal taken now status told = Appends taken now (refusal_line refusal)
    × (status ≡ refusal_status refusal) × (told ≡ Some refusal)

-- Nothing is read of the stream: a read of the configuration failed, no memory was found, or it is
-- refused.
abbrev pub EndsBefore : GatewayWords → Found → Option (List ℕ) → Option (List ℕ) → Status
    → Option Refusal → Type 0
EndsBefore words found taken now ReadFault told = Keeps taken now × (told ≡ None)
EndsBefore words found taken now OutOfMemory told = Keeps taken now × (told ≡ None)
EndsBefore words found taken now status told = (cause : FileRefusal)
    × IsConfLacking GatewayTables (Some words.conf) (found ConfFile) cause
    × EndsRefused (Of Conf cause) taken now status told

-- ---- the stream

-- the refusal that a fault of a stream is, if it is one
abbrev pub stream_refusal : StreamFault → Option Refusal
stream_refusal (stream.Recording fault) = Some (Of Input (Recording fault))
stream_refusal (stream.OutOfPlace offset) = Some (Of Input (OutOfPlace offset))
stream_refusal stream.TooManyItems = Some (Of Input (TooManyItems MAX_ITEMS))
stream_refusal fault = None

-- the status of a stream that was served, each message of which passes or not, or of one that a
-- device or a lack of memory has cut off
abbrev pub stream_status : Result Bool StreamFault → Status
stream_status (Ok true) = Done
stream_status (Ok false) = NotOk
stream_status (Err stream.NotRead) = ReadFault
stream_status (Err stream.NotWritten) = WriteFault
stream_status (Err fault) = OutOfMemory

-- what comes after the records: nothing, or the line of a refusal
abbrev pub EndsAfter : Option Refusal → Status → Option (List ℕ) → Option (List ℕ) → Status
    → Option Refusal → Type 0
EndsAfter None own taken now status told = (now ≡ taken) × (status ≡ own) × (told ≡ None)
EndsAfter (Some refusal) own taken now status told = EndsRefused refusal taken now status told

-- why a stream isn't served to its end, if it isn't
abbrev pub refusal_in : Result Bool StreamFault → Option Refusal
refusal_in (Ok all_pass) = None
refusal_in (Err fault) = stream_refusal fault

-- the stream is served by this configuration, and then the run ends
pub record EndsServedBy (conf : Configuration) (settings : GatewayConf)
    (left left_now taken now : Option (List ℕ)) (status : Status) (told : Option Refusal)
    : Type 0 where
  pub served : Result Bool StreamFault
  pub between : Option (List ℕ)
  pub serves : Serves conf settings left left_now taken between served
  pub after : EndsAfter (refusal_in served) (stream_status served) between now status told

-- it is served by the configuration that was found
pub record EndsServed (words : GatewayWords) (found : Found)
    (left left_now taken now : Option (List ℕ)) (status : Status) (told : Option Refusal)
    : Type 0 where
  pub conf : Configuration
  pub read : IsConfRead GatewayTables (Some words.conf) (found ConfFile) conf
  pub settings : GatewayConf
  pub settings_are : conf.gateway ≡ Some settings
  pub served : EndsServedBy conf settings left left_now taken now status told

-- What `gateway` has written, by the status: the stream is unread, or it is served by what was
-- found under the name of its configuration.
abbrev pub EndsStream : GatewayWords → Option FileMap → Type 0 → Option (List ℕ)
    → Option (List ℕ) → Option (List ℕ) → Option (List ℕ) → Status → Option Refusal → Type 0
EndsStream words shelf Same left left_now taken now status told = (found : Found)
    × AreFound shelf (name_of (Gateway words)) found
    × ((Same × EndsBefore words found taken now status told)
    ⊎ EndsServed words found left left_now taken now status told)

-- the same for arguments
abbrev pub WritesStream : List (List ℕ) → Option FileMap → Type 0 → Option (List ℕ)
    → Option (List ℕ) → Option (List ℕ) → Option (List ℕ) → Status → Option Refusal → Type 0
WritesStream arguments shelf Same left left_now taken now status told =
    (words : GatewayWords) → IsCommand arguments (Gateway words)
    → EndsStream words shelf Same left left_now taken now status told

-- ---- why a run is refused

-- the refusal is the outcome, and its line is what was written; or it is that of a run of
-- `gateway`, and its line comes after the records
abbrev pub IsRefusedFor : List (List ℕ) → Option FileMap → Type 0 → Option (List ℕ)
    → Option (List ℕ) → Option (List ℕ) → Option (List ℕ) → Refusal → Type 0
IsRefusedFor arguments shelf Same left left_now taken now refusal =
    WritesRefusal (HasReport arguments shelf Same left left_now) taken now refusal
    ⊎ ((words : GatewayWords) × IsCommand arguments (Gateway words)
    × EndsStream words shelf Same left left_now taken now (refusal_status refusal) (Some refusal))
