-- What ends a run before it is done, and for which error of the layers below.
use Rattle.std.specs.Prelude.{◌≡◌, ℕ, Result, Ok, Err}
use Rattle.sfv_read.specs.declared.error.SfError.{SfError}
use Rattle.sfv_read.specs.declared.error.SfError.TheVariants.{Memory as NoErrorMemory, Syntax as BadSyntax}
use Rattle.component_ids.specs.declared.fault.IdFault.{IdFault}
use Rattle.component_ids.specs.declared.fault.IdFault.TheVariants as id
use Rattle.hms_io.specs.Cause.{Rose}
use Rattle.hms_io.specs.declared.read_write.FillError.{FillError}
use Rattle.hms_io.specs.declared.read_write.FillError.TheVariants.{Memory as NoFillMemory, Failed, TooLong as Longer}
use Rattle.hms_io.specs.declared.whole_file.FileError.{FileError}
use Rattle.hms_io.specs.declared.whole_file.FileError.TheVariants.{Memory as NoFileMemory, Failed as FetchFailed, TooLong as LongerFile, Missing as NoFile}
use Rattle.msg_body.specs.declared.error.MessageError.TheVariants as message
use Rattle.msg_body.specs.declared.error.MessageFault.{MessageFault}
use Rattle.msg_body.specs.declared.error.MessageFault.TheVariants as fault
use Rattle.conf.specs.declared.fault.ConfFault.{ConfFault}
use Rattle.conf.specs.declared.fault.ConfFault.TheVariants as conf
use Rattle.rewrite_script.specs.declared.fault.ScriptFault.{ScriptFault}
use Rattle.rewrite_script.specs.declared.fault.ScriptFault.TheVariants as script
use Rattle.signing.specs.declared.fault.WantFault.{WantFault}
use Rattle.signing.specs.declared.fault.WantFault.TheVariants as want
use Rattle.rewrites.specs.declared.fault.WalkFault.{WalkFault}
use Rattle.rewrites.specs.declared.fault.WalkFault.TheVariants as walk
use Rattle.normal_forms.specs.declared.fault.ExplainFault.{ExplainFault}
use Rattle.normal_forms.specs.declared.fault.ExplainFault.TheVariants as explain
use Rattle.rewrite_script.specs.declared.limits.TheConstants.{MAX_SCRIPT_BYTES}
use Rattle.recording.specs.declared.fault.RecordingFault.{RecordingFault}
use Rattle.recording.specs.declared.fault.RecordingFault.TheVariants as recording
use Rattle.hop_audit.specs.declared.fault.ChainFault.{ChainFault}
use Rattle.hop_audit.specs.declared.fault.ChainFault.TheVariants as chain
use Rattle.recording.specs.declared.limits.TheConstants.{MAX_HOPS}
use Rattle.list_texts.specs.declared.fault.FieldsFault.{FieldsFault}
use Rattle.list_texts.specs.declared.fault.FieldsFault.TheVariants as fields
use Rattle.field_lists.specs.declared.from_fault.FromFault.{FromFault}
use Rattle.field_lists.specs.declared.from_fault.FromFault.TheVariants as from
use Rattle.field_lists.specs.declared.to_fault.ToFault.{ToFault}
use Rattle.field_lists.specs.declared.to_fault.ToFault.TheVariants as to
use Rattle.refusals.specs.declared.file.FileRefusal.TheVariants.{Missing, TooLong, Message as NoMessage, Conf as NoConf, Script as NoScript, Recording as NoRecording, Order, TooManyHops, Fields as NoFields}
use Rattle.refusals.specs.declared.role.Role.{Role}
use Rattle.refusals.specs.declared.role.Role.TheVariants as role
use Rattle.refusals.specs.declared.refusal.Refusal.{Refusal}
use Rattle.refusals.specs.declared.refusal.Refusal.TheVariants.{Of, Command}
use Rattle.refusals.specs.declared.refusal.CommandRefusal.TheVariants.{Syntax, Ids, Wishes, NotTaken, Explain, ToMessage, FromMessage}
use Rattle.refusals.specs.declared.refusal.StepRefusal.TheVariants.{LabelUnread, NotApplicable, NotPermitted}
use Rattle.intake.specs.declared.stop.Stop.{Stop}
use Rattle.intake.specs.declared.stop.Stop.TheVariants.{Memory, ReadFault, Refused}

-- how an error of a structured field ends a run: the command is refused, or memory ran out
abbrev pub stop_of_error : SfError → Stop
stop_of_error NoErrorMemory = Memory
stop_of_error (BadSyntax offset) = Refused (Command (Syntax offset))

-- how a fault of identifiers ends a run: the command is refused, or memory ran out
abbrev pub stop_of_fault : IdFault → Stop
stop_of_fault id.Memory = Memory
stop_of_fault fault = Refused (Command (Ids fault))

-- how a failed read of the input, which has this limit, ends a run: it is too long, it failed, or
-- memory ran out
abbrev pub stop_of_fill : ℕ → FillError → Stop
stop_of_fill limit NoFillMemory = Memory
stop_of_fill limit Failed = ReadFault
stop_of_fill limit Longer = Refused (Of role.Input (TooLong limit))

-- how a text of this role that is no message ends a run: it is refused, with its fault, or memory
-- ran out
abbrev pub stop_of_message : Role → MessageFault → Stop
stop_of_message role (fault.Refused message.Memory) = Memory
stop_of_message role own = Refused (Of role (NoMessage own))

-- how a failed read of a file of this role and limit ends a run: none is there, it is too long, it
-- failed, or memory ran out
abbrev pub stop_of_file : Role → ℕ → FileError → Stop
stop_of_file role limit NoFileMemory = Memory
stop_of_file role limit FetchFailed = ReadFault
stop_of_file role limit LongerFile = Refused (Of role (TooLong limit))
stop_of_file role limit NoFile = Refused (Of role Missing)

-- how a fault of a configuration ends a run: it is refused, or memory ran out
abbrev pub stop_of_conf : ConfFault → Stop
stop_of_conf conf.Memory = Memory
stop_of_conf fault = Refused (Of role.Conf (NoConf fault))

-- how a fault of a script ends a run: it is refused, or memory ran out
abbrev pub stop_of_script : ScriptFault → Stop
stop_of_script script.Memory = Memory
stop_of_script fault = Refused (Of role.Script (NoScript fault))

-- how a fault of the wishes for signatures ends a run: the command is refused, or memory ran out
abbrev pub stop_of_want : WantFault → Stop
stop_of_want want.Memory = Memory
stop_of_want fault = Refused (Command (Wishes fault))

-- how a walk over the steps of a script that doesn't come to its end ends a run: a step isn't
-- taken, or memory ran out
abbrev pub stop_of_walk : WalkFault → Stop
stop_of_walk walk.Memory = Memory
stop_of_walk (walk.Unjudged index) = Refused (Command (NotTaken LabelUnread))
stop_of_walk (walk.NotApplicable index) = Refused (Command (NotTaken (NotApplicable index)))
stop_of_walk (walk.NotPermitted index) = Refused (Command (NotTaken (NotPermitted index)))

-- how a fault of an explanation ends a run: the command is refused, or memory ran out
abbrev pub stop_of_explain : ExplainFault → Stop
stop_of_explain explain.Memory = Memory
stop_of_explain fault = Refused (Command (Explain fault))

-- how a fault of a list of fields ends a run: it is refused, or memory ran out
abbrev pub stop_of_fields : FieldsFault → Stop
stop_of_fields fields.Memory = Memory
stop_of_fields fault = Refused (Of role.Input (NoFields fault))

-- how a list that is turned into no message ends a run: the command is refused, or memory ran out
abbrev pub stop_of_to : ToFault → Stop
stop_of_to to.Memory = Memory
stop_of_to fault = Refused (Command (ToMessage fault))

-- how a message that is turned into no list ends a run: the command is refused, or memory ran out
abbrev pub stop_of_from : FromFault → Stop
stop_of_from from.Memory = Memory
stop_of_from fault = Refused (Command (FromMessage fault))

-- how a fault of a recording ends a run: it is refused, or memory ran out
abbrev pub stop_of_recording : RecordingFault → Stop
stop_of_recording recording.Memory = Memory
stop_of_recording fault = Refused (Of role.Input (NoRecording fault))

-- how a fault of a chain ends a run: the input or one of its items is refused, or memory ran out
abbrev pub stop_of_chain : ChainFault → Stop
stop_of_chain chain.Memory = Memory
stop_of_chain (chain.Order offset) = Refused (Of role.Input (Order offset))
stop_of_chain chain.TooManyHops = Refused (Of role.Input (TooManyHops MAX_HOPS))
stop_of_chain (chain.Message index fault) = Refused (Of (role.Item index) (NoMessage fault))
stop_of_chain (chain.Script index fault) = Refused (Of (role.Item index) (NoScript fault))
stop_of_chain (chain.ScriptTooLong index) =
    Refused (Of (role.Item index) (TooLong MAX_SCRIPT_BYTES))

-- what ends the run is a refusal of which this holds, or another reason
abbrev pub IfStopped : Stop → (Refusal → Type 0) → Type 0
IfStopped Memory P = Unit {0}
IfStopped ReadFault P = Unit {0}
IfStopped (Refused refusal) P = P refusal

-- where nothing is read, a run is stopped by such a refusal, or out of memory
abbrev pub IfRefused : Stop → (Refusal → Type 0) → Type 0
IfRefused Memory P = Unit {0}
IfRefused ReadFault P = ⊥
IfRefused (Refused refusal) P = P refusal

-- the refusal is that of a cause
abbrev pub IsRefusalFor : {C : Type 0} → (C → Type 0) → (C → Refusal) → Refusal → Type 0
IsRefusalFor {C} Causes refusal_of refusal =
    (cause : C) × Causes cause × (refusal ≡ refusal_of cause)

-- only a failed read raises the count of faults
abbrev pub CountsStop : {T : Type 0} → ℕ → ℕ → Result T Stop → Type 0
CountsStop before now (Ok value) = now ≡ before
CountsStop before now (Err Memory) = now ≡ before
CountsStop before now (Err ReadFault) = Rose before now
CountsStop before now (Err (Refused refusal)) = now ≡ before
