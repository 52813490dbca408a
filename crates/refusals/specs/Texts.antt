-- The texts that a run reads: what they are to it, and why they are refused.
use Rattle.std.specs.Prelude.{ℕ, Option, Some, None, List, [], ◌∷◌, ◌++◌, codes}
use Rattle.std.specs.Fmt.{decimal}
use Rattle.std.specs.Str.{byte}
use Rattle.hms_io.specs.declared.status.Status.{Status}
use Rattle.hms_io.specs.declared.status.Status.TheVariants.{BadInput, BadConf, LimitPassed, FileMissing}
use Rattle.msg_body.specs.Words.{message_fault_text}
use Rattle.msg_body.specs.declared.error.MessageError.{MessageError}
use Rattle.msg_body.specs.declared.error.MessageError.TheVariants as message
use Rattle.msg_body.specs.declared.error.MessageFault.{MessageFault}
use Rattle.msg_body.specs.declared.error.MessageFault.TheVariants as fault
use Rattle.conf.specs.Refusals.{fault_number, fault_path}
use Rattle.rewrite_script.specs.Words.{script_fault_text}
use Rattle.rewrite_script.specs.declared.fault.ScriptFault.{ScriptFault}
use Rattle.rewrite_script.specs.declared.fault.ScriptFault.TheVariants as script
use Rattle.recording.specs.Words.{recording_fault_text}
use Rattle.recording.specs.declared.fault.RecordingFault.{RecordingFault}
use Rattle.recording.specs.declared.fault.RecordingFault.TheVariants as recording
use Rattle.list_texts.specs.Words.{fields_fault_text}
use Rattle.list_texts.specs.declared.fault.FieldsFault.{FieldsFault}
use Rattle.list_texts.specs.declared.fault.FieldsFault.TheVariants as fields
use Rattle.refusals.specs.declared.role.Role.{Role}
use Rattle.refusals.specs.declared.role.Role.TheVariants as role
use Rattle.refusals.specs.declared.file.FileRefusal.{FileRefusal}
use Rattle.refusals.specs.declared.file.FileRefusal.TheVariants.{Missing, TooLong, Message, Conf, Script, Recording, Order, TooManyHops, OutOfPlace, TooManyItems, Fields}

-- how output calls the text
abbrev pub role_text : Role → List ℕ
role_text role.Conf = codes "conf"
role_text role.Request = codes "request"
role_text role.Wanted = codes "wanted"
role_text role.Script = codes "script"
role_text role.Other = codes "other"
role_text role.Input = codes "input"
role_text (role.Item index) = codes "item " ++ decimal index

-- a path, after a space, where there is one
abbrev pub path_text : Option (List ℕ) → List ℕ
path_text None = []
path_text (Some path) = byte " " ∷ path

-- why the text is refused: no such file, its limit, its fault, its fault and the path of that, the
-- first item out of order, the limit of hops, the first item out of its place, the limit of items,
-- or the fault of a list of fields
abbrev pub file_text : FileRefusal → List ℕ
file_text Missing = codes "missing"
file_text (TooLong limit) = codes "bytes " ++ decimal limit
file_text (Message fault) = message_fault_text fault
file_text (Conf fault) = decimal (fault_number fault) ++ path_text (fault_path fault)
file_text (Script fault) = script_fault_text fault
file_text (Recording fault) = recording_fault_text fault
file_text (Order offset) = codes "chain " ++ decimal offset
file_text (TooManyHops limit) = codes "hops " ++ decimal limit
file_text (OutOfPlace offset) = codes "chain " ++ decimal offset
file_text (TooManyItems limit) = codes "items " ++ decimal limit
file_text (Fields fault) = fields_fault_text fault

-- a message that passes a limit, or else a bad input
abbrev pub message_status : MessageError → Status
message_status (message.TooLong side) = LimitPassed
message_status (message.TooManyLines side) = LimitPassed
message_status message.ContentTooLong = LimitPassed
message_status error = BadInput

-- a limit that is passed, or else a bad input
abbrev pub fault_status : MessageFault → Status
fault_status (fault.Refused error) = message_status error
fault_status fault = BadInput

-- too many lines, or else a bad script
abbrev pub script_status : ScriptFault → Status
script_status script.TooMany = LimitPassed
script_status fault = BadInput

-- an item that is too long, or else a bad recording
abbrev pub recording_status : RecordingFault → Status
recording_status (recording.ItemTooLong offset) = LimitPassed
recording_status fault = BadInput

-- a name, a value or a content that is too long, or else a bad list of fields
abbrev pub fields_status : FieldsFault → Status
fields_status (fields.TooLong offset) = LimitPassed
fields_status fault = BadInput

-- a missing file, a limit that is passed, or a bad message, configuration, script, recording,
-- chain, stream or list of fields
abbrev pub file_status : FileRefusal → Status
file_status Missing = FileMissing
file_status (TooLong limit) = LimitPassed
file_status (Message fault) = fault_status fault
file_status (Conf fault) = BadConf
file_status (Script fault) = script_status fault
file_status (Recording fault) = recording_status fault
file_status (Order offset) = BadInput
file_status (TooManyHops limit) = LimitPassed
file_status (OutOfPlace offset) = BadInput
file_status (TooManyItems limit) = LimitPassed
file_status (Fields fault) = fields_status fault
