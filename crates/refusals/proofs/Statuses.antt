-- The status of a refusal.
use Rattle.field_lists.specs.declared.to_fault.ToFault.{ToFault}
use Rattle.field_lists.specs.declared.to_fault.ToFault.TheVariants as to
use Rattle.list_texts.specs.declared.fault.FieldsFault.{FieldsFault}
use Rattle.list_texts.specs.declared.fault.FieldsFault.TheVariants as fields
use Rattle.msg_body.specs.declared.error.MessageError.{MessageError}
use Rattle.msg_body.specs.declared.error.MessageError.TheVariants as error
use Rattle.msg_body.specs.declared.error.MessageFault.{MessageFault}
use Rattle.msg_body.specs.declared.error.MessageFault.TheVariants as fault
use Rattle.recording.specs.declared.fault.RecordingFault.{RecordingFault}
use Rattle.recording.specs.declared.fault.RecordingFault.TheVariants as recording
use Rattle.refusals.specs.Laws.{IsOfRefusal, HasStatusOfRefusal}
use Rattle.refusals.specs.Refusal.{command_status, sign_status, to_status}
use Rattle.refusals.specs.Texts.{message_status, fault_status, script_status, recording_status, fields_status, file_status}
use Rattle.refusals.specs.declared.file.FileRefusal.{FileRefusal}
use Rattle.refusals.specs.declared.file.FileRefusal.TheVariants.{Missing, TooLong, Message, Conf, Script, Recording, Order, TooManyHops, OutOfPlace, TooManyItems, Fields}
use Rattle.refusals.specs.declared.refusal.Refusal.TheVariants.{Arguments, Of, Command}
use Rattle.refusals.specs.declared.refusal.CommandRefusal.{CommandRefusal}
use Rattle.refusals.specs.declared.refusal.CommandRefusal.TheVariants.{Syntax, Ids, Lacks, Sign, Wishes, NotTaken, Explain, ToMessage, FromMessage, Digest}
use Rattle.rewrite_script.specs.declared.fault.ScriptFault.{ScriptFault}
use Rattle.rewrite_script.specs.declared.fault.ScriptFault.TheVariants as script
use Rattle.signing.specs.declared.fault.SignFault.{SignFault}
use Rattle.signing.specs.declared.fault.SignFault.TheVariants as sign

of_message : (e : MessageError) → IsOfRefusal (message_status e)
of_message error.Memory = tt
of_message (error.TooLong side) = tt
of_message (error.NakedEnd offset) = tt
of_message error.BadStart = tt
of_message (error.TooManyLines side) = tt
of_message (error.BadLine side index) = tt
of_message error.FramingConflict = tt
of_message error.BadLength = tt
of_message error.CodingRefused = tt
of_message (error.BadChunk offset) = tt
of_message error.ContentTooLong = tt

of_fault : (f : MessageFault) → IsOfRefusal (fault_status f)
of_fault (fault.Refused e) = of_message e
of_fault (fault.Truncated count) = tt
of_fault (fault.Trailing offset) = tt

of_script : (f : ScriptFault) → IsOfRefusal (script_status f)
of_script script.Memory = tt
of_script script.TooMany = tt
of_script (script.BadLine index) = tt

of_recording : (f : RecordingFault) → IsOfRefusal (recording_status f)
of_recording recording.Memory = tt
of_recording (recording.Syntax offset) = tt
of_recording (recording.ItemTooLong offset) = tt
of_recording (recording.MomentFalls offset) = tt

of_fields : (f : FieldsFault) → IsOfRefusal (fields_status f)
of_fields fields.Memory = tt
of_fields (fields.Syntax offset) = tt
of_fields (fields.TooLong offset) = tt

of_file : (refusal : FileRefusal) → IsOfRefusal (file_status refusal)
of_file Missing = tt
of_file (TooLong limit) = tt
of_file (Message f) = of_fault f
of_file (Conf f) = tt
of_file (Script f) = of_script f
of_file (Recording f) = of_recording f
of_file (Order offset) = tt
of_file (TooManyHops limit) = tt
of_file (OutOfPlace offset) = tt
of_file (TooManyItems limit) = tt
of_file (Fields f) = of_fields f

of_sign : (f : SignFault) → IsOfRefusal (sign_status f)
of_sign sign.Memory = tt
of_sign sign.InputMalformed = tt
of_sign sign.SignatureMalformed = tt
of_sign sign.LabelThere = tt
of_sign (sign.SelfCover index) = tt
of_sign (sign.TooLong limit) = tt
of_sign (sign.Lacks index lack) = tt

of_to : (f : ToFault) → IsOfRefusal (to_status f)
of_to to.Memory = tt
of_to to.Pseudo = tt
of_to to.SchemeOther = tt
of_to (to.BadField index) = tt
of_to to.BadLength = tt
of_to to.BodyRefused = tt
of_to (to.TooLarge limit) = tt

of_command : (refusal : CommandRefusal) → IsOfRefusal (command_status refusal)
of_command (Syntax offset) = tt
of_command (Ids f) = tt
of_command (Lacks lack id) = tt
of_command (Sign f) = of_sign f
of_command (Wishes f) = tt
of_command (NotTaken cause) = tt
of_command (Explain f) = tt
of_command (ToMessage f) = of_to f
of_command (FromMessage f) = tt
of_command (Digest cause) = tt

pub status_of_refusal : HasStatusOfRefusal
status_of_refusal Arguments = tt
status_of_refusal (Of role refusal) = of_file refusal
status_of_refusal (Command refusal) = of_command refusal
