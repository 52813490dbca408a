-- The words of errors and of statuses.
use Rattle.std.specs.Prelude.{ℕ, List, codes}
use Rattle.hms_io.specs.declared.read_write.FillError.{FillError}
use Rattle.hms_io.specs.declared.read_write.FillError.TheVariants as fill
use Rattle.hms_io.specs.declared.whole_file.FileError.{FileError}
use Rattle.hms_io.specs.declared.whole_file.FileError.TheVariants as file
use Rattle.hms_io.specs.declared.status.Status.{Status}
use Rattle.hms_io.specs.declared.status.Status.TheVariants.{Done, NotOk, BadArguments, BadInput, ReadFault, WriteFault, OutOfMemory, BadConf, LimitPassed, FileMissing}

-- why a source isn't read whole
abbrev pub fill_error_text : FillError → List ℕ
fill_error_text fill.Memory = codes "out of memory"
fill_error_text fill.Failed = codes "a read failed"
fill_error_text fill.TooLong = codes "the input is longer than the limit"

-- why a file isn't taken
abbrev pub file_error_text : FileError → List ℕ
file_error_text file.Memory = codes "out of memory"
file_error_text file.Failed = codes "a fetch failed"
file_error_text file.TooLong = codes "the file is longer than the limit"
file_error_text file.Missing = codes "the file is missing"

-- what a status means
abbrev pub status_text : Status → List ℕ
status_text Done = codes "done"
status_text NotOk = codes "not ok"
status_text BadArguments = codes "bad arguments"
status_text BadInput = codes "bad input"
status_text ReadFault = codes "a read failed"
status_text WriteFault = codes "a write failed"
status_text OutOfMemory = codes "out of memory"
status_text BadConf = codes "bad configuration"
status_text LimitPassed = codes "a limit was passed"
status_text FileMissing = codes "a file is missing"
