-- The numbers of the statuses.
use Rattle.std.specs.Prelude.{ℕ}
use Rattle.hms_io.specs.declared.status.Status.{Status}
use Rattle.hms_io.specs.declared.status.Status.TheVariants.{Done, NotOk, BadArguments, BadInput, ReadFault, WriteFault, OutOfMemory, BadConf, LimitPassed, FileMissing}

-- the number that the process exits with
abbrev pub status_code : Status → ℕ
status_code Done = 0
status_code NotOk = 1
status_code BadArguments = 2
status_code BadInput = 3
status_code ReadFault = 4
status_code WriteFault = 5
status_code OutOfMemory = 6
status_code BadConf = 7
status_code LimitPassed = 8
status_code FileMissing = 9
