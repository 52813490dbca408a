-- What a gateway has written of a stream, and how it ends.
use Rattle.std.specs.Prelude.{◌≡◌, ℕ, Bool, Option, Result, Ok, Err, List, [], ◌∷◌, ◌++◌}
use Rattle.std.specs.Io.KnownBytes.{Appends, Consumes, IsAtEnd}
use Rattle.std.specs.List.{list_all}
use Rattle.hms_io.specs.Cause.{Rose}
use Rattle.hms_io.specs.Writing.{AppendsPart}
use Rattle.settings.specs.Configuration.{Configuration}
use Rattle.settings.specs.declared.gateway_conf.GatewayConf.{GatewayConf}
use Rattle.gateway.specs.Records.{is_pass}
use Rattle.gateway.specs.RecordTexts.{record_text, records_text}
use Rattle.gateway.specs.Streams.{IsServed, IsServedUpTo}
use Rattle.gateway.specs.declared.fault.StreamFault.{StreamFault}
use Rattle.gateway.specs.declared.fault.StreamFault.TheVariants.{NotRead, NotWritten}
use Rattle.gateway.specs.declared.gateway_record.GatewayRecord.{GatewayRecord}

-- of the last record a part was written, and those before it whole
pub record IsBrokenOff (records : List GatewayRecord) (before now : Option (List ℕ))
    : Type 0 where
  pub earlier : List GatewayRecord
  pub last : GatewayRecord
  pub records_are : records ≡ earlier ++ last ∷ []
  pub between : Option (List ℕ)
  pub whole : Appends before between (records_text earlier)
  pub part : AppendsPart between now (record_text last)

-- the records were written; where a write failed, the last one in part
abbrev pub WritesRecords : List GatewayRecord → Option (List ℕ) → Option (List ℕ) → StreamFault
    → Type 0
WritesRecords records before now NotWritten = IsBrokenOff records before now
WritesRecords records before now fault = Appends before now (records_text records)

-- What was written of the stream whose text was read so far, where this is left of it: all its
-- records, and whether each message passed; or those up to a fault.
abbrev pub IsWrittenOf : Configuration → GatewayConf → List ℕ → Option (List ℕ)
    → Option (List ℕ) → Option (List ℕ) → Result Bool StreamFault → Type 0
IsWrittenOf conf settings text left taken now (Ok all_pass) = (records : List GatewayRecord)
    × IsServed conf settings text records × IsAtEnd left
    × Appends taken now (records_text records) × (all_pass ≡ list_all is_pass records)
IsWrittenOf conf settings text left taken now (Err fault) = (records : List GatewayRecord)
    × IsServedUpTo conf settings text left records fault × WritesRecords records taken now fault

-- Some text was read of the source, and this was written of it. Where the bytes of the source are
-- known, they begin with it, and a whole stream is all of them.
pub record Serves (conf : Configuration) (settings : GatewayConf)
    (left left_now taken taken_now : Option (List ℕ)) (result : Result Bool StreamFault)
    : Type 0 where
  pub text : List ℕ
  pub read : Consumes left left_now text
  pub written : IsWrittenOf conf settings text left_now taken taken_now result

-- only a failed read raises the count of faults of the source
abbrev pub CountsSource : {T : Type 0} → ℕ → ℕ → Result T StreamFault → Type 0
CountsSource before now (Err NotRead) = Rose before now
CountsSource before now result = now ≡ before

-- only a failed write raises that of the sink
abbrev pub CountsSink : {T : Type 0} → ℕ → ℕ → Result T StreamFault → Type 0
CountsSink before now (Err NotWritten) = Rose before now
CountsSink before now result = now ≡ before

-- how many writes failed before this answer: one, where it says so
abbrev pub failed_writes : Result Bool StreamFault → ℕ
failed_writes (Err NotWritten) = 1
failed_writes result = 0
