-- Laws of what is read.
use Rattle.std.specs.Prelude.{◌<◌, ⊤, ℕ, IsTrue, List, slice_index, Option}
use Rattle.std.specs.List.{list_all}
use Rattle.sfv_text.specs.Classes.{is_byte}
use Rattle.msg_body.specs.declared.whole.Reading.{Reading}
use Rattle.conf.specs.Configuration.{Configuration}
use Rattle.settings.specs.Valid.{IsValid}
use Rattle.rewrite_script.specs.Lines.{is_writable}
use Rattle.rewrite_script.specs.Scripts.{HaveValues}
use Rattle.rewrite_script.specs.declared.rewrite.Rewrite.{Rewrite}
use Rattle.intake.specs.declared.tables.Needs.{Needs}
use Rattle.intake.specs.Configured.{IsConfigured, IsConfRefused}
use Rattle.intake.specs.Layers.{IsDecisive, HasAnswer}
use Rattle.intake.specs.Messages.{IsInputMessage, IsInputRefused}
use Rattle.intake.specs.MessageFiles.{IsMessageFile, IsMessageFileRefused, IsRequested, IsRequestRefused, IsWanted, IsWantedRefused, IsOfBytes}
use Rattle.intake.specs.Scripts.{IsScripted, IsScriptRefused}
use Rattle.intake.specs.Tables.{HasTables, IsTableMissing}

-- what was found under a name is at most one configuration, or is refused for at most one cause
abbrev pub IsConfigurationDecided : Type 0
IsConfigurationDecided =
    (name found : Option (List ℕ)) → IsDecisive (IsConfigured name found) (IsConfRefused name found)

-- a configuration has what is needed, or is refused for at most one cause
abbrev pub AreTablesDecided : Type 0
AreTablesDecided =
    (needs : Needs) (conf : Configuration)
    → IsDecisive (λ (_ : ⊤). HasTables needs conf) (IsTableMissing needs conf)

-- what was found under a name is at most one request, or is refused for at most one cause
abbrev pub IsRequestDecided : Type 0
IsRequestDecided =
    (name found : Option (List ℕ))
    → IsDecisive (IsRequested name found) (IsRequestRefused name found)

-- what was found under a name is at most one message that wishes signatures, or is refused for at
-- most one cause
abbrev pub IsWantedDecided : Type 0
IsWantedDecided =
    (name found : Option (List ℕ)) → IsDecisive (IsWanted name found) (IsWantedRefused name found)

-- what was found under a name is at most one message, read in this way, or is refused for at most
-- one cause
abbrev pub IsRecordDecided : Type 0
IsRecordDecided =
    (reading : Reading) (name found : Option (List ℕ))
    → IsDecisive (IsMessageFile reading name found) (IsMessageFileRefused reading name found)

-- what was found under a name is at most one script, or is refused for at most one cause
abbrev pub IsScriptDecided : Type 0
IsScriptDecided =
    (name found : Option (List ℕ)) → IsDecisive (IsScripted name found) (IsScriptRefused name found)

-- an input is at most one message, read in this way, or is refused for at most one cause
abbrev pub IsInputDecided : Type 0
IsInputDecided =
    (reading : Reading) (input : List ℕ)
    → IsDecisive (IsInputMessage reading input) (IsInputRefused reading input)

-- ---- each has an answer

-- what was found under a name is a configuration, or there is a cause to refuse it
abbrev pub HasConfiguration : Type 0
HasConfiguration =
    (name found : Option (List ℕ)) → HasAnswer (IsConfigured name found) (IsConfRefused name found)

-- a configuration has what is needed, or there is a cause to refuse it
abbrev pub HaveTables : Type 0
HaveTables =
    (needs : Needs) (conf : Configuration)
    → HasAnswer (λ (_ : ⊤). HasTables needs conf) (IsTableMissing needs conf)

-- what was found under a name, and is of bytes, is a request, or there is a cause to refuse it
abbrev pub HasRequest : Type 0
HasRequest =
    (name found : Option (List ℕ)) → IsOfBytes found
    → HasAnswer (IsRequested name found) (IsRequestRefused name found)

-- what was found under a name, and is of bytes, is a message that wishes signatures, or there is a
-- cause to refuse it
abbrev pub HasWanted : Type 0
HasWanted =
    (name found : Option (List ℕ)) → IsOfBytes found
    → HasAnswer (IsWanted name found) (IsWantedRefused name found)

-- what was found under a name, and is of bytes, is a message, read in this way, or there is a cause
-- to refuse it
abbrev pub HasRecord : Type 0
HasRecord =
    (reading : Reading) (name found : Option (List ℕ)) → IsOfBytes found
    → HasAnswer (IsMessageFile reading name found) (IsMessageFileRefused reading name found)

-- what was found under a name is a script, or there is a cause to refuse it
abbrev pub HasScript : Type 0
HasScript =
    (name found : Option (List ℕ)) → HasAnswer (IsScripted name found) (IsScriptRefused name found)

-- an input of bytes is a message, read in this way, or there is a cause to refuse it
abbrev pub HasMessage : Type 0
HasMessage =
    (reading : Reading) (input : List ℕ) → IsTrue (list_all is_byte input)
    → HasAnswer (IsInputMessage reading input) (IsInputRefused reading input)

-- ---- what is read has its form

-- lines can write a script that was found
abbrev pub IsWritableWhereScripted : Type 0
IsWritableWhereScripted =
    (name found : Option (List ℕ)) (script : List Rewrite) → IsScripted name found script
    → IsTrue (list_all is_writable script)

-- the words of a script that was found have values
abbrev pub HaveValuesWhereScripted : Type 0
HaveValuesWhereScripted =
    (name found : Option (List ℕ)) (script : List Rewrite) → IsScripted name found script
    → HaveValues script

-- a configuration that was found is a valid one
abbrev pub IsValidWhereConfigured : Type 0
IsValidWhereConfigured =
    (name found : Option (List ℕ)) (conf : Configuration)
    → IsConfigured name found conf → IsValid conf

-- a text whose entries are all below 256 is of bytes
abbrev pub IsOfBytesWhereBelow : Type 0
IsOfBytesWhereBelow =
    (text : List ℕ) → ((i : ℕ) → slice_index text i < 256) → IsTrue (list_all is_byte text)
