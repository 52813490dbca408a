-- The text that a gateway writes for a message.
use Rattle.std.specs.Prelude.{ℕ, Bool, true, List, [], ◌∷◌, ◌++◌, length, codes}
use Rattle.std.specs.Fmt.{decimal}
use Rattle.std.specs.List.{flat_map}
use Rattle.std.specs.Str.{byte}
use Rattle.component_ids.specs.Identifiers.{id_text, is_id_in_range}
use Rattle.derived_values.specs.Words.{lack_word}
use Rattle.msg_body.specs.Words.{message_fault_text}
use Rattle.signing.specs.Words.{sign_fault_text}
use Rattle.verdicts.specs.VerdictLine.{verdict_line}
use Rattle.verdicts.specs.Verdicts.{is_verdict_in_range}
use Rattle.gateway.specs.declared.gateway_record.BadFault.{BadFault}
use Rattle.gateway.specs.declared.gateway_record.BadFault.TheVariants as bad
use Rattle.gateway.specs.declared.gateway_record.HeldFault.{HeldFault}
use Rattle.gateway.specs.declared.gateway_record.HeldFault.TheVariants as held
use Rattle.gateway.specs.declared.gateway_record.GatewayRecord.{GatewayRecord}
use Rattle.gateway.specs.declared.gateway_record.GatewayRecord.TheVariants.{Pass, Stop, Held, Bad}

-- why a message is held
abbrev pub held_text : HeldFault → List ℕ
held_text (held.Sign fault) = sign_fault_text fault
held_text (held.Lacks lack id) = lack_word lack ++ byte " " ∷ id_text id
held_text held.Covered = codes "covered"

-- why a message is bad
abbrev pub bad_text : BadFault → List ℕ
bad_text bad.Related = codes "related"
bad_text (bad.Message fault) = message_fault_text fault

-- the word of a record and the index of the message, and what comes after them
abbrev pub numbered_line : List ℕ → ℕ → List ℕ → List ℕ
numbered_line word index rest = word ++ (decimal index ++ byte " " ∷ rest)

-- the line of the record; after that of a message that passes come its bytes, and LF
abbrev pub record_line : GatewayRecord → List ℕ
record_line (Pass index label message) = numbered_line (codes "pass ") index
    (label ++ byte " " ∷ (decimal (length message) ++ codes "\n"))
record_line (Stop index label verdict) =
    numbered_line (codes "stop ") index (verdict_line (label, verdict))
record_line (Held index fault) =
    numbered_line (codes "held ") index (held_text fault ++ codes "\n")
record_line (Bad index fault) = numbered_line (codes "bad ") index (bad_text fault ++ codes "\n")

-- the bytes of a message that passes, and LF
abbrev pub passed_text : GatewayRecord → List ℕ
passed_text (Pass index label message) = message ++ codes "\n"
passed_text record_ = []

-- all that is written for a message
abbrev pub record_text : GatewayRecord → List ℕ
record_text record_ = record_line record_ ++ passed_text record_

-- all that is written for messages
abbrev pub records_text : List GatewayRecord → List ℕ
records_text records = flat_map record_text records

-- ---- what can be written

-- the component that lacks a value, if that is why, can be written as a structured field
abbrev pub is_held_in_range : HeldFault → Bool
is_held_in_range (held.Lacks lack id) = is_id_in_range id
is_held_in_range fault = true

-- so can the component at which the first label fails
abbrev pub is_record_in_range : GatewayRecord → Bool
is_record_in_range (Stop index label verdict) = is_verdict_in_range verdict
is_record_in_range (Held index fault) = is_held_in_range fault
is_record_in_range record_ = true
