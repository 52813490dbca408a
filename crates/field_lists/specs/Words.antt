-- The words that output has for why lists of fields and messages are refused.
use Rattle.std.specs.Prelude.{ℕ, List, ◌++◌, codes}
use Rattle.std.specs.Fmt.{decimal}
use Rattle.msg_head.specs.declared.limits.TheConstants.{MAX_HEAD_BYTES, MAX_HEAD_LINES}
use Rattle.field_lists.specs.declared.from_fault.FromFault.{FromFault}
use Rattle.field_lists.specs.declared.from_fault.FromFault.TheVariants as from
use Rattle.field_lists.specs.declared.to_fault.MessageLimit.{MessageLimit}
use Rattle.field_lists.specs.declared.to_fault.MessageLimit.TheVariants.{HeadBytes, TrailerBytes, HeadLines, TrailerLines}
use Rattle.field_lists.specs.declared.to_fault.ToFault.{ToFault}
use Rattle.field_lists.specs.declared.to_fault.ToFault.TheVariants as to

-- the word of a limit of messages, and the limit
abbrev pub limit_text : MessageLimit → List ℕ
limit_text HeadBytes = codes "head-bytes " ++ decimal MAX_HEAD_BYTES
limit_text TrailerBytes = codes "trailer-bytes " ++ decimal MAX_HEAD_BYTES
limit_text HeadLines = codes "head-lines " ++ decimal MAX_HEAD_LINES
limit_text TrailerLines = codes "trailer-lines " ++ decimal MAX_HEAD_LINES

-- the word of the fault, and of a field its index
abbrev pub to_fault_text : ToFault → List ℕ
to_fault_text to.Memory = codes "out of memory"
to_fault_text to.Pseudo = codes "fields-pseudo"
to_fault_text to.SchemeOther = codes "fields-scheme"
to_fault_text (to.BadField index) = codes "fields-line " ++ decimal index
to_fault_text to.BadLength = codes "fields-length"
to_fault_text to.BodyRefused = codes "fields-body"
to_fault_text (to.TooLarge limit) = limit_text limit

-- the word of the fault
abbrev pub from_fault_text : FromFault → List ℕ
from_fault_text from.Memory = codes "out of memory"
from_fault_text from.NoForm = codes "fields-form"
from_fault_text from.NoAuthority = codes "fields-authority"
