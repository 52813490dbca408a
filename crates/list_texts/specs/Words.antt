-- The words that output has for why a text is no list of fields.
use Rattle.std.specs.Prelude.{ℕ, List, ◌++◌, codes}
use Rattle.std.specs.Fmt.{decimal}
use Rattle.list_texts.specs.declared.fault.FieldsFault.{FieldsFault}
use Rattle.list_texts.specs.declared.fault.FieldsFault.TheVariants as fault

-- the word of the fault, and where it is
abbrev pub fields_fault_text : FieldsFault → List ℕ
fields_fault_text fault.Memory = codes "out of memory"
fields_fault_text (fault.Syntax offset) = codes "fields " ++ decimal offset
fields_fault_text (fault.TooLong offset) = codes "fields-long " ++ decimal offset
