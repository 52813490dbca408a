-- The words that output has for items that aren't audited.
use Rattle.std.specs.Prelude.{ℕ, List, ◌++◌, codes}
use Rattle.std.specs.Fmt.{decimal}
use Rattle.msg_body.specs.Words.{message_fault_text}
use Rattle.recording.specs.declared.limits.TheConstants.{MAX_HOPS}
use Rattle.rewrite_script.specs.Words.{script_fault_text}
use Rattle.rewrite_script.specs.declared.limits.TheConstants.{MAX_SCRIPT_BYTES}
use Rattle.hop_audit.specs.declared.fault.ChainFault.{ChainFault}
use Rattle.hop_audit.specs.declared.fault.ChainFault.TheVariants.{Memory, Order, TooManyHops, Message, Script, ScriptTooLong}

-- how output calls the item of this index
abbrev pub item_text : ℕ → List ℕ
item_text index = codes "item " ++ (decimal index ++ codes " ")

-- the words of the fault, with the limit that is passed, or where the fault is
abbrev pub chain_fault_text : ChainFault → List ℕ
chain_fault_text Memory = codes "out of memory"
chain_fault_text (Order offset) = codes "chain " ++ decimal offset
chain_fault_text TooManyHops = codes "hops " ++ decimal MAX_HOPS
chain_fault_text (Message index fault) = item_text index ++ message_fault_text fault
chain_fault_text (Script index fault) = item_text index ++ script_fault_text fault
chain_fault_text (ScriptTooLong index) =
    item_text index ++ (codes "bytes " ++ decimal MAX_SCRIPT_BYTES)
