-- The words that output has for what a recording, or its order, is refused for.
use Rattle.std.specs.Prelude.{ℕ, List, ◌++◌, codes}
use Rattle.std.specs.Fmt.{decimal}
use Rattle.recording.specs.declared.limits.TheConstants.{MAX_HOPS, MAX_ITEM_BYTES, MAX_ITEMS}
use Rattle.recording.specs.declared.chain.OrderFault.{OrderFault}
use Rattle.recording.specs.declared.chain.OrderFault.TheVariants as order
use Rattle.recording.specs.declared.fault.RecordingFault.{RecordingFault}
use Rattle.recording.specs.declared.fault.RecordingFault.TheVariants.{Memory, Syntax, ItemTooLong, MomentFalls}
use Rattle.recording.specs.declared.item_fault.ItemFault.{ItemFault}
use Rattle.recording.specs.declared.item_fault.ItemFault.TheVariants as item

-- the word of the fault, with the limit that is passed, or where the fault is
abbrev pub recording_fault_text : RecordingFault → List ℕ
recording_fault_text Memory = codes "out of memory"
recording_fault_text (Syntax offset) = codes "recording " ++ decimal offset
recording_fault_text (ItemTooLong offset) = codes "item " ++ decimal MAX_ITEM_BYTES
recording_fault_text (MomentFalls offset) = codes "moment " ++ decimal offset

-- the word of a fault of a source: that of what it gives, or of the limit that is passed
abbrev pub item_fault_text : ItemFault → List ℕ
item_fault_text item.Memory = codes "out of memory"
item_fault_text item.Failed = codes "a read failed"
item_fault_text (item.Recording fault) = recording_fault_text fault
item_fault_text item.TooManyItems = codes "items " ++ decimal MAX_ITEMS

-- the word of a fault of the order: where it is, or the limit that is passed
abbrev pub order_fault_text : OrderFault → List ℕ
order_fault_text order.Memory = codes "out of memory"
order_fault_text (order.Order offset) = codes "chain " ++ decimal offset
order_fault_text order.TooManyHops = codes "hops " ++ decimal MAX_HOPS
