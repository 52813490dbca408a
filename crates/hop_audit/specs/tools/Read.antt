-- What the code answers for the texts of items. No public clause cites this module.
use Rattle.std.specs.Prelude.{◌≡◌, ⊤, ℕ, ◌<◌, ◌≤◌, List, length, Result, Ok, Err}
use Rattle.msg_body.specs.Views.{MessageParts, message_of}
use Rattle.rewrite_script.specs.Causes.{IsScriptFault}
use Rattle.rewrite_script.specs.declared.fault.ScriptFault.{ScriptFault}
use Rattle.rewrite_script.specs.declared.fault.ScriptFault.TheVariants.{Memory as Exhausted, TooMany, BadLine}
use Rattle.rewrite_script.specs.declared.rewrite.Rewrite.{Rewrite}
use Rattle.hop_audit.specs.declared.fault.ChainFault.{ChainFault}
use Rattle.hop_audit.specs.declared.fault.ChainFault.TheVariants.{Memory, Message as NoMessage, Script as NoScript, ScriptTooLong}
use Rattle.rewrite_script.specs.declared.limits.TheConstants.{MAX_SCRIPT_BYTES}
use Rattle.msg_body.specs.declared.whole.Reading.{Reading}
use Rattle.hop_audit.specs.ChainValues.{IsScriptItem}
use Rattle.msg_body.specs.WholeTexts.{IsMessageFault, IsWhole}

-- the message of the item with this index, or why it is none
abbrev pub SaysMessage : ℕ → Reading → List ℕ → Result MessageParts ChainFault → Type 0
SaysMessage item reading text (Ok view) = IsWhole reading text (message_of view)
SaysMessage item reading text (Err Memory) = ⊤
SaysMessage item reading text (Err (NoMessage index fault)) =
    (index ≡ item) × IsMessageFault reading text fault
SaysMessage item reading text (Err fault) = ⊥

-- why the item with this index is no script
abbrev pub script_fault : ℕ → ScriptFault → ChainFault
script_fault item Exhausted = Memory
script_fault item TooMany = NoScript item TooMany
script_fault item (BadLine index) = NoScript item (BadLine index)

-- the script of the item with this index, or why it is none
abbrev pub SaysScript : ℕ → List ℕ → Result (List Rewrite) ChainFault → Type 0
SaysScript item text (Ok script) = IsScriptItem text script
SaysScript item text (Err Memory) = ⊤
SaysScript item text (Err (NoScript index fault)) =
    (index ≡ item) × (length text ≤ MAX_SCRIPT_BYTES) × IsScriptFault text fault
SaysScript item text (Err (ScriptTooLong index)) =
    (index ≡ item) × (MAX_SCRIPT_BYTES < length text)
SaysScript item text (Err fault) = ⊥
