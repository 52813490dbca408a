-- Why the items of a recording aren't audited.
use Rattle.std.specs.Prelude.{◌≡◌, ◌<◌, ◌≤◌, ℕ, ◌+◌, Option, Some, None, List, length, slice_get}
use Rattle.byte_grammar.specs.Causes.{IsFirst}
use Rattle.msg_body.specs.Messages.{Message}
use Rattle.msg_body.specs.declared.error.MessageFault.{MessageFault}
use Rattle.rewrite_script.specs.Causes.{IsScriptFault}
use Rattle.rewrite_script.specs.declared.fault.ScriptFault.{ScriptFault}
use Rattle.hop_audit.specs.declared.fault.ChainFault.{ChainFault}
use Rattle.hop_audit.specs.declared.fault.ChainFault.TheVariants.{Memory, Order, TooManyHops, Message as NoMessage, Script as NoScript, ScriptTooLong}
use Rattle.recording.specs.declared.limits.TheConstants.{MAX_HOPS}
use Rattle.rewrite_script.specs.declared.limits.TheConstants.{MAX_SCRIPT_BYTES}
use Rattle.recording.specs.declared.item.Role.{Role}
use Rattle.recording.specs.Items.{Body, stored, message, script, PlacedItem}
use Rattle.recording.specs.Chains.{Subject, RecordedChain, chain_items, IsOrderFault, OfChain}
use Rattle.hop_audit.specs.ChainValues.{AnswersRequest, reading_of}
use Rattle.msg_body.specs.WholeTexts.{IsMessageFault}

-- the request that the messages answer, where it can be read, and else none
abbrev pub IsKnownRequest : Subject → Option Message → Type 0
IsKnownRequest subject None = (request : Message) → ¬ AnswersRequest subject (Some request)
IsKnownRequest subject (Some request) = AnswersRequest subject (Some request)

-- the item of this index says so
abbrev pub SaysAt : RecordedChain → ℕ → Body → Type 0
SaysAt chain index body = slice_get (chain_items chain) index ≡ Some body

-- the item of this index is no message of its role
pub record IsBadMessage (chain : RecordedChain) (index : ℕ) (fault : MessageFault) : Type 0 where
  pub related : Option Message
  pub known : IsKnownRequest chain.subject related
  pub role : Role
  pub text : List ℕ
  pub there : SaysAt chain index (stored (message role) text)
  pub is : IsMessageFault (reading_of related role) text fault

-- the item of this index is no script, and no longer than a script may be
pub record IsBadScript (chain : RecordedChain) (index : ℕ) (fault : ScriptFault) : Type 0 where
  pub text : List ℕ
  pub there : SaysAt chain index (stored script text)
  pub within : length text ≤ MAX_SCRIPT_BYTES
  pub is : IsScriptFault text fault

-- the item of this index is a script that is too long
pub record IsLongScript (chain : RecordedChain) (index : ℕ) : Type 0 where
  pub text : List ℕ
  pub there : SaysAt chain index (stored script text)
  pub long : MAX_SCRIPT_BYTES < length text

-- the fact for which the fault is answered; being out of memory is none of them
abbrev pub IsChainCause : List PlacedItem → ChainFault → Type 0
IsChainCause items Memory = ⊥
IsChainCause items (Order offset) = IsOrderFault items offset
IsChainCause items TooManyHops = OfChain items (λ chain. MAX_HOPS < length chain.hops)
IsChainCause items (NoMessage index fault) =
    OfChain items (λ chain. IsBadMessage chain index fault)
IsChainCause items (NoScript index fault) =
    OfChain items (λ chain. IsBadScript chain index fault)
IsChainCause items (ScriptTooLong index) = OfChain items (λ chain. IsLongScript chain index)

-- the order in which the causes are judged: the order of items, the number of hops, and then item
-- by item
abbrev pub chain_order : ChainFault → ℕ
chain_order Memory = 0
chain_order (Order offset) = 1
chain_order TooManyHops = 2
chain_order (NoMessage index fault) = 3 + index
chain_order (NoScript index fault) = 3 + index
chain_order (ScriptTooLong index) = 3 + index

-- the fault's cause is the first that holds
abbrev pub IsChainFault : List PlacedItem → ChainFault → Type 0
IsChainFault items fault = IsFirst chain_order (IsChainCause items) fault
