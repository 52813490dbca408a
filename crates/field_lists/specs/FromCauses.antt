-- Why a message is turned into no list of fields.
use Rattle.std.specs.Prelude.{◌≡◌, ℕ, [], Err, IsFalse}
use Rattle.byte_grammar.specs.Causes.{IsFirst}
use Rattle.msg_head.specs.Starts.{RequestLine, request}
use Rattle.derived_values.specs.Targets.{TargetParts, SpellsTarget, has_path}
use Rattle.derived_values.specs.declared.derived.DerivedName.TheVariants.{OfTarget}
use Rattle.derived_values.specs.declared.derived.TargetName.TheVariants as name
use Rattle.derived_values.specs.declared.lack.Lack.{Lack}
use Rattle.derived_values.specs.Derived.{RequestRow}
use Rattle.component_values.specs.Context.{MessageContext}
use Rattle.field_lists.specs.declared.from_fault.FromFault.{FromFault}
use Rattle.field_lists.specs.declared.from_fault.FromFault.TheVariants.{Memory, NoForm, NoAuthority}
use Rattle.field_lists.specs.FromMessages.{request_parts}

-- the message is a request, and the fact holds of its request line
abbrev pub OfRequest : MessageContext → (RequestLine → Type 0) → Type 0
OfRequest context Fact = (line : RequestLine)
    × (context.message.head.start ≡ request line) × Fact line

-- the target is neither in origin form nor in absolute form (RFC 9112 section 3.2)
abbrev pub HasNoForm : RequestLine → Type 0
HasNoForm line = (target : TargetParts) → SpellsTarget line.method line.target target
    → IsFalse (has_path target.form)

-- `@authority` lacks a value (RFC 9421 section 2.2.3)
abbrev pub LacksAuthority : MessageContext → RequestLine → Type 0
LacksAuthority context line = (lack : Lack)
    × RequestRow (OfTarget name.Authority) [] (request_parts context line) (Err lack)

-- the fact for which the fault is answered; being out of memory is none of them
abbrev pub IsFromCause : MessageContext → FromFault → Type 0
IsFromCause context Memory = ⊥
IsFromCause context NoForm = OfRequest context HasNoForm
IsFromCause context NoAuthority = OfRequest context (LacksAuthority context)

-- the order in which the causes are judged
abbrev pub from_order : FromFault → ℕ
from_order Memory = 0
from_order NoForm = 1
from_order NoAuthority = 2

-- the fault's cause is the first that holds
abbrev pub IsFromFault : MessageContext → FromFault → Type 0
IsFromFault context fault = IsFirst from_order (IsFromCause context) fault
