-- Why there is no normal form and no explanation, in the order in which it is judged.
use Rattle.std.specs.Prelude.{◌≡◌, ℕ, ◌+◌, Bool, ◌&&◌, ◌||◌, not, Some, List, codes}
use Rattle.std.specs.List.{position}
use Rattle.byte_grammar.specs.Causes.{IsFirst}
use Rattle.msg_head.specs.declared.error.Side.TheVariants.{Header, Trailer}
use Rattle.component_ids.specs.Table.{has_param, is_listed}
use Rattle.component_ids.specs.declared.id.ComponentId.{ComponentId}
use Rattle.component_ids.specs.declared.params.SigParams.{SigParams}
use Rattle.component_values.specs.Context.{MessageContext}
use Rattle.line_rewrites.specs.Permitted.{kept_names}
use Rattle.signatures.specs.Signatures.{HasSignature}
use Rattle.normal_forms.specs.Agreement.{HasSameBasis}
use Rattle.normal_forms.specs.declared.basis.Basis.{Basis}
use Rattle.normal_forms.specs.declared.basis.Basis.TheVariants.{StartLine, Content, Field}
use Rattle.normal_forms.specs.declared.basis.FixedName.{FixedName}
use Rattle.normal_forms.specs.declared.basis.FixedName.TheVariants.{Host, ContentLength, TransferEncoding, Signature, SignatureInput}
use Rattle.normal_forms.specs.declared.fault.ExplainFault.{ExplainFault}
use Rattle.normal_forms.specs.declared.fault.ExplainFault.TheVariants.{Memory, Unread, NotPlain, OtherBasis}

-- it covers what the field reads as, and not its value as it is, of a field that may be anything
-- (RFC 9421 sections 2.1.1 and 2.1.2)
abbrev pub is_unplain : ComponentId → Bool
is_unplain id = (has_param id.params (codes "sf") || has_param id.params (codes "key"))
    && not (is_listed kept_names id.name)

-- the first such component has the index
abbrev pub IsFirstUnplain : SigParams → ℕ → Type 0
IsFirstUnplain params index = position is_unplain params.ids ≡ Some index

-- ---- the order

-- in which names are judged
abbrev pub name_order : FixedName → ℕ
name_order Host = 0
name_order ContentLength = 1
name_order TransferEncoding = 2
name_order Signature = 3
name_order SignatureInput = 4

-- in which what isn't explained is judged: the header before the trailer section
abbrev pub basis_order : Basis → ℕ
basis_order StartLine = 0
basis_order Content = 1
basis_order (Field Header name) = 2 + name_order name
basis_order (Field Trailer name) = 7 + name_order name

-- in which the causes are judged
abbrev pub explain_order : ExplainFault → ℕ
explain_order Unread = 0
explain_order (NotPlain index) = 1
explain_order (OtherBasis basis) = 2 + basis_order basis
explain_order Memory = 14

-- ---- causes

-- some rule of reading fails for the label in the first message
abbrev pub IsUnread : MessageContext → List ℕ → Type 0
IsUnread first label =
    (params : SigParams) (tag : List ℕ) → ¬ HasSignature first.message label params tag

-- the fact for which the fault is answered; being out of memory is none of them
abbrev pub IsExplainCause : MessageContext → MessageContext → List ℕ → ExplainFault → Type 0
IsExplainCause first second label Unread = IsUnread first label
IsExplainCause first second label (NotPlain index) = (params : SigParams) × (tag : List ℕ)
    × HasSignature first.message label params tag × IsFirstUnplain params index
IsExplainCause first second label (OtherBasis basis) =
    ¬ HasSameBasis first.message second.message basis
IsExplainCause first second label Memory = ⊥

-- the fault's cause is the first that holds
abbrev pub IsExplainFault : MessageContext → MessageContext → List ℕ → ExplainFault → Type 0
IsExplainFault first second label fault =
    IsFirst explain_order (IsExplainCause first second label) fault
