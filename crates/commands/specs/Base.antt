-- What `base` comes to, for PARAMS and a context.
use Rattle.std.specs.Prelude.{◌≡◌, ℕ, List, IsSomeAnd, slice_get}
use Rattle.byte_grammar.specs.FaultOffset.{IsFaultOffset}
use Rattle.sfv_text.specs.declared.value.InnerList.{InnerList}
use Rattle.sfv_read.specs.Reads.{ReadsInner}
use Rattle.component_ids.specs.declared.fault.IdFault.{IdFault}
use Rattle.component_ids.specs.declared.id.ComponentId.{ComponentId}
use Rattle.component_ids.specs.declared.params.SigParams.{SigParams}
use Rattle.component_ids.specs.Causes.{IsIdFault}
use Rattle.component_ids.specs.Identifiers.{id_text}
use Rattle.component_values.specs.Context.{MessageContext}
use Rattle.component_values.specs.Values.{HaveValues, IsFirstLack}
use Rattle.signatures.specs.SignatureBase.{signature_base}
use Rattle.commands.specs.Covered.{ReadsParams}
use Rattle.commands.specs.Layers.{ReadsThen}
use Rattle.refusals.specs.declared.refusal.Refusal.TheVariants.{Command}
use Rattle.refusals.specs.declared.refusal.CommandRefusal.{CommandRefusal}
use Rattle.refusals.specs.declared.refusal.CommandRefusal.TheVariants.{Syntax, Ids, Lacks}
use Rattle.commands.specs.declared.outcome.Outcome.{Outcome}
use Rattle.commands.specs.declared.outcome.Outcome.TheVariants.{Done}

-- PARAMS read as an Inner List that is no signature parameters, for this fault
pub record HasIdFault (params : List ℕ) (fault : IdFault) : Type 0 where
  pub list : InnerList
  pub reads : ReadsInner params list
  pub is : IsIdFault list fault

-- why PARAMS are refused
abbrev pub AreParamsRefused : List ℕ → CommandRefusal → Type 0
AreParamsRefused params (Syntax offset) = IsFaultOffset ReadsInner params offset
AreParamsRefused params (Ids fault) = HasIdFault params fault
AreParamsRefused params refusal = ⊥

-- the first component that lacks a value lacks it in this way, and has this identifier
abbrev pub IsValueLacking : MessageContext → List ComponentId → CommandRefusal → Type 0
IsValueLacking context ids (Lacks lack id) =
    (index : ℕ) × IsFirstLack context ids index lack
    × IsSomeAnd (slice_get ids index) (λ lacking. id ≡ id_text lacking)
IsValueLacking context ids refusal = ⊥

-- the signature base over the values that the covered components have
abbrev pub ReportsValues : MessageContext → SigParams → Outcome → Type 0
ReportsValues context sig =
    ReadsThen (HaveValues context sig.ids) (IsValueLacking context sig.ids) Command
    (λ values outcome. outcome ≡ Done (signature_base sig values))

-- PARAMS are read first
abbrev pub ReportsBase : List ℕ → MessageContext → Outcome → Type 0
ReportsBase params context =
    ReadsThen (ReadsParams params) (AreParamsRefused params) Command (ReportsValues context)
