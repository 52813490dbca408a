-- Laws of identifiers, and of Inner Lists that are read as signature parameters.
use Rattle.std.specs.Prelude.{◌≡◌, ◌⊎◌, ◌↔◌, IsTrue}
use Rattle.sfv_text.specs.declared.value.InnerList.{InnerList}
use Rattle.component_ids.specs.declared.fault.IdFault.{IdFault}
use Rattle.component_ids.specs.declared.id.ComponentId.{ComponentId}
use Rattle.component_ids.specs.Identifiers.{IsSameId}
use Rattle.component_ids.specs.Sameness.{is_same}
use Rattle.component_ids.specs.declared.params.SigParams.{SigParams}
use Rattle.component_ids.specs.Causes.{IsIdFault}
use Rattle.component_ids.specs.SignatureParams.{IsParamsOf}

-- the test of sameness decides it
abbrev pub SamenessIsTested : Type 0
SamenessIsTested =
    (one other : ComponentId) → IsTrue (is_same one other) ↔ IsSameId one other

-- ---- lists

-- an Inner List is signature parameters, or has a fault
abbrev pub HasAnswer : Type 0
HasAnswer =
    (list : InnerList)
    → ((params : SigParams) × IsParamsOf list params) ⊎ ((fault : IdFault) × IsIdFault list fault)

-- an Inner List is at most one value of signature parameters
abbrev pub HasOneSigParams : Type 0
HasOneSigParams =
    (list : InnerList) (params other : SigParams)
    → IsParamsOf list params → IsParamsOf list other → params ≡ other

-- an Inner List has at most one fault
abbrev pub HasOneFault : Type 0
HasOneFault =
    (list : InnerList) (fault other : IdFault)
    → IsIdFault list fault → IsIdFault list other → fault ≡ other

-- an Inner List that is signature parameters has no fault
abbrev pub HasNotBoth : Type 0
HasNotBoth =
    (list : InnerList) (params : SigParams) (fault : IdFault)
    → IsParamsOf list params → ¬ IsIdFault list fault
