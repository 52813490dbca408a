-- Faults of PARAMS, as what stops a run.
use Rattle.std.proofs.Common.{◌≡◌, ℕ, List, Result, Err, refl}
use Rattle.byte_grammar.specs.Causes.{AnswersWhere}
use Rattle.sfv_text.specs.declared.value.InnerList.{InnerList}
use Rattle.sfv_read.specs.Reads.{ReadsInner}
use Rattle.component_ids.specs.Causes.{IsIdFault}
use Rattle.component_ids.specs.declared.fault.IdFault.{IdFault}
use Rattle.component_ids.specs.declared.fault.IdFault.TheVariants.{Memory, TooMany, BadComponent, Repeated, BadParameter}
use Rattle.component_ids.specs.declared.params.SigParams.{SigParams}
use Rattle.commands.specs.Base.{AreParamsRefused}
use Rattle.refusals.specs.declared.refusal.Refusal.TheVariants.{Command}
use Rattle.refusals.specs.declared.refusal.CommandRefusal.TheVariants.{Ids}
use Rattle.intake.specs.Stops.{IfRefused, IsRefusalFor, stop_of_fault}

abbrev answered : IdFault → Result SigParams IdFault
answered fault = Err fault

pub fault_stop : (params : List ℕ) (list : InnerList) (f : IdFault) → ReadsInner params list
    → ((g : IdFault) → ¬ (g ≡ Memory) → AnswersWhere Memory (answered f) g (IsIdFault list g))
    → IfRefused (stop_of_fault f) (IsRefusalFor (AreParamsRefused params) Command)
fault_stop params list Memory reads faults = tt
fault_stop params list TooMany reads faults =
    (Ids TooMany, record { list = list; reads = reads; is = (faults TooMany (λ e. absurd (cc e))).only refl }, refl)
fault_stop params list (BadComponent i r) reads faults =
    (Ids (BadComponent i r), record { list = list; reads = reads; is = (faults (BadComponent i r) (λ e. absurd (cc e))).only refl }, refl)
fault_stop params list (Repeated i) reads faults =
    (Ids (Repeated i), record { list = list; reads = reads; is = (faults (Repeated i) (λ e. absurd (cc e))).only refl }, refl)
fault_stop params list (BadParameter key) reads faults =
    (Ids (BadParameter key), record { list = list; reads = reads; is = (faults (BadParameter key) (λ e. absurd (cc e))).only refl }, refl)
