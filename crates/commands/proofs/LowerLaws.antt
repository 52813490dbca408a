-- Laws of the crates below, in the form that the proofs here use.
use Rattle.std.proofs.Common.{◌≡◌, ℕ, List, refl}
use Rattle.sfv_text.specs.declared.value.InnerList.{InnerList}
use Rattle.sfv_read.specs.Reads.{ReadsInner}
use Rattle.sfv_read.proofs.Readings.{inner_has_one_value}
use Rattle.msg_body.proofs.OneMessages.{one_message_law}
use Rattle.msg_body.specs.Laws.{OneMessage}
use Rattle.component_ids.specs.Causes.{IsIdFault}
use Rattle.component_ids.specs.SignatureParams.{IsSigParams, list_of}
use Rattle.component_ids.specs.declared.fault.IdFault.{IdFault}
use Rattle.component_ids.specs.declared.params.SigParams.{SigParams}
use Rattle.component_ids.proofs.FaultLaws.{not_both, one_value}

-- PARAMS read as one list
pub one_list : (params : List ℕ) (a b : InnerList) → ReadsInner params a → ReadsInner params b → a ≡ b
one_list = inner_has_one_value

-- a list that is signature parameters has no fault
pub no_fault : (sig : SigParams) (list : InnerList) (f : IdFault) → IsSigParams sig → list_of sig ≡ list → IsIdFault list f → ⊥
no_fault sig list f is same fault = not_both list sig f (is, same) fault

-- a list is one value of signature parameters
pub one_params : (a b : SigParams) → IsSigParams a → IsSigParams b → list_of a ≡ list_of b → a ≡ b
one_params a b is_a is_b same = one_value (list_of b) a b (is_a, same) (is_b, refl)

-- an input is the text of one message
pub one_text : OneMessage
one_text = one_message_law
