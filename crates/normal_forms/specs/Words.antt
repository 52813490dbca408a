-- The words that output has for what isn't explained.
use Rattle.std.specs.Prelude.{ℕ, List, ◌++◌, codes}
use Rattle.std.specs.Fmt.{decimal}
use Rattle.msg_head.specs.declared.error.Side.{Side}
use Rattle.msg_head.specs.declared.error.Side.TheVariants.{Header, Trailer}
use Rattle.normal_forms.specs.declared.basis.Basis.{Basis}
use Rattle.normal_forms.specs.declared.basis.Basis.TheVariants.{StartLine, Content, Field}
use Rattle.normal_forms.specs.declared.fault.ExplainFault.{ExplainFault}
use Rattle.normal_forms.specs.declared.fault.ExplainFault.TheVariants.{Memory, Unread, NotPlain, OtherBasis}
use Rattle.normal_forms.specs.declared.fault.NormalFault.{NormalFault}
use Rattle.normal_forms.specs.declared.fault.NormalFault.TheVariants as normal
use Rattle.normal_forms.specs.Agreement.{fixed_name}

-- the side, as a script has it
abbrev pub side_letter : Side → List ℕ
side_letter Header = codes "h"
side_letter Trailer = codes "t"

-- what isn't explained
abbrev pub basis_text : Basis → List ℕ
basis_text StartLine = codes "start-line"
basis_text Content = codes "content"
basis_text (Field side name) = side_letter side ++ (codes " " ++ fixed_name name)

-- the words of the fault, with the index of the component
abbrev pub explain_fault_text : ExplainFault → List ℕ
explain_fault_text Memory = codes "out of memory"
explain_fault_text Unread = codes "label-unread"
explain_fault_text (NotPlain index) = codes "not-plain " ++ decimal index
explain_fault_text (OtherBasis basis) = codes "basis " ++ basis_text basis

-- the words of the fault, with the index of the component
abbrev pub normal_fault_text : NormalFault → List ℕ
normal_fault_text normal.Memory = codes "out of memory"
normal_fault_text (normal.NotPlain index) = codes "not-plain " ++ decimal index
