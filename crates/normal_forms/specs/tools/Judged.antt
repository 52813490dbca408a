-- What is answered, by its cause. No public clause cites this module.
use Rattle.byte_grammar.specs.Causes.{IsFirst}
use Rattle.msg_body.specs.Messages.{Message}
use Rattle.normal_forms.specs.declared.basis.Basis.{Basis}
use Rattle.normal_forms.specs.Agreement.{HasSameBasis}
use Rattle.normal_forms.specs.Causes.{basis_order}

-- the messages differ in it, and in nothing that is judged before it
abbrev pub IsFirstOther : Message → Message → Basis → Type 0
IsFirstOther message other basis =
    IsFirst basis_order (λ b. ¬ HasSameBasis message other b) basis
