-- The labels that are asked for where none is given.
use Rattle.std.proofs.Common.{◌≡◌, ℕ, None, List, [], ◌∷◌, Result, Ok, Err, refl, subst}
use Rattle.std.specs.Prelude.{IfOk}
use Rattle.msg_body.specs.Messages.{Message}
use Rattle.byte_grammar.specs.declared.memory.Memory.{Memory}
use Rattle.signatures.specs.Signatures.{AreLabels}
use Rattle.verdicts.specs.Asked.{AreAsked}
use Rattle.verdicts.specs.Verification.{no_label}

-- a message without a label is asked for the one that no message has
pub none_asked : (message : Message) (found : List (List ℕ)) (result : Result (List (List ℕ)) Memory) → AreLabels message found → found ≡ []
    → IfOk result (λ labels. labels ≡ no_label ∷ []) → IfOk result (AreAsked None message)
none_asked message found (Ok labels) are empty is = ([], subst (λ (ls : List (List ℕ)). AreLabels message ls) empty are, is)
none_asked message found (Err memory) are empty is = tt

-- else for those that it has
pub all_asked : (message : Message) (found : List (List ℕ)) → AreLabels message found → ¬ (found ≡ []) → AreAsked None message found
all_asked message [] are some = absurd (some refl)
all_asked message (label ∷ labels) are some = (label ∷ labels, are, refl)
