-- The labels of a message that are asked for (RFC 9421 section 4.1).
use Rattle.std.specs.Prelude.{◌≡◌, ℕ, List, [], ◌∷◌, Option, Some, None}
use Rattle.msg_body.specs.Messages.{Message}
use Rattle.signatures.specs.Signatures.{AreLabels}
use Rattle.verdicts.specs.Verification.{or_no_label}

-- the one that is given, or else those of the message, or `-` where it has none
abbrev pub AreAsked : Option (List ℕ) → Message → List (List ℕ) → Type 0
AreAsked (Some label) message labels = labels ≡ label ∷ []
AreAsked None message labels =
    (found : List (List ℕ)) × AreLabels message found × (labels ≡ or_no_label found)
