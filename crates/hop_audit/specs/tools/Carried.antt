-- What is known of the tags of a message. No public clause cites this module.
use Rattle.std.specs.Prelude.{◌≡◌, ⊤, ℕ, Bool, List}
use Rattle.sfv_text.specs.Keys.{value_of}
use Rattle.sfv_text.specs.declared.pair.Pair.{Pair}
use Rattle.component_values.specs.Context.{MessageContext, context_with}
use Rattle.settings.specs.Configuration.{Configuration}
use Rattle.verdicts.specs.KnownTags.{KnowsTag}
use Rattle.verdicts.specs.Verdicts.{IsVerdict}
use Rattle.verdicts.specs.Verification.{verification_for}
use Rattle.hop_audit.specs.declared.line.AuditLine.{AuditLine}
use Rattle.hop_audit.specs.declared.line.AuditLine.TheVariants.{Message as MessageLine, Hop as HopLine, Unread as UnreadLine, Label as LabelLine}
use Rattle.hop_audit.specs.Hops.{PlacedHop}
use Rattle.hop_audit.specs.Report.{IsLabelReport}

-- whether the tag of each of these labels is right
abbrev pub KnowTags : Configuration → MessageContext → List (Pair Bool) → Type 0
KnowTags conf context known =
    (label : List ℕ) → KnowsTag conf context label (value_of known label)

-- the line has the verdict on the label in the context's message, or what becomes of its signature
-- from the one to the other
abbrev pub TellsTag : Configuration → MessageContext → MessageContext → List ℕ → AuditLine → Type 0
TellsTag conf was now label (MessageLine k named verdict) = (named ≡ label) × (now ≡ was)
    × (moment : ℕ) × IsVerdict (verification_for conf moment was label) verdict
TellsTag conf was now label (LabelLine k named permitted fate) = (named ≡ label)
    × (hop : PlacedHop) × (now ≡ context_with was hop.after)
    × IsLabelReport was hop label permitted fate
TellsTag conf was now label (UnreadLine k named) = ⊤
TellsTag conf was now label (HopLine k explained stopped) = ⊤
