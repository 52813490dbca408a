-- What an audit reports of a chain: a list of lines, each with a condition of its own.
use Rattle.std.specs.Prelude.{◌≡◌, ◌≤◌, ℕ, Bool, Option, List, ◌∷◌, ◌++◌, length}
use Rattle.std.specs.List.{AllZip, flat_map}
use Rattle.msg_body.specs.Messages.{Message}
use Rattle.component_ids.specs.declared.params.SigParams.{SigParams}
use Rattle.component_values.specs.Context.{MessageContext}
use Rattle.settings.specs.Configuration.{Configuration}
use Rattle.signatures.specs.Signatures.{AreLabels, HasSignature}
use Rattle.verdicts.specs.Verdicts.{IsVerdict}
use Rattle.verdicts.specs.Verification.{or_no_label, verification_for}
use Rattle.recording.specs.declared.limits.TheConstants.{MAX_HOPS}
use Rattle.hop_audit.specs.declared.line.Fate.{Fate}
use Rattle.hop_audit.specs.declared.line.AuditLine.{AuditLine}
use Rattle.hop_audit.specs.declared.line.AuditLine.TheVariants.{Message as MessageLine, Hop as HopLine, Unread as UnreadLine, Label as LabelLine}
use Rattle.recording.specs.Items.{PlacedItem}
use Rattle.recording.specs.Chains.{RecordedChain, IsChain}
use Rattle.hop_audit.specs.ChainValues.{Chain, IsChainOf}
use Rattle.hop_audit.specs.Fates.{IsFate}
use Rattle.hop_audit.specs.Hops.{PlacedHop, places_from, IsExplanation, IsPermission}
use Rattle.verdicts.specs.Contexts.{context_for}

-- ---- the lines of a message

-- the line says the verdict on the label in the message of this index, at its moment
abbrev pub IsMessageLine : Configuration → MessageContext → ℕ → ℕ → List ℕ → AuditLine → Type 0
IsMessageLine conf context index moment label (MessageLine k named verdict) =
    (k ≡ index) × (named ≡ label)
    × IsVerdict (verification_for conf moment context label) verdict
IsMessageLine conf context index moment label line = ⊥

-- a line for each label of the message, or for `-`
abbrev pub AreMessageLines : Configuration → MessageContext → ℕ → ℕ → List AuditLine → Type 0
AreMessageLines conf context index moment lines = (labels : List (List ℕ))
    × AreLabels context.message labels
    × AllZip (IsMessageLine conf context index moment) (or_no_label labels) lines

-- ---- the lines of a hop

-- the line says whether the hop is explained
abbrev pub IsHopLine : MessageContext → PlacedHop → AuditLine → Type 0
IsHopLine context hop (HopLine k explained stopped) =
    (k ≡ hop.index) × IsExplanation context hop.script hop.after explained stopped
IsHopLine context hop line = ⊥

-- the label has a signature in the message before the hop: these are whether the hop is permitted
-- by it, and what becomes of it
pub record IsLabelReport (context : MessageContext) (hop : PlacedHop) (label : List ℕ)
    (permitted : Bool) (fate : Fate) : Type 0 where
  pub params : SigParams
  pub tag : List ℕ
  pub signature : HasSignature context.message label params tag
  pub permission : IsPermission label context hop.script hop.after permitted
  pub fate_is : IsFate context hop.after label params tag fate

-- the line says that the label has no signature in the message before the hop, or what the hop is
-- to its signature
abbrev pub IsLabelLine : MessageContext → PlacedHop → List ℕ → AuditLine → Type 0
IsLabelLine context hop label (UnreadLine k named) = (k ≡ hop.index) × (named ≡ label)
    × ((params : SigParams) (tag : List ℕ) → ¬ HasSignature context.message label params tag)
IsLabelLine context hop label (LabelLine k named permitted fate) =
    (k ≡ hop.index) × (named ≡ label) × IsLabelReport context hop label permitted fate
IsLabelLine context hop label line = ⊥

-- The hop's line, a line for each label of the message before it, and the lines of the message
-- after it.
pub record AreHopLines (conf : Configuration) (related : Option Message) (hop : PlacedHop)
    (lines : List AuditLine) : Type 0 where
  pub line : AuditLine
  pub is : IsHopLine (context_for conf hop.before related) hop line
  pub labels : List (List ℕ)
  pub labels_are : AreLabels hop.before labels
  pub own : List AuditLine
  pub each : AllZip (IsLabelLine (context_for conf hop.before related) hop) labels own
  pub after : List AuditLine
  pub after_are : AreMessageLines conf (context_for conf hop.after related) hop.index hop.now after
  pub joined : lines ≡ line ∷ (own ++ after)

-- ---- the lines of a chain

-- the hops of the chain in their places
abbrev pub places_of : Chain → List PlacedHop
places_of chain = places_from 0 chain.moment chain.message chain.hops

-- the lines of message 0, and then those of each hop
pub record IsReport (conf : Configuration) (chain : Chain) (lines : List AuditLine)
    : Type 0 where
  pub first : List AuditLine
  pub first_are : AreMessageLines conf (context_for conf chain.message chain.related) 0
      chain.moment first
  pub parts : List (List AuditLine)
  pub each : AllZip (AreHopLines conf chain.related) (places_of chain) parts
  pub joined : lines ≡ first ++ flat_map (λ part. part) parts

-- the items are a chain of no more hops than it may have, which is this one
pub record AreItemsOf (items : List PlacedItem) (chain : Chain) : Type 0 where
  pub recorded : RecordedChain
  pub is : IsChain items recorded
  pub few : length recorded.hops ≤ MAX_HOPS
  pub values : IsChainOf recorded chain

-- the lines are the report on the chain that the items are
abbrev pub IsAudit : Configuration → List PlacedItem → List AuditLine → Type 0
IsAudit conf items lines =
    (chain : Chain) × AreItemsOf items chain × IsReport conf chain lines
