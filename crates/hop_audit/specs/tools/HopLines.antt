-- What the code says of a hop. No public clause cites this module.
use Rattle.std.specs.Prelude.{◌≡◌, ℕ, Bool, true, false, ◌&&◌, Option, Some, None, MatchOption, List, ◌++◌, take}
use Rattle.std.specs.List.{AllZip}
use Rattle.msg_body.specs.Messages.{Message}
use Rattle.component_ids.specs.declared.params.SigParams.{SigParams}
use Rattle.component_values.specs.Context.{MessageContext}
use Rattle.rewrite_script.specs.declared.rewrite.Rewrite.{Rewrite}
use Rattle.signatures.specs.Signatures.{HasSignature}
use Rattle.hop_audit.specs.declared.line.AuditLine.{AuditLine}
use Rattle.hop_audit.specs.declared.walk.Mark.{Mark}
use Rattle.hop_audit.specs.declared.walk.Walked.{Walked}
use Rattle.hop_audit.specs.declared.walk.Walked.TheVariants.{To, Stopped}
use Rattle.hop_audit.specs.Hops.{IsPermission, PlacedHop}
use Rattle.hop_audit.specs.Report.{IsLabelLine}
use Rattle.hop_audit.specs.tools.Written.{IsHopBetween}

-- the steps lead to the message of these bytes; else the step that isn't applicable, where there is
-- one
abbrev pub SaysExplained : Walked → List ℕ → Bool → Option ℕ → Type 0
SaysExplained (To text) bytes true None = text ≡ bytes
SaysExplained (To text) bytes false None = ¬ (text ≡ bytes)
SaysExplained (Stopped index) bytes false (Some stopped) = stopped ≡ index
SaysExplained walked bytes explained stopped = ⊥

-- The label of the mark was judged for the hop, which leads from the context's message to this one:
-- it has no signature there, or its signature permits the hop or not.
pub record IsJudged (context : MessageContext) (hop : PlacedHop) (after : Message) (index : ℕ)
    (explained : Bool) (mark : Mark) : Type 0 where
  pub index_is : hop.index ≡ index
  pub after_is : hop.after ≡ after
  pub read : MatchOption mark.read
      ((params : SigParams) (tag : List ℕ)
      → ¬ HasSignature context.message mark.label.now params tag)
      (λ read. HasSignature context.message mark.label.now read.now.params read.now.tag
      × IsPermission mark.label.now context hop.script after (explained && mark.permitted))

-- each label was judged, of whatever moments the hop is
abbrev pub AreJudged : MessageContext → ℕ → List Rewrite → Message → List (List ℕ) → List Mark
    → Bool → Type 0
AreJudged context index script after labels marks explained =
    (hop : PlacedHop) → IsHopBetween context index script after hop
    → AllZip (λ label mark. (mark.label.now ≡ label)
    × IsJudged context hop after index explained mark) labels marks

-- the lines of so many labels are added, of whatever moments the hop is
abbrev pub AreAddedSoFar : MessageContext → ℕ → List Rewrite → Message → List (List ℕ) → ℕ
    → List AuditLine → List AuditLine → Type 0
AreAddedSoFar context index script after labels count was now =
    (hop : PlacedHop) → IsHopBetween context index script after hop
    → (own : List AuditLine) × AllZip (IsLabelLine context hop) (take count labels) own
    × (now ≡ was ++ own)

-- those of all labels are
abbrev pub AddsLabelLines : MessageContext → ℕ → List Rewrite → Message → List (List ℕ)
    → List AuditLine → List AuditLine → Type 0
AddsLabelLines context index script after labels was now =
    (hop : PlacedHop) → IsHopBetween context index script after hop
    → (own : List AuditLine) × AllZip (IsLabelLine context hop) labels own × (now ≡ was ++ own)
