-- What the code adds to a report. No public clause cites this module.
use Rattle.std.specs.Prelude.{◌≡◌, IsTrue, ℕ, List, [], ◌∷◌, ◌++◌}
use Rattle.std.specs.List.{AllZip}
use Rattle.msg_body.specs.Messages.{Message}
use Rattle.component_values.specs.Context.{MessageContext}
use Rattle.rewrite_script.specs.declared.rewrite.Rewrite.{Rewrite}
use Rattle.settings.specs.Configuration.{Configuration}
use Rattle.signatures.specs.Signatures.{AreLabels}
use Rattle.verdicts.specs.Verification.{Verification}
use Rattle.hop_audit.specs.declared.line.AuditLine.{AuditLine}
use Rattle.hop_audit.specs.Hops.{PlacedHop}
use Rattle.hop_audit.specs.Lines.{are_lines_in_range, is_line_in_range}
use Rattle.hop_audit.specs.Report.{AreMessageLines, IsHopLine, IsLabelLine, IsMessageLine}

-- the line of a label of the message with this index is added
pub record AddsMessageLine (v : Verification) (index : ℕ) (was now : List AuditLine)
    : Type 0 where
  pub line : AuditLine
  pub is : IsMessageLine v.conf v.context index v.now v.label line
  pub in_range : IsTrue (is_line_in_range line)
  pub added : now ≡ was ++ line ∷ []

-- the lines of these labels of the message with this index are added
pub record AddsLinesFor (conf : Configuration) (context : MessageContext) (index moment : ℕ)
    (labels : List (List ℕ)) (was now : List AuditLine) : Type 0 where
  pub lines : List AuditLine
  pub each : AllZip (IsMessageLine conf context index moment) labels lines
  pub in_range : IsTrue (are_lines_in_range lines)
  pub added : now ≡ was ++ lines

-- the lines of the message with this index are added
pub record AddsMessageLines (conf : Configuration) (context : MessageContext) (index moment : ℕ)
    (was now : List AuditLine) : Type 0 where
  pub lines : List AuditLine
  pub are : AreMessageLines conf context index moment lines
  pub in_range : IsTrue (are_lines_in_range lines)
  pub added : now ≡ was ++ lines

-- the hop has this index, leads from the context's message, by this script, to this message
pub record IsHopBetween (context : MessageContext) (index : ℕ) (script : List Rewrite)
    (after : Message) (hop : PlacedHop) : Type 0 where
  pub index_is : hop.index ≡ index
  pub before_is : hop.before ≡ context.message
  pub script_is : hop.script ≡ script
  pub after_is : hop.after ≡ after

-- the line of the hop, and those of the labels before it
pub record AddsLinesOf (context : MessageContext) (hop : PlacedHop) (was now : List AuditLine)
    : Type 0 where
  pub line : AuditLine
  pub is : IsHopLine context hop line
  pub labels : List (List ℕ)
  pub labels_are : AreLabels context.message labels
  pub own : List AuditLine
  pub each : AllZip (IsLabelLine context hop) labels own
  pub added : now ≡ was ++ line ∷ own

-- they are added, of whatever moments the hop is
abbrev pub AddsHopLines : MessageContext → ℕ → List Rewrite → Message → List AuditLine
    → List AuditLine → Type 0
AddsHopLines context index script after was now =
    (hop : PlacedHop) → IsHopBetween context index script after hop
    → AddsLinesOf context hop was now
