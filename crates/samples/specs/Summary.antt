-- The summary of a sample's audit.
use Rattle.std.specs.Prelude.{◌≡◌, ℕ, Bool, false, List, [], ◌∷◌, ◌++◌, length, codes, count_by}
use Rattle.std.specs.List.{flat_map}
use Rattle.msg_body.specs.Messages.{Message, message_text}
use Rattle.verdicts.specs.Verdicts.{is_accepted}
use Rattle.hop_audit.specs.ChainValues.{Chain, Hop}
use Rattle.hop_audit.specs.Lines.{finds_fault, is_kept}
use Rattle.hop_audit.specs.Report.{IsReport}
use Rattle.hop_audit.specs.declared.line.AuditLine.{AuditLine}
use Rattle.hop_audit.specs.declared.line.AuditLine.TheVariants.{Message as MessageLine, Label}
pub use Rattle.byte_grammar.specs.Numbers.{number_line}
use Rattle.samples.specs.Chains.{IsSampleChain}
use Rattle.samples.specs.Requests.{sample_configuration}
use Rattle.samples.specs.declared.summary.Summary.{Summary}

-- the line says that a hop is permitted
abbrev pub is_permitted_line : AuditLine → Bool
is_permitted_line (Label index label permitted fate) = permitted
is_permitted_line line = false

-- the line says that a signature is kept
abbrev pub is_kept_line : AuditLine → Bool
is_kept_line (Label index label permitted fate) = is_kept fate
is_kept_line line = false

-- the line says that a verdict is `ok`
abbrev pub is_ok_line : AuditLine → Bool
is_ok_line (MessageLine index label verdict) = is_accepted verdict
is_ok_line line = false

-- the last message of the hops, or this one where there are none
abbrev pub last_from : Message → List Hop → Message
last_from message [] = message
last_from message (hop ∷ hops) = last_from hop.message hops

-- the lines of a summary: the hops, their steps, the label lines that say permitted and those that
-- say kept, the messages whose label is `ok`, and the bytes of the last message
abbrev pub summary_text : Summary → List ℕ
summary_text summary =
    number_line (codes "hops ") summary.hops ++ (number_line (codes "steps ") summary.steps
    ++ (number_line (codes "permitted ") summary.permitted
    ++ (number_line (codes "kept ") summary.kept ++ (number_line (codes "ok ") summary.ok
    ++ number_line (codes "last ") summary.last))))

-- the numbers are those of the report on the chain
pub record IsSummaryOf (chain : Chain) (lines : List AuditLine) (summary : Summary)
    : Type 0 where
  pub hops : summary.hops ≡ length chain.hops
  pub steps : summary.steps ≡ length (flat_map (λ hop. hop.script) chain.hops)
  pub permitted : summary.permitted ≡ count_by is_permitted_line lines
  pub kept : summary.kept ≡ count_by is_kept_line lines
  pub ok : summary.ok ≡ count_by is_ok_line lines
  pub last : summary.last ≡ length (message_text (last_from chain.message chain.hops))
  pub faulty : summary.finds_fault ≡ finds_fault lines

-- the summary of the audit of the chain of this seed, with so many hops
pub record IsSample (seed count : ℕ) (summary : Summary) : Type 0 where
  pub chain : Chain
  pub is : IsSampleChain seed count chain
  pub lines : List AuditLine
  pub report : IsReport sample_configuration chain lines
  pub summary_is : IsSummaryOf chain lines summary
