-- Laws of samples.
use Rattle.std.specs.Prelude.{◌≡◌, ℕ, ◌+◌, ◌*◌, true, false, None, List, [], ◌∷◌, length}
use Rattle.std.specs.List.{All, flat_map, range_with_len}
use Rattle.signing.specs.SignCauses.{IsSignFault}
use Rattle.signing.specs.declared.fault.SignFault.{SignFault}
use Rattle.msg_body.specs.Messages.{Message}
use Rattle.verdicts.specs.declared.outcome.Verdict.TheVariants.{Ok as Accepted}
use Rattle.hop_audit.specs.ChainValues.{Chain}
use Rattle.hop_audit.specs.Hops.{IsPermitted, PlacedHop}
use Rattle.hop_audit.specs.Report.{IsReport, places_of}
use Rattle.hop_audit.specs.declared.line.AuditLine.{AuditLine}
use Rattle.hop_audit.specs.declared.line.AuditLine.TheVariants.{Message as MessageLine, Hop as HopLine, Label as LabelLine}
use Rattle.hop_audit.specs.declared.line.Fate.TheVariants.{Kept}
use Rattle.samples.specs.Chains.{IsSampleChain, IsUnsigned, sample_context}
use Rattle.samples.specs.Requests.{sample_configuration, sample_keyid, sample_spec}
use Rattle.samples.specs.Summary.{IsSample, IsSummaryOf}
use Rattle.samples.specs.declared.summary.Summary.{Summary}

-- a seed and a number of hops have at most one summary
abbrev pub HasOneSample : Type 0
HasOneSample = (seed count : ℕ) (summary other : Summary)
    → IsSample seed count summary → IsSample seed count other → summary ≡ other

-- they have one
abbrev pub HasSomeSample : Type 0
HasSomeSample = (seed count : ℕ) → (summary : Summary) × IsSample seed count summary

-- nothing keeps the request of a seed from being signed
abbrev pub IsSignable : Type 0
IsSignable = (seed : ℕ) (unsigned : Message) → IsUnsigned seed unsigned
    → (fault : SignFault) → ¬ IsSignFault (sample_context unsigned) sample_spec fault

-- ---- what is kept

-- Each step of the hop is applicable to the message that it meets, and they lead to the message
-- that came out; the signature in the message that a step meets permits it (RFC 9421 section 1.1).
abbrev pub IsPermittedHop : PlacedHop → Type 0
IsPermittedHop hop =
    IsPermitted sample_spec.label (sample_context hop.before) hop.script hop.after

-- the message of this index is `ok`
abbrev pub ok_line : ℕ → AuditLine
ok_line index = MessageLine index sample_spec.label (Accepted sample_keyid)

-- the hop of this index is `explained`, and `permitted kept`, and the message after it is `ok`
abbrev pub kept_lines : ℕ → List AuditLine
kept_lines index =
    HopLine index true None ∷ LabelLine index sample_spec.label true Kept ∷ ok_line index ∷ []

-- so it is with so many hops, and the message before them is `ok`
abbrev pub kept_report : ℕ → List AuditLine
kept_report count = ok_line 0 ∷ flat_map kept_lines (range_with_len 1 count)

-- The chain has so many hops, and each is permitted; the report says so of each, and that it keeps
-- the signature; and the numbers of the summary are those of such a report, which finds no fault.
pub record IsKeptThroughout (count : ℕ) (chain : Chain) (lines : List AuditLine)
    (summary : Summary) : Type 0 where
  pub size : length chain.hops ≡ count
  pub each : All IsPermittedHop (places_of chain)
  pub lines_are : lines ≡ kept_report count
  pub hops : summary.hops ≡ count
  pub steps : summary.steps ≡ 3 * count
  pub permitted : summary.permitted ≡ count
  pub kept : summary.kept ≡ count
  pub ok : summary.ok ≡ count + 1
  pub faultless : summary.finds_fault ≡ false

-- so it is with each sample: no step of its hops fails to apply, or breaks the signature
abbrev pub KeepsItsSignature : Type 0
KeepsItsSignature = (seed count : ℕ) (chain : Chain) (lines : List AuditLine) (summary : Summary)
    → IsSampleChain seed count chain → IsReport sample_configuration chain lines
    → IsSummaryOf chain lines summary → IsKeptThroughout count chain lines summary
