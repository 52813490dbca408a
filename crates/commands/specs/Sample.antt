-- What `sample` comes to, for a seed and a number of hops.
use Rattle.std.specs.Prelude.{◌≡◌, ℕ, if◌then◌else◌}
use Rattle.samples.specs.Summary.{IsSample, summary_text}
use Rattle.samples.specs.declared.summary.Summary.{Summary}
use Rattle.commands.specs.declared.outcome.Outcome.{Outcome}
use Rattle.commands.specs.declared.outcome.Outcome.TheVariants.{Done, NotOk}

-- the text of the summary, as done only where no line of the report counts against the chain
abbrev pub sample_outcome : Summary → Outcome
sample_outcome summary =
    if summary.finds_fault then NotOk (summary_text summary) else Done (summary_text summary)

-- the summary of the report on the chain of this seed, with so many hops
abbrev pub ReportsSample : ℕ → ℕ → Outcome → Type 0
ReportsSample seed count outcome =
    (summary : Summary) × IsSample seed count summary × (outcome ≡ sample_outcome summary)
