-- What comes of `sample`, for which nothing is read.
use Rattle.std.proofs.Common.{List, ℕ, Option, Result, refl}
use Rattle.hms_io.specs.Files.{FileMap}
use Rattle.command_line.specs.Command.{Sample, SampleWords}
use Rattle.intake.specs.Files.{AreFound}
use Rattle.commands.specs.Sample.{ReportsSample}
use Rattle.commands.specs.Outcome.{IfOutcome}
use Rattle.commands.specs.declared.outcome.Outcome.{Outcome}
use Rattle.intake.specs.declared.stop.Stop.{Stop}
use Rattle.program.specs.Commands.{input_use, name_of}
use Rattle.program.specs.Ends.{HasOutcome, Leaves}
use Rattle.program.specs.Report.{ReportsCommand}
use Rattle.program.proofs.Layers.{went_on}
use Rattle.program.proofs.Reports.{alone, nothing_named}

pub sampled : (words : SampleWords) (shelf : Option FileMap) (Same : Type 0) (before now : Option (List ℕ)) → Same → (result : Result Outcome Stop) → IfOutcome result (ReportsSample words.seed words.count)
    → IfOutcome result (HasOutcome (ReportsCommand (Sample words)) (Leaves (input_use (Sample words)) Same before now) (AreFound shelf (name_of (Sample words))) before)
sampled words shelf Same before now same =
    went_on (λ outcome reports. alone (Sample words) shelf Same before now outcome refl (nothing_named shelf) same (λ found input. reports))
