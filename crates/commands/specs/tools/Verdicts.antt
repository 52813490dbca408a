-- What the parts of `verify` write. No public clause cites this module.
use Rattle.std.specs.Prelude.{◌≡◌, ℕ, Bool, List, ◌++◌}
use Rattle.std.specs.List.{list_all}
use Rattle.component_values.specs.Context.{MessageContext}
use Rattle.conf.specs.Configuration.{Configuration}
use Rattle.verdicts.specs.Verification.{Verification}
use Rattle.verdicts.specs.Verdicts.{IsVerdict}
use Rattle.verdicts.specs.declared.outcome.Verdict.{Verdict}
use Rattle.verdicts.specs.VerdictLine.{verdict_line}
use Rattle.commands.specs.Verify.{AreVerdicts, verdict_lines, verdicts_outcome}
use Rattle.verdicts.specs.Verdicts.{is_accepted}
use Rattle.commands.specs.declared.outcome.Outcome.{Outcome}

-- the line of the label's verdict is added, and it is said whether it is accepted
pub record WritesVerdict (v : Verification) (before now : List ℕ) (accepted : Bool)
    : Type 0 where
  pub verdict : Verdict
  pub is : IsVerdict v verdict
  pub accepted_is : accepted ≡ is_accepted verdict
  pub added : now ≡ before ++ verdict_line (v.label, verdict)

-- the lines of these labels are the outcome
pub record ReportsLabels (conf : Configuration) (moment : ℕ) (context : MessageContext)
    (labels : List (List ℕ)) (outcome : Outcome) : Type 0 where
  pub verdicts : List Verdict
  pub are : AreVerdicts conf moment context labels verdicts
  pub outcome_is : outcome ≡ verdicts_outcome labels verdicts

-- the lines so far
pub record AreLinesSoFar (conf : Configuration) (moment : ℕ) (context : MessageContext)
    (labels : List (List ℕ)) (lines : List ℕ) (accepted : Bool) : Type 0 where
  pub verdicts : List Verdict
  pub are : AreVerdicts conf moment context labels verdicts
  pub lines_are : lines ≡ verdict_lines labels verdicts
  pub accepted_is : accepted ≡ list_all is_accepted verdicts
