-- What `verify` comes to, for labels, a moment, a configuration and a context.
use Rattle.std.specs.Prelude.{◌≡◌, ⊤, ℕ, List, [], ◌∷◌, Option, if◌then◌else◌}
use Rattle.std.specs.List.{list_all, flat_map, zip}
use Rattle.component_values.specs.Context.{MessageContext}
use Rattle.conf.specs.Configuration.{Configuration}
pub use Rattle.verdicts.specs.Asked.{AreAsked}
use Rattle.verdicts.specs.Verification.{verification_for}
use Rattle.verdicts.specs.Verdicts.{IsVerdict, is_accepted}
use Rattle.verdicts.specs.declared.outcome.Verdict.{Verdict}
use Rattle.verdicts.specs.VerdictLine.{verdict_line}
use Rattle.commands.specs.declared.outcome.Outcome.{Outcome}
use Rattle.commands.specs.declared.outcome.Outcome.TheVariants.{Done, NotOk}

-- each label has its verdict
abbrev pub AreVerdicts : Configuration → ℕ → MessageContext → List (List ℕ) → List Verdict
    → Type 0
AreVerdicts conf moment context [] [] = ⊤
AreVerdicts conf moment context (label ∷ labels) (verdict ∷ verdicts) =
    IsVerdict (verification_for conf moment context label) verdict
    × AreVerdicts conf moment context labels verdicts
AreVerdicts conf moment context labels verdicts = ⊥

-- the lines of labels and their verdicts
abbrev pub verdict_lines : List (List ℕ) → List Verdict → List ℕ
verdict_lines labels verdicts = flat_map verdict_line (zip labels verdicts)

-- the lines, as done only where each label is accepted
abbrev pub verdicts_outcome : List (List ℕ) → List Verdict → Outcome
verdicts_outcome labels verdicts =
    if list_all is_accepted verdicts then Done (verdict_lines labels verdicts)
    else NotOk (verdict_lines labels verdicts)

-- each label that is asked for has its line
pub record ReportsVerdicts (label : Option (List ℕ)) (moment : ℕ) (conf : Configuration)
    (context : MessageContext) (outcome : Outcome) : Type 0 where
  pub labels : List (List ℕ)
  pub asked : AreAsked label context.message labels
  pub verdicts : List Verdict
  pub are : AreVerdicts conf moment context labels verdicts
  pub outcome_is : outcome ≡ verdicts_outcome labels verdicts
