-- How steps are judged by the signature of a label. No public clause cites this module.
use Rattle.std.specs.Prelude.{◌≡◌, ℕ, List, Option, Some, None}
use Rattle.component_ids.specs.declared.params.SigParams.{SigParams}
use Rattle.component_values.specs.Context.{MessageContext}
use Rattle.rewrite_script.specs.declared.rewrite.Rewrite.{Rewrite}
use Rattle.rewrites.specs.Permitted.{Permits}
use Rattle.rewrites.specs.declared.watcher.Judgement.{Judgement}
use Rattle.rewrites.specs.declared.watcher.Judgement.TheVariants.{Permitted, Forbidden, Unjudged}
use Rattle.signatures.specs.Signatures.{HasSignature}
use Rattle.commands.specs.Rewrite.{IsRead}

-- the label has a signature in the context's message, and this holds of its parameters
pub record HasRead (context : MessageContext) (label : List ℕ) (Holds : SigParams → Type 0)
    : Type 0 where
  pub params : SigParams
  pub tag : List ℕ
  pub signature : HasSignature context.message label params tag
  pub holds : Holds params

-- the step is judged by the signature of the given label, which permits it or not, or isn't there;
-- where no label is given it is permitted
abbrev pub IsJudged : Option (List ℕ) → MessageContext → Rewrite → Judgement → Type 0
IsJudged None context step judgement = judgement ≡ Permitted
IsJudged (Some label) context step Permitted =
    HasRead context label (λ params. Permits context step label params)
IsJudged (Some label) context step Forbidden =
    HasRead context label (λ params. ¬ Permits context step label params)
IsJudged (Some label) context step Unjudged = ¬ IsRead context.message label
