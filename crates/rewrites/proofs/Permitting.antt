-- What a condition answers of a permission, and what that keeps.
use Rattle.std.proofs.Common.{◌≡◌, ◌↔◌, ℕ, Bool, true, IsTrue, List}
use Rattle.msg_body.specs.Messages.{Message}
use Rattle.component_ids.specs.declared.params.SigParams.{SigParams}
use Rattle.component_values.specs.Context.{MessageContext}
use Rattle.signatures.specs.Signatures.{HasSignature}
use Rattle.rewrite_script.specs.Lines.{HasValues, is_writable}
use Rattle.rewrite_script.specs.declared.rewrite.Rewrite.{Rewrite}
use Rattle.rewrites.specs.Conditions.{IsConditionOf, IsMetBy}
use Rattle.rewrites.specs.Laws.{KeepsSignature, KeepsWherePermitted}
use Rattle.rewrites.specs.Steps.{Step}
use Rattle.rewrites.specs.declared.permit.StepCondition.{StepCondition}

pub keeps_permitted : (condition : StepCondition) (params : SigParams) (met : Bool) → KeepsWherePermitted → IsTrue met ↔ IsMetBy params condition
    → (context : MessageContext) (step : Rewrite) (label : List ℕ) → IsConditionOf context step condition → is_writable step ≡ true → IsTrue met → (tag : List ℕ) (after : Message) → HasValues step
    → HasSignature context.message label params tag → Step context step after → KeepsSignature context label params tag after
keeps_permitted condition params met law is context step label asked writable met_is tag after values signature gives =
    law context step label params tag after writable values signature gives ((asked label params).0 (is.0 met_is))
