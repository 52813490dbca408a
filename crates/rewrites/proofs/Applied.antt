-- The text that a step makes tells what the step gives: the message that it is a text of, with as much content.
use Rattle.std.proofs.Common.{◌≡◌, ℕ, true, Result, Ok, Err, IfOk, List, length, refl, subst, inl, inr}
use Rattle.byte_grammar.specs.Causes.{AnswersWhere}
use Rattle.msg_body.specs.Messages.{Message, Spells}
use Rattle.msg_body.specs.Views.{message_content}
use Rattle.msg_body.proofs.OneMessages.{one_message_law}
use Rattle.component_ids.specs.declared.params.SigParams.{SigParams}
use Rattle.component_values.specs.Context.{MessageContext, answers_head}
use Rattle.signatures.specs.Signatures.{HasSignature}
use Rattle.rewrite_script.specs.Lines.{HasValues, is_writable}
use Rattle.rewrite_script.specs.declared.rewrite.Rewrite.{Rewrite}
use Rattle.line_rewrites.specs.declared.fault.ApplyFault.{ApplyFault}
use Rattle.line_rewrites.specs.declared.fault.ApplyFault.TheVariants.{Memory, NotApplicable}
use Rattle.line_rewrites.specs.Sized.{SpellsSized}
use Rattle.rewrites.specs.Laws.{KeepsSignature, KeepsWherePermitted}
use Rattle.rewrites.specs.Permitted.{Permits}
use Rattle.rewrites.specs.Steps.{IsNotApplicable, Rewrites, SpellsStep, Step}
use Rattle.rewrites.specs.tools.Judged.{ExplainsStep}
use Rattle.rewrites.proofs.StepKinds.{gives_kind}

-- ---- the message of the text

module _ (context : MessageContext) (step : Rewrite) (text : List ℕ) (spells : SpellsStep context step text) where
  pub read_explained : (message : Message) → SpellsSized (answers_head context.related) text (length (message_content context.message)) message → Rewrites context step text
  read_explained message spelled = (message, (spells message).1 spelled, spelled.spells.text)

-- ---- what is answered

pub fault_is : (context : MessageContext) (step : Rewrite) (result : Result (List ℕ) ApplyFault) → ExplainsStep context step result → AnswersWhere Memory result NotApplicable (IsNotApplicable context step)
fault_is context step (Ok text) is = record { only = λ e. absurd cc; there = λ none. absurd (none is.0 is.1) }
fault_is context step (Err NotApplicable) is = record { only = λ _. is; there = λ _. inl refl }
fault_is context step (Err Memory) is = record { only = λ e. absurd cc; there = λ _. inr refl }

-- the text that is answered is a message's
pub is_spelled : (context : MessageContext) (step : Rewrite) (result : Result (List ℕ) ApplyFault) → ExplainsStep context step result → IfOk result (λ text. (after : Message) × Spells (answers_head context.related) after text)
is_spelled context step (Ok text) is = (is.0, record { is = (gives_kind context step is.0 is.1).0; text = is.2 })
is_spelled context step (Err fault) is = tt

-- it is the one that keeps a signature which permits the step
pub keeps_signature : (context : MessageContext) (step : Rewrite) (result : Result (List ℕ) ApplyFault) → KeepsWherePermitted → is_writable step ≡ true → ExplainsStep context step result
    → IfOk result (λ text. (after : Message) (label : List ℕ) (params : SigParams) (tag : List ℕ) → Spells (answers_head context.related) after text → HasValues step
    → HasSignature context.message label params tag → Permits context step label params → KeepsSignature context label params tag after)
keeps_signature context step (Ok text) law writable is = λ after label params tag spells values signature permits.
    let own : Spells (answers_head context.related) is.0 text = record { is = (gives_kind context step is.0 is.1).0; text = is.2 } in
    let same = one_message_law (answers_head context.related) text is.0 after own spells in
    law context step label params tag after writable values signature (subst (λ (m : Message). Step context step m) same is.1) permits
keeps_signature context step (Err fault) law writable is = tt
