-- What is permitted is kept, or lacks what it lacked.
use Rattle.std.proofs.Common.{ℕ, List}
use Rattle.std.specs.Prelude.{IsTrue}
use Rattle.std.specs.List.{list_all}
use Rattle.msg_body.specs.Messages.{Message}
use Rattle.component_ids.specs.declared.id.ComponentId.{ComponentId}
use Rattle.component_ids.specs.declared.params.SigParams.{SigParams}
use Rattle.component_values.specs.Alike.{ComesToSame}
use Rattle.component_values.specs.Context.{MessageContext, context_with}
use Rattle.signatures.specs.Signatures.{HasSignature}
use Rattle.rewrite_script.specs.Lines.{is_writable}
use Rattle.rewrite_script.specs.Scripts.{HaveValues}
use Rattle.rewrite_script.specs.declared.rewrite.Rewrite.{Rewrite}
use Rattle.rewrites.specs.Laws.{KeepsOverSteps, KeepsSignature}
use Rattle.rewrites.proofs.Kept.{keeps_over_steps}
use Rattle.hop_audit.specs.declared.line.Fate.{Fate}
use Rattle.hop_audit.specs.declared.line.Fate.TheVariants.{Dropped, Changed, Lacking, Kept}
use Rattle.hop_audit.specs.Fates.{HasChanged, IsFate}
use Rattle.hop_audit.specs.Hops.{IsPermitted}
use Rattle.hop_audit.specs.Laws.{IsKeptOrLacking, KeepsFate}
use Rattle.hop_audit.proofs.Fates.{one_answer}
use Rattle.hop_audit.proofs.FirstOf.{all_at}

module _ (keeps : KeepsOverSteps) (context : MessageContext) (script : List Rewrite) (after : Message) (label : List ℕ) (params : SigParams) (tag : List ℕ)
    (writable : IsTrue (list_all is_writable script)) (values : HaveValues script) (has : HasSignature context.message label params tag) (permitted : IsPermitted label context script after) where
  pub kept : KeepsSignature context label params tag after
  kept = keeps context script label params tag after writable values has permitted

  same_unchanged : (id : ComponentId) → ComesToSame context after id → ¬ HasChanged context after id
  same_unchanged id same changed =
      changed.3 (one_answer (context_with context after) id changed.0 changed.1 ((same changed.0).0 changed.2.before) changed.2.after)

  pub permitted_fate : (fate : Fate) → IsFate context after label params tag fate → IsKeptOrLacking fate
  permitted_fate Dropped none = none kept.signature
  permitted_fate (Changed id) is =
      same_unchanged id (all_at (ComesToSame context after) params.ids is.1.index id kept.components is.1.there) is.1.holds
  permitted_fate (Lacking id) is = tt
  permitted_fate Kept is = tt

-- a hop for which it is permitted keeps a signature, or leaves it lacking
pub keeps_fate : KeepsFate
keeps_fate context script after label params tag fate writable values has permitted is =
    permitted_fate keeps_over_steps context script after label params tag writable values has permitted fate is
