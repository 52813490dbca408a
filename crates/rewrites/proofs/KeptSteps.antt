-- Steps one after another: what each keeps, a list of them keeps.
use Rattle.std.proofs.Common.{◌≡◌, ℕ, [], ◌∷◌, ◌++◌, ◌∙◌, true, List, refl, sym, subst}
use Rattle.std.specs.List.{list_all}
use Rattle.std.proofs.lemmas.Bool.{and_parts}
use Rattle.std.proofs.lemmas.Fn.{chained_keeps}
use Rattle.std.proofs.lemmas.List.Folds.{list_all-append}
use Rattle.msg_body.specs.Messages.{Message}
use Rattle.component_ids.specs.declared.params.SigParams.{SigParams}
use Rattle.component_values.specs.Context.{MessageContext, context_with}
use Rattle.signatures.specs.Signatures.{HasSignature}
use Rattle.signatures.proofs.Reading.{has_one_signature}
use Rattle.rewrite_script.specs.Lines.{HasValues, is_writable}
use Rattle.rewrite_script.specs.Scripts.{HaveValues}
use Rattle.rewrite_script.specs.declared.rewrite.Rewrite.{Rewrite}
use Rattle.rewrites.specs.Laws.{IsPermittedStep, KeepsOverSteps, KeepsSignature, KeepsWherePermitted}
use Rattle.rewrites.specs.Permitted.{Permits}

-- steps have values where the first ones and the last one have
pub values_parts : (done : List Rewrite) (step : Rewrite) → HaveValues (done ++ step ∷ []) → HaveValues done × HasValues step
values_parts [] step values = (tt, values.0)
values_parts (first ∷ done) step values =
    let rest = values_parts done step values.1 in
    ((values.0, rest.0), rest.1)

module _ (context : MessageContext) (label : List ℕ) (params : SigParams) (tag : List ℕ) where
  -- a message keeps its own signature
  keeps_own : HasSignature context.message label params tag → KeepsSignature context label params tag context.message
  keeps_own has = record {
    signature = has;
    components = λ k d lt result. (λ comes. comes, λ comes. comes);
    content = refl;
    base = λ base. (λ is. is, λ is. is);
    verdict = λ conf now seen verdict. (λ is. is, λ is. is);
  }

  -- what is kept and then kept again is kept
  keeps_further : (message next : Message) → KeepsSignature context label params tag message → KeepsSignature (context_with context message) label params tag next
      → KeepsSignature context label params tag next
  keeps_further message next first second = record {
    signature = second.signature;
    components = λ k d lt result.
        let one = first.components k d lt result in
        let two = second.components k d lt result in
        (λ comes. two.0 (one.0 comes), λ comes. one.1 (two.1 comes));
    content = second.content ∙ first.content;
    base = λ base. (λ is. (second.base base).0 ((first.base base).0 is), λ is. (first.base base).1 ((second.base base).1 is));
    verdict = λ conf now seen verdict.
        let one = first.verdict conf now seen verdict in
        let two = second.verdict conf now seen verdict in
        (λ is. two.0 (one.0 is), λ is. one.1 (two.1 is));
  }

  -- the steps that were taken keep the signature, where they can be written
  abbrev AreKept : List Rewrite → Message → Type 0
  AreKept done message = list_all is_writable done ≡ true → HaveValues done → KeepsSignature context label params tag message

  one_more : KeepsWherePermitted → (done : List Rewrite) (message : Message) (step : Rewrite) (next : Message) → AreKept done message → IsPermittedStep label (context_with context message) step next
      → AreKept (done ++ step ∷ []) next
  one_more keeps_where_permitted done message step next kept taken writable values =
      let parts = and_parts (list_all is_writable done) (list_all is_writable (step ∷ [])) (sym (list_all-append is_writable done (step ∷ [])) ∙ writable) in
      let both = values_parts done step values in
      let so_far = kept parts.0 both.0 in
      let one = and_parts (is_writable step) true parts.1 in
      let same = (has_one_signature message label taken.params params taken.tag tag taken.signature so_far.signature).0 in
      let permits = subst (λ (p : SigParams). Permits (context_with context message) step label p) same taken.permits in
      keeps_further message next so_far (keeps_where_permitted (context_with context message) step label params tag next one.0 both.1 so_far.signature taken.gives permits)

-- where each permitted step keeps a signature, a list of them does
pub keeps_over_steps : KeepsWherePermitted → KeepsOverSteps
keeps_over_steps keeps_where_permitted context steps label params tag after writable values has taken =
    chained_keeps (λ message step next. IsPermittedStep label (context_with context message) step next) (AreKept context label params tag)
    (one_more context label params tag keeps_where_permitted) steps context.message after (λ _ _. keeps_own context label params tag has) taken writable values
