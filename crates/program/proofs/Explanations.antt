-- What `explain` writes tells of the messages that it was given.
use Rattle.std.proofs.Common.{◌≡◌, ℕ, List, refl, sym, subst}
use Rattle.std.specs.Prelude.{IsSomeAnd}
use Rattle.std.specs.List.{All, slice_get}
use Rattle.std.proofs.lemmas.Option.{get_or_from_slice_get, slice_get_within}
use Rattle.byte_grammar.proofs.Indices.{some_and, some_and_parts}
use Rattle.component_ids.specs.declared.id.ComponentId.{ComponentId}
use Rattle.component_ids.specs.declared.params.SigParams.{SigParams}
use Rattle.component_values.specs.Context.{MessageContext, context_with}
use Rattle.msg_body.specs.Messages.{Message}
use Rattle.normal_forms.specs.Agreement.{AgreeOn}
use Rattle.normal_forms.specs.Explanations.{DifferFirstAt, Explains}
use Rattle.normal_forms.specs.declared.explanation.Explained.{Explained}
use Rattle.normal_forms.specs.declared.explanation.Explained.TheVariants.{Same, Differs}
use Rattle.signatures.proofs.Reading.{has_one_signature}
use Rattle.commands.specs.Explain.{WritesExplained, differing_text}
use Rattle.commands.specs.Outcome.{output_of, status_of}
use Rattle.commands.specs.declared.outcome.Outcome.{Outcome}
use Rattle.commands.specs.declared.outcome.Outcome.TheVariants.{NotOk as Counted}
use Rattle.program.specs.Meanings.{IsExplanation}

-- messages that differ at an index don't agree on all
not_all : (first second : Message) (index : ℕ) (ids : List ComponentId) → DifferFirstAt first second index ids → ¬ All (AgreeOn first second) ids
not_all first second index ids differ all =
    let id = some_and_parts (λ (i : ComponentId). ¬ AgreeOn first second i) (slice_get ids index) differ.there in
    id.2 (subst (λ (i : ComponentId). AgreeOn first second i) (get_or_from_slice_get ids index id.0 id.0 id.1) (all index id.0 (slice_get_within ids index id.0 id.1)))

module _ (context : MessageContext) (also : Message) (label : List ℕ) where
  abbrev second : MessageContext
  second = context_with context also

  abbrev Is : Outcome → Type 0
  Is outcome = IsExplanation context second label (status_of outcome) (output_of outcome)

  pub explained_is : (explained : Explained) (outcome : Outcome) → Explains context second label explained → WritesExplained context.message label explained outcome → Is outcome
  explained_is (Same steps others) outcome is written = subst Is (sym written) (record {
    params = is.params;
    tag = is.tag;
    signature = is.first_has;
    other_signature = is.second_has;
    exact = (λ _. is.explains.agree, λ _. refl);
    steps = λ _. record { steps = steps; others = others; are = is.explains; written = refl };
    difference = λ e. absurd (cc e);
  })
  explained_is (Differs index) outcome is written =
      let same = has_one_signature context.message label written.params is.params written.tag is.tag written.signature is.first_has in
      let there : IsSomeAnd (slice_get is.params.ids index) (λ id. outcome ≡ Counted (differing_text id)) =
      subst (λ (params : SigParams). IsSomeAnd (slice_get params.ids index) (λ id. outcome ≡ Counted (differing_text id))) same.0 written.there in
      let id = some_and_parts (λ (i : ComponentId). outcome ≡ Counted (differing_text i)) (slice_get is.params.ids index) there in
      subst Is (sym id.2) (record {
        params = is.params;
        tag = is.tag;
        signature = is.first_has;
        other_signature = is.second_has;
        exact = (λ e. absurd (cc e), λ all. absurd (not_all context.message also index is.params.ids is.explains all));
        steps = λ e. absurd (cc e);
        difference = λ _. record {
          index = index;
          first = is.explains;
          written = some_and (λ (i : ComponentId). differing_text id.0 ≡ differing_text i) (slice_get is.params.ids index) id.0 id.1 refl;
        };
      })
