-- What is written of an explanation of two messages.
use Rattle.std.proofs.Common.{◌≡◌, ◌≢◌, ◌<◌, ◌∙◌, ℕ, true, List, length, Some, Ok, Err, inl, inr, refl, sym, ap, subst}
use Rattle.std.specs.Prelude.{IfOk, IsSomeAnd, IsTrue, Result}
use Rattle.std.specs.List.{list_all, slice_get}
use Rattle.std.proofs.lemmas.Bool.{and_parts}
use Rattle.std.proofs.lemmas.Option.{slice_get_within}
use Rattle.byte_grammar.specs.Causes.{AnswersWhere}
use Rattle.byte_grammar.specs.declared.memory.Memory.{Memory}
use Rattle.byte_grammar.proofs.Indices.{all_at, some_and, some_and_at, some_and_parts}
use Rattle.msg_body.specs.Messages.{Message}
use Rattle.component_ids.specs.Identifiers.{is_id_in_range}
use Rattle.sfv_text.specs.Range.{are_params_in_range}
use Rattle.component_ids.specs.SignatureParams.{are_sig_params_in_range}
use Rattle.component_ids.specs.declared.id.ComponentId.{ComponentId}
use Rattle.component_ids.specs.declared.params.SigParams.{SigParams}
use Rattle.component_values.specs.Context.{MessageContext, context_with}
use Rattle.normal_forms.specs.Agreement.{AgreeOn}
use Rattle.normal_forms.specs.Causes.{IsExplainFault}
use Rattle.normal_forms.specs.Explanations.{Explains}
use Rattle.normal_forms.specs.Laws.{HasExplanationOrFault, HasOneExplainFault, HasOneExplanation}
use Rattle.normal_forms.specs.declared.explanation.Explained.{Explained}
use Rattle.normal_forms.specs.declared.explanation.Explained.TheVariants.{Same, Differs}
use Rattle.normal_forms.specs.declared.fault.ExplainFault.{ExplainFault}
use Rattle.normal_forms.specs.declared.fault.ExplainFault.TheVariants.{Memory as NoMemory, Unread, NotPlain, OtherBasis}
use Rattle.rewrite_script.specs.declared.rewrite.Rewrite.{Rewrite}
use Rattle.signatures.specs.Signatures.{HasSignature}
use Rattle.signatures.proofs.Reading.{has_one_signature}
use Rattle.refusals.specs.declared.refusal.Refusal.TheVariants.{Command}
use Rattle.refusals.specs.declared.refusal.CommandRefusal.TheVariants.{Explain}
use Rattle.commands.specs.Explain.{IsDifference, ReportsExplanation, WritesExplained, differing_text, explained_text}
use Rattle.commands.specs.Laws.{HasOneExplained, HasSomeExplained}
use Rattle.commands.specs.Layers.{IsUnrefused}
use Rattle.intake.specs.Stops.{stop_of_explain}
use Rattle.commands.specs.Outcome.{IfOutcome, ReadsNothing}
use Rattle.commands.specs.tools.Explained.{HasCovered}
use Rattle.commands.specs.declared.outcome.Outcome.{Outcome}
use Rattle.commands.specs.declared.outcome.Outcome.TheVariants.{Done, NotOk, Refused}

-- ---- at most one

one_line : (ids : List ComponentId) (index : ℕ) (one other : Outcome) → IsSomeAnd (slice_get ids index) (λ id. one ≡ NotOk (differing_text id))
    → IsSomeAnd (slice_get ids index) (λ id. other ≡ NotOk (differing_text id)) → one ≡ other
one_line ids index one other a b =
    let id = some_and_parts (λ (i : ComponentId). one ≡ NotOk (differing_text i)) (slice_get ids index) a in
    id.2 ∙ sym (some_and_at (λ (i : ComponentId). other ≡ NotOk (differing_text i)) (slice_get ids index) id.0 id.1 b)

one_written : (message : Message) (label : List ℕ) (explained : Explained) (one other : Outcome) → WritesExplained message label explained one → WritesExplained message label explained other → one ≡ other
one_written message label (Same a b) one other x y = x ∙ sym y
one_written message label (Differs index) one other x y =
    let same = has_one_signature message label x.params y.params x.tag y.tag x.signature y.signature in
    one_line y.params.ids index one other (subst (λ (params : SigParams). IsSomeAnd (slice_get params.ids index) (λ id. one ≡ NotOk (differing_text id))) same.0 x.there) y.there

module _ (one_explanation : HasOneExplanation) (one_fault : HasOneExplainFault) where
  pub one_explained : HasOneExplained
  one_explained label also context one other (inl a) (inl b) =
      let same : a.0 ≡ b.0 = one_explanation context (context_with context also) label a.0 b.0 a.1.made b.1.made in
      one_written context.message label b.0 one other (subst (λ (e : Explained). WritesExplained context.message label e one) same a.2) b.2
  one_explained label also context one other (inl a) (inr b) = absurd (a.1.none b.0 b.1)
  one_explained label also context one other (inr a) (inl b) = absurd (b.1.none a.0 a.1)
  one_explained label also context one other (inr a) (inr b) =
      a.2 ∙ (ap (λ (f : ExplainFault). Refused (Command (Explain f))) (one_fault context (context_with context also) label a.0 b.0 a.1 b.1) ∙ sym b.2)

-- ---- some

some_written : (first second : MessageContext) (label : List ℕ) (explained : Explained) → Explains first second label explained → (outcome : Outcome) × WritesExplained first.message label explained outcome
some_written first second label (Same a b) is = (Done (explained_text a b), refl)
some_written first second label (Differs index) is =
    let id = some_and_parts (λ (i : ComponentId). ¬ AgreeOn first.message second.message i) (slice_get is.params.ids index) is.explains.there in (
      NotOk (differing_text id.0),
      record {
        params = is.params;
        tag = is.tag;
        signature = is.first_has;
        there = some_and (λ (i : ComponentId). NotOk (differing_text id.0) ≡ NotOk (differing_text i)) (slice_get is.params.ids index) id.0 id.1 refl;
      },
    )

pub has_some_explained : HasExplanationOrFault → HasSomeExplained
has_some_explained some label also context whole also_whole = elim (some context (context_with context also) label whole also_whole refl) [
  | inl fault ↦ (Refused (Command (Explain fault.0)), inr (fault.0, fault.1, refl))
  | inr is ↦
      let written = some_written context (context_with context also) label is.1.0 is.1.1 in
      (written.0, inl (is.1.0, record { made = is.1.1; none = is.0 }, written.1))
]

-- ---- the component that differs

-- it is one of those that are read for the label
pub covered_read : (message : Message) (label : List ℕ) (index : ℕ) (params : SigParams) (tag : List ℕ) → HasCovered message label index → HasSignature message label params tag → index < length params.ids
covered_read message label index params tag covered has =
    let same = has_one_signature message label covered.params params covered.tag tag covered.signature has in
    subst (λ (p : SigParams). index < length p.ids) same.0 covered.within

pub id_in_range : (params : SigParams) (index : ℕ) (id : ComponentId) → are_sig_params_in_range params ≡ true → slice_get params.ids index ≡ Some id → IsTrue (is_id_in_range id)
id_in_range params index id ranged at =
    all_at is_id_in_range params.ids index id (and_parts (list_all is_id_in_range params.ids) (are_params_in_range params.params) ranged).0 at

pub difference_is : (message : Message) (label : List ℕ) (index : ℕ) (params : SigParams) (tag : List ℕ) (result : Result Outcome Memory) → HasSignature message label params tag
    → IfOk result (λ outcome. IsSomeAnd (slice_get params.ids index) (λ id. outcome ≡ NotOk (differing_text id))) → IfOk result (IsDifference message label index)
difference_is message label index params tag (Ok outcome) has there = record { params = params; tag = tag; signature = has; there = there }
difference_is message label index params tag (Err memory) has there = tt

pub covered_where_differs : (first second : MessageContext) (label : List ℕ) (index : ℕ) → Explains first second label (Differs index) → HasCovered first.message label index
covered_where_differs first second label index is =
    let id = some_and_parts (λ (i : ComponentId). ¬ AgreeOn first.message second.message i) (slice_get is.params.ids index) is.explains.there in
    record { params = is.params; tag = is.tag; signature = is.first_has; within = slice_get_within is.params.ids index id.0 id.1 }

-- ---- the answer

-- what is known of an answer, by the contract of what explains
module _ (first second : MessageContext) (label : List ℕ) where
  pub unrefused : (explained : Explained) → Explains first second label explained
      → ((fault : ExplainFault) → fault ≢ NoMemory → AnswersWhere NoMemory (Ok explained) fault (IsExplainFault first second label fault))
      → IsUnrefused (Explains first second label) (IsExplainFault first second label) explained
  unrefused explained is faults = record { made = is; none = none } where
    other : (fault : ExplainFault) → fault ≢ NoMemory → ¬ IsExplainFault first second label fault
    other fault is_other cause = elim ((faults fault is_other).there cause) [
      | inl same ↦ cc same
      | inr memory ↦ cc memory
    ]

    none : (fault : ExplainFault) → ¬ IsExplainFault first second label fault
    none NoMemory cause = cause.holds
    none Unread cause = other Unread (λ e. cc e) cause
    none (NotPlain index) cause = other (NotPlain index) (λ e. cc e) cause
    none (OtherBasis basis) cause = other (OtherBasis basis) (λ e. cc e) cause

-- what was answered, by the contract of what explains
abbrev NoFaultOf : MessageContext → Message → List ℕ → Explained → Type 0
NoFaultOf context also label explained =
    (fault : ExplainFault) → fault ≢ NoMemory → AnswersWhere NoMemory (Ok explained) fault (IsExplainFault context (context_with context also) label fault)

pub same_reported : (label : List ℕ) (also : Message) (context : MessageContext) (explained : Explained) (steps others : List Rewrite) (text : List ℕ) → explained ≡ Same steps others
    → Explains context (context_with context also) label explained → NoFaultOf context also label explained → text ≡ explained_text steps others → ReportsExplanation label also context (Done text)
same_reported label also context explained steps others text is explains faults written =
    inl (
      explained,
      unrefused context (context_with context also) label explained explains faults,
      subst (λ (e : Explained). WritesExplained context.message label e (Done text)) (sym is) (ap Done written),
    )

pub differs_reported : (label : List ℕ) (also : Message) (context : MessageContext) (explained : Explained) (index : ℕ) (outcome : Outcome) → explained ≡ Differs index
    → Explains context (context_with context also) label explained → NoFaultOf context also label explained → IsDifference context.message label index outcome → ReportsExplanation label also context outcome
differs_reported label also context explained index outcome is explains faults written =
    inl (
      explained,
      unrefused context (context_with context also) label explained explains faults,
      subst (λ (e : Explained). WritesExplained context.message label e outcome) (sym is) written,
    )

pub fault_reported : (label : List ℕ) (also : Message) (context : MessageContext) (fault : ExplainFault)
    → ((other : ExplainFault) → other ≢ NoMemory → AnswersWhere {T = Explained} NoMemory (Err fault) other (IsExplainFault context (context_with context also) label other))
    → IfOutcome (Err (stop_of_explain fault)) (ReportsExplanation label also context)
fault_reported label also context NoMemory faults = tt
fault_reported label also context Unread faults = inr (Unread, (faults Unread (λ e. absurd (cc e))).only refl, refl)
fault_reported label also context (NotPlain index) faults = inr (NotPlain index, (faults (NotPlain index) (λ e. absurd (cc e))).only refl, refl)
fault_reported label also context (OtherBasis basis) faults = inr (OtherBasis basis, (faults (OtherBasis basis) (λ e. absurd (cc e))).only refl, refl)

pub quiet : (fault : ExplainFault) → ReadsNothing (Err (stop_of_explain fault))
quiet NoMemory = tt
quiet Unread = tt
quiet (NotPlain index) = tt
quiet (OtherBasis basis) = tt
