-- What the code of the kinds that change the target answers is what they make, or they make no message.
use Rattle.std.proofs.Common.{◌≡◌, ℕ, true, Option, Some, None, Result, Ok, Err, List, ◌∷◌, ◌++◌, inl, inr, [], refl, sym, subst, ap, ◌∙◌}
use Rattle.std.proofs.lemmas.Bool.{cases_Bool}
use Rattle.msg_head.specs.Starts.{RequestLine, is_target, request, request_text}
use Rattle.msg_body.specs.Messages.{IsMessage, Spells}
use Rattle.derived_values.specs.Targets.{SpellsTarget, TargetParts, has_path, query_of, query_text}
use Rattle.std.specs.Prelude.{codes}
use Rattle.sfv_text.specs.declared.pair.Pair.{Pair}
use Rattle.sfv_text.specs.declared.value.BareItem.{BareItem}
use Rattle.msg_head.specs.declared.error.Side.TheVariants.{Header}
use Rattle.msg_body.specs.Views.{lines_on}
use Rattle.derived_values.specs.Answers.{AnswersRow}
use Rattle.derived_values.specs.Derived.{DerivedRow, derived_of}
use Rattle.derived_values.specs.declared.derived.DerivedName.TheVariants.{OfTarget}
use Rattle.derived_values.specs.declared.derived.TargetName.TheVariants as name
use Rattle.derived_values.specs.declared.lack.Lack.{Lack}
use Rattle.derived_values.specs.declared.lack.NoValue.{NoValue}
use Rattle.derived_values.specs.declared.lack.NoValue.TheVariants.{Lacks}
use Rattle.component_values.specs.Values.{Has}
use Rattle.component_values.proofs.RowLaws.{lacks_no_value}
use Rattle.component_values.specs.Context.{MessageContext, answers_head}
use Rattle.rewrite_script.specs.Lines.{is_query}
use Rattle.rewrite_script.specs.declared.rewrite.WholeRewrite.{WholeRewrite}
use Rattle.rewrite_script.specs.declared.rewrite.WholeRewrite.TheVariants.{Absolute, Origin, Query}
use Rattle.line_rewrites.specs.declared.fault.ApplyFault.{ApplyFault}
use Rattle.line_rewrites.specs.declared.fault.ApplyFault.TheVariants.{Memory, NotApplicable}
use Rattle.whole_rewrites.specs.Steps.{Makes}
use Rattle.whole_rewrites.specs.Targets.{HasTarget, derived_id, HasOtherQuery, IsAbsoluteOf, IsOriginOf}
use Rattle.whole_rewrites.specs.tools.Judged.{Offers}
use Rattle.whole_rewrites.specs.tools.Kinds.{IsExactKind}
use Rattle.whole_rewrites.specs.tools.Retargeted.{Retargets}
use Rattle.whole_rewrites.proofs.Targeted.{after_line, line_first, line_is, new_line_first, no_message, retargeted, sound_where_fits}
use Rattle.whole_rewrites.proofs.TargetKinds.{absolute_exact, absolute_target, front_of, origin_exact, origin_target, query_exact, query_target}

-- the bytes begin with the line, and so the answer is right for what comes after it
abbrev pub RetargetsBytes : List ℕ → RequestLine → List ℕ → Result (List ℕ) ApplyFault → Type 0
RetargetsBytes bytes line target result = (more : List ℕ) → bytes ≡ request_text line ++ more → Retargets line target more result

offers_new : (context : MessageContext) (step : WholeRewrite) (line : RequestLine) (target : List ℕ) (result : Result (List ℕ) ApplyFault) → IsExactKind step
    → context.message.head.start ≡ request line → IsMessage (answers_head context.related) context.message → is_target target ≡ true
    → Makes context step (retargeted context line target) → Retargets line target (after_line context.message) result → Offers context step result
offers_new context step line target (Ok text) exact start is some makes goes = record {
  made = retargeted context line target;
  makes = makes;
  sound = sound_where_fits context line target start is some goes.0;
  text_is = goes.1 ∙ sym (new_line_first context line target);
}
offers_new context step line target (Err NotApplicable) exact start is some makes goes =
    λ made also. no_message context line target made goes (exact.one context made (retargeted context line target) also makes)
offers_new context step line target (Err Memory) exact start is some makes goes = tt

begins : (context : MessageContext) (bytes : List ℕ) (line : RequestLine) → Spells (answers_head context.related) context.message bytes → context.message.head.start ≡ request line
    → bytes ≡ request_text line ++ after_line context.message
begins context bytes line spells start = spells.text ∙ line_first context.message line start

pub origin_offers : (context : MessageContext) (bytes : List ℕ) (line : RequestLine) (parts : TargetParts) (target : List ℕ) (result : Result (List ℕ) ApplyFault)
    → Spells (answers_head context.related) context.message bytes → HasTarget context.message line parts → IsOriginOf parts target → RetargetsBytes bytes line target result → Offers context Origin result
origin_offers context bytes line parts target result spells has change goes =
    let old = line_is context.message (answers_head context.related) line has.start_is spells.is in
    offers_new context Origin line target result origin_exact has.start_is spells.is (origin_target line parts target has.spells old.target change)
    (record { line = line; parts = parts; has = has; target = target; change = change; made_is = refl })
    (goes (after_line context.message) (begins context bytes line spells has.start_is))

pub absolute_offers : (context : MessageContext) (bytes : List ℕ) (line : RequestLine) (parts : TargetParts) (target : List ℕ) (result : Result (List ℕ) ApplyFault)
    → Spells (answers_head context.related) context.message bytes → HasTarget context.message line parts → IsAbsoluteOf context line parts target → RetargetsBytes bytes line target result → Offers context Absolute result
absolute_offers context bytes line parts target result spells has change goes =
    let old = line_is context.message (answers_head context.related) line has.start_is spells.is in
    offers_new context Absolute line target result absolute_exact has.start_is spells.is (absolute_target context line parts target has.spells old.target change)
    (record { line = line; parts = parts; has = has; target = target; change = change; made_is = refl })
    (goes (after_line context.message) (begins context bytes line spells has.start_is))

pub query_offers : (context : MessageContext) (text : Option (List ℕ)) (bytes : List ℕ) (line : RequestLine) (parts : TargetParts) (target : List ℕ) (result : Result (List ℕ) ApplyFault)
    → is_query text ≡ true → Spells (answers_head context.related) context.message bytes → HasTarget context.message line parts → HasOtherQuery text line parts target → RetargetsBytes bytes line target result
    → Offers context (Query text) result
query_offers context text bytes line parts target result writable spells has change goes =
    let old = line_is context.message (answers_head context.related) line has.start_is spells.is in
    offers_new context (Query text) line target result (query_exact text) has.start_is spells.is (query_target text writable line parts target has.spells old.target change)
    (record { line = line; parts = parts; has = has; target = target; change = change; made_is = refl })
    (goes (after_line context.message) (begins context bytes line spells has.start_is))

-- a target with this query begins with what is before the query
pub front_before : (method target : List ℕ) (parts : TargetParts) (query : Option (List ℕ)) → SpellsTarget method target parts → Some query ≡ query_of parts
    → (front : List ℕ) × (target ≡ front ++ query_text query)
front_before method target parts query spells is = elim (cases_Bool (has_path parts.form)) [
  | inr other ↦ absurd (let e : Some query ≡ None = rw other at is in cc)
  | inl form ↦
      let e : Some query ≡ Some parts.query = rw form at is in
      let same : query ≡ parts.query = cc in
      let f = front_of method target parts spells form in
      (f.first ∷ f.rest, f.joined ∙ ap (λ q. (f.first ∷ f.rest) ++ query_text q) (sym same))
]

-- ---- the value of `@authority`

-- it is no parameter of a query
pub no_param : derived_of (codes "@authority") ≡ Some (OfTarget name.QueryParam) → ⊥
no_param is = absurd cc

pub lacks_authority : (context : MessageContext) (text : List ℕ) (params : List (Pair BareItem)) (result : Result (List ℕ) NoValue) (lack : Lack) → text ≡ codes "@authority" → params ≡ []
    → AnswersRow (DerivedRow (derived_of text) params context.scheme (lines_on Header context.message) context.message.head.start) result → result ≡ Err (Lacks lack)
    → (value : List ℕ) → ¬ Has context (derived_id (codes "@authority")) value
lacks_authority context text params result lack named none answers is value has =
    let Row : List ℕ × List (Pair BareItem) → Result (List ℕ) Lack → Type 0 = λ p r. DerivedRow (derived_of p.0) p.1 context.scheme (lines_on Header context.message) context.message.head.start r in
    let row : Row (text, params) (Err lack) = subst (λ (r : Result (List ℕ) NoValue). AnswersRow (Row (text, params)) r) is answers in
    lacks_no_value context (derived_id (codes "@authority")) value lack has (subst (λ (p : List ℕ × List (Pair BareItem)). Row p (Err lack)) (λ i. (named i, none i)) row)
