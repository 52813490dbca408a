-- What is answered of the parts of a list.
use Rattle.std.proofs.Common.{◌≡◌, ℕ, ◌+◌, ◌-◌, ◌≤◌, true, false, not, Some, None, Result, Err, List, length, sym, ap, subst, ◌∙◌, arith}
use Rattle.std.specs.Prelude.{position}
use Rattle.std.specs.Str.{bytes_eq}
use Rattle.std.proofs.lemmas.Bool.{false≢true, iff_false, not-true}
use Rattle.std.proofs.lemmas.List.{length-append}
use Rattle.std.proofs.lemmas.Slice.Eq.{bytes_eq-Decides}
use Rattle.byte_grammar.specs.Causes.{IsFirst}
use Rattle.component_ids.specs.declared.scheme.Scheme.{Scheme}
use Rattle.derived_values.specs.Derived.{scheme_text}
use Rattle.list_texts.specs.declared.list.Field.{Field}
use Rattle.list_texts.specs.declared.list.FieldList.{FieldList}
use Rattle.field_lists.specs.declared.to_fault.ToFault.{ToFault}
use Rattle.field_lists.specs.declared.to_fault.ToFault.TheVariants.{Memory, SchemeOther, BadField, BadLength, BodyRefused, TooLarge}
use Rattle.field_lists.specs.declared.to_fault.MessageLimit.{MessageLimit}
use Rattle.field_lists.specs.Controls.{Control, request, response, HasPseudo, IsOf}
use Rattle.field_lists.specs.ToCauses.{IsBadLength, IsFirstBad, IsOtherScheme, IsToCause, IsToFault, Passes, is_body_refused, limit_order}
use Rattle.field_lists.specs.ToMessages.{message_with}
use Rattle.field_lists.specs.tools.Allowed.{is_allowed}
use Rattle.field_lists.specs.tools.PartViews.{JudgesList, is_bad, is_other_scheme}
use Rattle.field_lists.proofs.BadFields.{all_good, bad_field, bad_trailer, found_bad, none_found}
use Rattle.field_lists.proofs.ControlAnswers.{allowed_test}
use Rattle.field_lists.proofs.ControlOrNone.{not_allowed}
use Rattle.field_lists.proofs.Judging.{before_body, before_fields, before_length, before_limits, before_scheme, fault_at, none_at_all}
use Rattle.field_lists.proofs.LineNames.{other_text}

-- ---- the parts

pub allowed_not : (list : FieldList) (fields : List Field) (control : Control) (others : List Field) → fields ≡ list.fields → HasPseudo fields control others → false ≡ is_allowed control → (other : Control) (rest : List Field)
    → ¬ IsOf list other rest
allowed_not list fields control others same has fails =
    not_allowed list control others (subst (λ (fs : List Field). HasPseudo fs control others) same has) (λ is. iff_false (allowed_test control) (sym fails) is)

pub are_parts : (list : FieldList) (fields : List Field) (control : Control) (others : List Field) → fields ≡ list.fields → HasPseudo fields control others → true ≡ is_allowed control → IsOf list control others
are_parts list fields control others same has passes = record {
  begins = subst (λ (fs : List Field). HasPseudo fs control others) same has;
  allowed = (allowed_test control).0 (sym passes);
}

pub none_of : (list : FieldList) (fields : List Field) → fields ≡ list.fields → ((control : Control) (others : List Field) → ¬ HasPseudo fields control others) → (control : Control) (others : List Field) → ¬ IsOf list control others
none_of list fields same none control others is = none control others (subst (λ (fs : List Field). HasPseudo fs control others) (sym same) is.begins)

-- ---- the first field that isn't turned

pub others_fewer : (list : FieldList) (control : Control) (others : List Field) → IsOf list control others → length others ≤ length list.fields
others_fewer list control others is = omega (arith, ap (λ (fs : List Field). length fs) is.begins.joined, length-append is.begins.pseudo others)

pub first_field : (list : FieldList) (fields : List Field) (control : Control) (others : List Field) (index : ℕ) → fields ≡ list.fields → IsOf list control others → position is_bad others ≡ Some index
    → IsFirstBad list others (length fields - length others + index)
first_field list fields control others index same is found =
    subst (λ (fs : List Field). IsFirstBad list others (length fs - length others + index)) (sym same)
    (bad_field list others index (length list.fields - length others) (found_bad others index found) (omega (arith, others_fewer list control others is)))

pub first_trailer : (list : FieldList) (fields others trailers : List Field) (index : ℕ) → fields ≡ list.fields → trailers ≡ list.trailers → position is_bad others ≡ None → position is_bad trailers ≡ Some index
    → IsFirstBad list others (length fields + index)
first_trailer list fields others trailers index same trail none found =
    subst (λ (fs : List Field). IsFirstBad list others (length fs + index)) (sym same)
    (bad_trailer list others index (none_found others none) (found_bad list.trailers index (ap (position is_bad) (sym trail) ∙ found)))

pub no_first : (list : FieldList) (others trailers : List Field) → trailers ≡ list.trailers → position is_bad others ≡ None → position is_bad trailers ≡ None → (index : ℕ) → ¬ IsFirstBad list others index
no_first list others trailers trail none nor = all_good list others (none_found others none) (none_found list.trailers (ap (position is_bad) (sym trail) ∙ nor))

-- ---- the scheme

pub other_scheme_is : (scheme : Scheme) (control : Control) → true ≡ is_other_scheme scheme control → IsOtherScheme scheme control
other_scheme_is scheme (request c) passes =
    let apart = not-true (bytes_eq c.scheme (scheme_text scheme)) (sym passes) in
    λ same. false≢true (sym apart ∙ (bytes_eq-Decides c.scheme (scheme_text scheme)).1 same)
other_scheme_is scheme (response code) passes = absurd (false≢true (sym passes))

pub same_scheme_is : (scheme : Scheme) (control : Control) → false ≡ is_other_scheme scheme control → ¬ IsOtherScheme scheme control
same_scheme_is scheme (request c) fails other =
    false≢true (fails ∙ ap not (other_text c.scheme (scheme_text scheme) (λ e. other (sym e))))
same_scheme_is scheme (response code) fails other = other

-- ---- the fault

module _ (list : FieldList) (scheme : Scheme) (control : Control) (others : List Field) (is : IsOf list control others) where
  pub other_scheme : IsOtherScheme scheme control → IsToFault list scheme SchemeOther
  other_scheme other = fault_at list scheme SchemeOther (control, others, is, other) (before_scheme list scheme control others is)

  pub bad_one : ¬ IsOtherScheme scheme control → (index : ℕ) → IsFirstBad list others index → IsToFault list scheme (BadField index)
  bad_one same index bad = fault_at list scheme (BadField index) (control, others, is, bad) (before_fields list scheme control others is same)

  pub bad_size : ¬ IsOtherScheme scheme control → ((index : ℕ) → ¬ IsFirstBad list others index) → IsBadLength control others list → IsToFault list scheme BadLength
  bad_size same good bad = fault_at list scheme BadLength (control, others, is, bad) (before_length list scheme control others is (before_fields list scheme control others is same) good)

  pub bad_body : ¬ IsOtherScheme scheme control → ((index : ℕ) → ¬ IsFirstBad list others index) → ¬ IsBadLength control others list → is_body_refused control others list ≡ true → IsToFault list scheme BodyRefused
  bad_body same good right refused =
      fault_at list scheme BodyRefused (control, others, is, refused) (before_body list scheme control others is (before_length list scheme control others is (before_fields list scheme control others is same) good) right)

  pub too_large : ¬ IsOtherScheme scheme control → ((index : ℕ) → ¬ IsFirstBad list others index) → ¬ IsBadLength control others list → is_body_refused control others list ≡ false → (limit : MessageLimit)
      → IsFirst limit_order (Passes (message_with control others list)) limit → IsToFault list scheme (TooLarge limit)
  too_large same good right taken limit first =
      fault_at list scheme (TooLarge limit) (control, others, is, first)
      (before_limits list scheme control others is (before_body list scheme control others is (before_length list scheme control others is (before_fields list scheme control others is same) good) right) taken)

  pub no_fault : ¬ IsOtherScheme scheme control → ((index : ℕ) → ¬ IsFirstBad list others index) → ¬ IsBadLength control others list → is_body_refused control others list ≡ false
      → ((limit : MessageLimit) → ¬ Passes (message_with control others list) limit) → (fault : ToFault) → ¬ IsToCause list scheme fault
  no_fault same good right taken within =
      none_at_all list scheme control others is (before_limits list scheme control others is (before_body list scheme control others is (before_length list scheme control others is (before_fields list scheme control others is same) good) right) taken) within

-- out of memory has no cause
pub memory_judged : (list : FieldList) (scheme : Scheme) (result : Result (Unit {0}) ToFault) (fault : ToFault) → result ≡ Err fault → fault ≡ Memory → JudgesList list scheme result
memory_judged list scheme result fault is none =
    subst (λ (r : Result (Unit {0}) ToFault). JudgesList list scheme r) (sym is) (λ other. absurd (other none))
