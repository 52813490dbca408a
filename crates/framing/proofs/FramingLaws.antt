-- A head is framable, or has one error.
use Rattle.std.proofs.Common.{◌≡◌, ◌<◌, Bool, refl, sym, ◌∙◌, ap, subst, Ok, Err, inl, inr, arith}
use Rattle.std.specs.Prelude.{◌↔◌, Result, IsOk, IsTrue, IsFalse}
use Rattle.std.proofs.lemmas.Bool.{cases_Bool, false≢true}
use Rattle.byte_grammar.proofs.CauseLaws.{first_is_one}
use Rattle.byte_grammar.specs.tools.Determined.{AreDetermined}
use Rattle.msg_head.specs.Heads.{Head}
use Rattle.framing.specs.declared.error.FramingError.{FramingError}
use Rattle.framing.specs.declared.error.FramingError.TheVariants.{Conflict, BadLength, CodingRefused}
use Rattle.framing.specs.declared.read.Framed.{Framed}
use Rattle.framing.specs.Framings.{IsFramable, is_conflict, are_accepted_lengths, are_accepted_codings, lengths_of, codings_of, version_of}
use Rattle.framing.specs.Causes.{IsFramingCause, IsFramingError, framing_order}
use Rattle.framing.specs.Laws.{HasFramingAnswer, NoErrorWhereFramable, OneFramingError}
use Rattle.framing.specs.tools.Judged.{IsFramingAnswer}

-- ---- one cause each

determined : (head : Head) → AreDetermined framing_order (IsFramingCause head)
determined head Conflict Conflict e h k = refl
determined head BadLength BadLength e h k = refl
determined head CodingRefused CodingRefused e h k = refl
determined head fault other e h k = absurd (omega arith)

pub one_framing_error : OneFramingError
one_framing_error head error other one two = first_is_one framing_order (IsFramingCause head) (determined head) error other one two

no_cause : (head : Head) → IsFramable head → (error : FramingError) → ¬ IsFramingCause head error
no_cause head is Conflict h = false≢true (sym is.no_conflict ∙ h)
no_cause head is BadLength h = false≢true (sym h ∙ is.lengths)
no_cause head is CodingRefused h = false≢true (sym h ∙ is.codings)

pub no_error_where_framable : NoErrorWhereFramable
no_error_where_framable head error is first = no_cause head is error first.holds

-- ---- each has an answer

before_length : (head : Head) → IsFalse (is_conflict head) → (other : FramingError) → framing_order other < 1 → ¬ IsFramingCause head other
before_length head none Conflict low h = false≢true (sym none ∙ h)
before_length head none BadLength low h = omega (arith, low)
before_length head none CodingRefused low h = omega (arith, low)

before_coding : (head : Head) → IsFalse (is_conflict head) → IsTrue (are_accepted_lengths (lengths_of head)) → (other : FramingError) → framing_order other < 2 → ¬ IsFramingCause head other
before_coding head none lengths Conflict low h = false≢true (sym none ∙ h)
before_coding head none lengths BadLength low h = false≢true (sym h ∙ lengths)
before_coding head none lengths CodingRefused low h = omega (arith, low)

pub has_framing_answer : HasFramingAnswer
has_framing_answer head = elim (cases_Bool (is_conflict head)) [
  | inl both ↦ inr (Conflict, record { holds = both; none_before = λ other low h. omega (arith, low) })
  | inr none ↦ elim (cases_Bool (are_accepted_lengths (lengths_of head))) [
    | inr bad ↦ inr (BadLength, record { holds = bad; none_before = before_length head none })
    | inl lengths ↦ elim (cases_Bool (are_accepted_codings (version_of head.start) (codings_of head))) [
      | inr bad ↦ inr (CodingRefused, record { holds = bad; none_before = before_coding head none lengths })
      | inl codings ↦ inl (record { no_conflict = none; lengths = lengths; codings = codings })
    ]
  ]
]

-- ---- the answer

pub is_error_where : (to_head : Bool) (head : Head) (result : Result Framed FramingError) → IsFramingAnswer to_head head result
    → (error : FramingError) → (result ≡ Err error) ↔ IsFramingError head error
is_error_where to_head head (Ok framed) is error = ((λ e. absurd cc), (λ first. absurd (no_error_where_framable head error is.0 first)))
is_error_where to_head head (Err found) is error = (
  (λ e. let same : found ≡ error = cc in subst (IsFramingError head) same is),
  (λ first. ap Err (one_framing_error head found error is first)),
)

pub is_ok_where : (to_head : Bool) (head : Head) (result : Result Framed FramingError) → IsFramingAnswer to_head head result → IsFramable head → IsOk result
is_ok_where to_head head (Ok framed) is framable = refl
is_ok_where to_head head (Err found) is framable = absurd (no_error_where_framable head found framable is)
