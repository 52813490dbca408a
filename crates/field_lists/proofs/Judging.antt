-- The causes for which a list isn't turned are judged in an order, and each list has a message or one fault.
use Rattle.std.proofs.Common.{◌≡◌, ◌⊎◌, ℕ, ◌<◌, ◌≤◌, true, false, List, length, refl, sym, ap, ◌∙◌, inl, inr, arith}
use Rattle.std.specs.Str.{bytes_eq}
use Rattle.std.proofs.lemmas.Bool.{cases_Bool, cases_lt, false≢true}
use Rattle.std.proofs.lemmas.Slice.Eq.{bytes_eq-Decides}
use Rattle.byte_grammar.specs.Causes.{IsFirst}
use Rattle.byte_grammar.specs.tools.Determined.{AreDetermined}
use Rattle.byte_grammar.proofs.CauseLaws.{first_is_one}
use Rattle.component_ids.specs.declared.scheme.Scheme.{Scheme}
use Rattle.derived_values.specs.Derived.{scheme_text}
use Rattle.msg_head.specs.declared.limits.TheConstants.{MAX_HEAD_BYTES, MAX_HEAD_LINES}
use Rattle.msg_head.specs.Heads.{head_text}
use Rattle.msg_head.specs.Trailers.{trailer_text}
use Rattle.msg_body.specs.Bodies.{trailers_in}
use Rattle.msg_body.specs.Messages.{Message}
use Rattle.list_texts.specs.declared.list.Field.{Field}
use Rattle.list_texts.specs.declared.list.FieldList.{FieldList}
use Rattle.field_lists.specs.declared.to_fault.ToFault.{ToFault}
use Rattle.field_lists.specs.declared.to_fault.ToFault.TheVariants.{Memory, Pseudo, SchemeOther, BadField, BadLength, BodyRefused, TooLarge}
use Rattle.field_lists.specs.declared.to_fault.MessageLimit.{MessageLimit}
use Rattle.field_lists.specs.declared.to_fault.MessageLimit.TheVariants.{HeadBytes, TrailerBytes, HeadLines, TrailerLines}
use Rattle.field_lists.specs.Controls.{Control, request, response, IsOf}
use Rattle.field_lists.specs.ToCauses.{IsBadLength, IsFirstBad, IsOtherScheme, IsToCause, IsToFault, Passes, TurnsInto, is_body_refused, limit_order, to_order}
use Rattle.field_lists.specs.ToMessages.{message_with}
use Rattle.field_lists.proofs.BadFields.{bad_or_all, none_bad, one_bad}
use Rattle.field_lists.proofs.Lengths.{bad_length_or_not}
use Rattle.field_lists.proofs.PseudoLaws.{fact_of}

-- ---- limits

limits_determined : (message : Message) → AreDetermined limit_order (Passes message)
limits_determined message HeadBytes HeadBytes e h k = refl
limits_determined message TrailerBytes TrailerBytes e h k = refl
limits_determined message HeadLines HeadLines e h k = refl
limits_determined message TrailerLines TrailerLines e h k = refl
limits_determined message limit other e h k = absurd (omega arith)

pub one_limit : (message : Message) (limit other : MessageLimit) → IsFirst limit_order (Passes message) limit → IsFirst limit_order (Passes message) other → limit ≡ other
one_limit message limit other one two = first_is_one limit_order (Passes message) (limits_determined message) limit other one two

-- ---- one fault

determined : (list : FieldList) (scheme : Scheme) → AreDetermined to_order (IsToCause list scheme)
determined list scheme Memory Memory e h k = refl
determined list scheme Pseudo Pseudo e h k = refl
determined list scheme SchemeOther SchemeOther e h k = refl
determined list scheme (BadField i) (BadField j) e h k =
    ap BadField (one_bad list h.1 i j h.3 (fact_of list h.0 h.1 h.2 (λ control others. IsFirstBad list others j) k))
determined list scheme BadLength BadLength e h k = refl
determined list scheme BodyRefused BodyRefused e h k = refl
determined list scheme (TooLarge limit) (TooLarge other) e h k =
    ap TooLarge (one_limit (message_with h.0 h.1 list) limit other h.3 (fact_of list h.0 h.1 h.2 (λ control others. IsFirst limit_order (Passes (message_with control others list)) other) k))
determined list scheme fault other e h k = absurd (omega arith)

pub one_fault : (list : FieldList) (scheme : Scheme) (fault other : ToFault) → IsToFault list scheme fault → IsToFault list scheme other → fault ≡ other
one_fault list scheme fault other one two = first_is_one to_order (IsToCause list scheme) (determined list scheme) fault other one two

-- ---- the steps of judging

-- no cause before this place holds
abbrev pub NoneBefore : FieldList → Scheme → ℕ → Type 0
NoneBefore list scheme place = (other : ToFault) → to_order other < place → ¬ IsToCause list scheme other

pub fault_at : (list : FieldList) (scheme : Scheme) (fault : ToFault) → IsToCause list scheme fault → NoneBefore list scheme (to_order fault) → IsToFault list scheme fault
fault_at list scheme fault holds none = record { holds = holds; none_before = none }

-- the list has no control data
pub no_control : (list : FieldList) (scheme : Scheme) → ((control : Control) (others : List Field) → ¬ IsOf list control others) → IsToFault list scheme Pseudo
no_control list scheme none = record { holds = none; none_before = before }
  where
    before : NoneBefore list scheme 1
    before Memory less h = h
    before Pseudo less h = absurd (omega arith)
    before SchemeOther less h = absurd (omega arith)
    before (BadField i) less h = absurd (omega arith)
    before BadLength less h = absurd (omega arith)
    before BodyRefused less h = absurd (omega arith)
    before (TooLarge limit) less h = absurd (omega arith)

module _ (list : FieldList) (scheme : Scheme) (control : Control) (others : List Field) (is : IsOf list control others) where
  pub before_scheme : NoneBefore list scheme 2
  before_scheme Memory less h = h
  before_scheme Pseudo less h = h control others is
  before_scheme SchemeOther less h = absurd (omega arith)
  before_scheme (BadField i) less h = absurd (omega arith)
  before_scheme BadLength less h = absurd (omega arith)
  before_scheme BodyRefused less h = absurd (omega arith)
  before_scheme (TooLarge limit) less h = absurd (omega arith)

  pub before_fields : ¬ IsOtherScheme scheme control → NoneBefore list scheme 3
  before_fields same Memory less h = h
  before_fields same Pseudo less h = h control others is
  before_fields same SchemeOther less h = same (fact_of list control others is (λ c xs. IsOtherScheme scheme c) h)
  before_fields same (BadField i) less h = absurd (omega arith)
  before_fields same BadLength less h = absurd (omega arith)
  before_fields same BodyRefused less h = absurd (omega arith)
  before_fields same (TooLarge limit) less h = absurd (omega arith)

  pub before_length : NoneBefore list scheme 3 → ((index : ℕ) → ¬ IsFirstBad list others index) → NoneBefore list scheme 4
  before_length none good Memory less h = h
  before_length none good Pseudo less h = h control others is
  before_length none good SchemeOther less h = none SchemeOther (omega arith) h
  before_length none good (BadField i) less h = good i (fact_of list control others is (λ c xs. IsFirstBad list xs i) h)
  before_length none good BadLength less h = absurd (omega arith)
  before_length none good BodyRefused less h = absurd (omega arith)
  before_length none good (TooLarge limit) less h = absurd (omega arith)

  pub before_body : NoneBefore list scheme 4 → ¬ IsBadLength control others list → NoneBefore list scheme 5
  before_body none right Memory less h = h
  before_body none right Pseudo less h = h control others is
  before_body none right SchemeOther less h = none SchemeOther (omega arith) h
  before_body none right (BadField i) less h = none (BadField i) (omega arith) h
  before_body none right BadLength less h = right (fact_of list control others is (λ c xs. IsBadLength c xs list) h)
  before_body none right BodyRefused less h = absurd (omega arith)
  before_body none right (TooLarge limit) less h = absurd (omega arith)

  pub before_limits : NoneBefore list scheme 5 → is_body_refused control others list ≡ false → NoneBefore list scheme 6
  before_limits none taken Memory less h = h
  before_limits none taken Pseudo less h = h control others is
  before_limits none taken SchemeOther less h = none SchemeOther (omega arith) h
  before_limits none taken (BadField i) less h = none (BadField i) (omega arith) h
  before_limits none taken BadLength less h = none BadLength (omega arith) h
  before_limits none taken BodyRefused less h = false≢true (sym taken ∙ fact_of list control others is (λ c xs. is_body_refused c xs list ≡ true) h)
  before_limits none taken (TooLarge limit) less h = absurd (omega arith)

  -- no cause holds
  pub none_at_all : NoneBefore list scheme 6 → ((limit : MessageLimit) → ¬ Passes (message_with control others list) limit) → (fault : ToFault) → ¬ IsToCause list scheme fault
  none_at_all none within Memory h = h
  none_at_all none within Pseudo h = h control others is
  none_at_all none within SchemeOther h = none SchemeOther (omega arith) h
  none_at_all none within (BadField i) h = none (BadField i) (omega arith) h
  none_at_all none within BadLength h = none BadLength (omega arith) h
  none_at_all none within BodyRefused h = none BodyRefused (omega arith) h
  none_at_all none within (TooLarge limit) h =
      within limit (fact_of list control others is (λ c xs. IsFirst limit_order (Passes (message_with c xs list)) limit) h).holds

-- ---- the limits, one after the other

pub not_more : (a b : ℕ) → a ≤ b → ¬ (b < a)
not_more a b most less = omega (arith, most, less)

module _ (message : Message) where
  no_earlier : (limit : MessageLimit) → limit_order limit < 0 → ¬ Passes message limit
  no_earlier limit less h = absurd (omega arith)

  after_first : ¬ Passes message HeadBytes → (limit : MessageLimit) → limit_order limit < 1 → ¬ Passes message limit
  after_first one HeadBytes less h = one h
  after_first one TrailerBytes less h = absurd (omega arith)
  after_first one HeadLines less h = absurd (omega arith)
  after_first one TrailerLines less h = absurd (omega arith)

  after_second : ¬ Passes message HeadBytes → ¬ Passes message TrailerBytes → (limit : MessageLimit) → limit_order limit < 2 → ¬ Passes message limit
  after_second one two HeadBytes less h = one h
  after_second one two TrailerBytes less h = two h
  after_second one two HeadLines less h = absurd (omega arith)
  after_second one two TrailerLines less h = absurd (omega arith)

  after_third : ¬ Passes message HeadBytes → ¬ Passes message TrailerBytes → ¬ Passes message HeadLines → (limit : MessageLimit) → limit_order limit < 3 → ¬ Passes message limit
  after_third one two three HeadBytes less h = one h
  after_third one two three TrailerBytes less h = two h
  after_third one two three HeadLines less h = three h
  after_third one two three TrailerLines less h = absurd (omega arith)

  pub first_limit : Passes message HeadBytes → IsFirst limit_order (Passes message) HeadBytes
  first_limit passes = record { holds = passes; none_before = no_earlier }

  pub second_limit : ¬ Passes message HeadBytes → Passes message TrailerBytes → IsFirst limit_order (Passes message) TrailerBytes
  second_limit one passes = record { holds = passes; none_before = after_first one }

  pub third_limit : ¬ Passes message HeadBytes → ¬ Passes message TrailerBytes → Passes message HeadLines → IsFirst limit_order (Passes message) HeadLines
  third_limit one two passes = record { holds = passes; none_before = after_second one two }

  pub fourth_limit : ¬ Passes message HeadBytes → ¬ Passes message TrailerBytes → ¬ Passes message HeadLines → Passes message TrailerLines → IsFirst limit_order (Passes message) TrailerLines
  fourth_limit one two three passes = record { holds = passes; none_before = after_third one two three }

  pub no_limit : ¬ Passes message HeadBytes → ¬ Passes message TrailerBytes → ¬ Passes message HeadLines → ¬ Passes message TrailerLines → (limit : MessageLimit) → ¬ Passes message limit
  no_limit one two three four HeadBytes h = one h
  no_limit one two three four TrailerBytes h = two h
  no_limit one two three four HeadLines h = three h
  no_limit one two three four TrailerLines h = four h

  pub limit_or_none : ((limit : MessageLimit) × IsFirst limit_order (Passes message) limit) ⊎ ((limit : MessageLimit) → ¬ Passes message limit)
  limit_or_none = elim (cases_lt MAX_HEAD_BYTES (length (head_text message.head))) [
    | inl more ↦ inl (HeadBytes, first_limit more)
    | inr one ↦ elim (cases_lt MAX_HEAD_BYTES (length (trailer_text (trailers_in message.body)))) [
      | inl more ↦ inl (TrailerBytes, second_limit (not_more (length (head_text message.head)) MAX_HEAD_BYTES one) more)
      | inr two ↦ elim (cases_lt MAX_HEAD_LINES (length message.head.lines)) [
        | inl more ↦ inl (HeadLines, third_limit (not_more (length (head_text message.head)) MAX_HEAD_BYTES one) (not_more (length (trailer_text (trailers_in message.body))) MAX_HEAD_BYTES two) more)
        | inr three ↦ elim (cases_lt MAX_HEAD_LINES (length (trailers_in message.body))) [
          | inl more ↦ inl (TrailerLines, fourth_limit (not_more (length (head_text message.head)) MAX_HEAD_BYTES one) (not_more (length (trailer_text (trailers_in message.body))) MAX_HEAD_BYTES two) (not_more (length message.head.lines) MAX_HEAD_LINES three) more)
          | inr four ↦ inr (no_limit (not_more (length (head_text message.head)) MAX_HEAD_BYTES one) (not_more (length (trailer_text (trailers_in message.body))) MAX_HEAD_BYTES two) (not_more (length message.head.lines) MAX_HEAD_LINES three) (not_more (length (trailers_in message.body)) MAX_HEAD_LINES four))
        ]
      ]
    ]
  ]

-- ---- each list has a message or a fault

scheme_or_other : (scheme : Scheme) (control : Control) → IsOtherScheme scheme control ⊎ ¬ IsOtherScheme scheme control
scheme_or_other scheme (request c) = elim (cases_Bool (bytes_eq c.scheme (scheme_text scheme))) [
  | inl same ↦ inr (λ other. other ((bytes_eq-Decides c.scheme (scheme_text scheme)).0 same))
  | inr apart ↦ inl (λ same. false≢true (sym apart ∙ (bytes_eq-Decides c.scheme (scheme_text scheme)).1 same))
]
scheme_or_other scheme (response code) = inr (λ other. other)

-- the list has a message, or a fault
abbrev pub HasAnswer : FieldList → Scheme → Type 0
HasAnswer list scheme = ((message : Message) × TurnsInto list scheme message) ⊎ ((fault : ToFault) × IsToFault list scheme fault)

pub judged : (list : FieldList) (scheme : Scheme) (control : Control) (others : List Field) → IsOf list control others → HasAnswer list scheme
judged list scheme control others is = elim (scheme_or_other scheme control) [
  | inl other ↦ inr (SchemeOther, fault_at list scheme SchemeOther (control, others, is, other) (before_scheme list scheme control others is))
  | inr same ↦
      let none3 = before_fields list scheme control others is same in elim (bad_or_all list is.begins.pseudo others is.begins.joined) [
        | inr bad ↦ inr (BadField bad.0, fault_at list scheme (BadField bad.0) (control, others, is, bad.1) none3)
        | inl good ↦
            let none4 = before_length list scheme control others is none3 (none_bad list others good) in elim (bad_length_or_not control list others) [
              | inl wrong ↦ inr (BadLength, fault_at list scheme BadLength (control, others, is, wrong) none4)
              | inr right ↦
                  let none5 = before_body list scheme control others is none4 right in elim (cases_Bool (is_body_refused control others list)) [
                    | inl refused ↦ inr (BodyRefused, fault_at list scheme BodyRefused (control, others, is, refused) none5)
                    | inr taken ↦
                        let none6 = before_limits list scheme control others is none5 taken in elim (limit_or_none (message_with control others list)) [
                          | inl passed ↦ inr (TooLarge passed.0, fault_at list scheme (TooLarge passed.0) (control, others, is, passed.1) none6)
                          | inr within ↦ inl (
                            message_with control others list,
                            record { control = control; others = others; is_of = is; none = none_at_all list scheme control others is none6 within; is = refl },
                          )
                        ]
                  ]
            ]
      ]
]
