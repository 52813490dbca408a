-- Rules 13 to 32, and verdicts.
use Rattle.std.proofs.Common.{◌≡◌, ◌⊎◌, ◌<◌, lit<, ℕ, Bool, true, false, ◌||◌, IsTrue, IsFalse, Option, Some, None, IfSome, List, ◌∷◌, Result, Ok, Err, refl, sym, ap, ◌∙◌, arith, inl, inr}
use Rattle.std.specs.List.{All, slice_get}
use Rattle.std.specs.Option.{IsSomeAnd}
use Rattle.std.specs.Str.{bytes_eq}
use Rattle.std.proofs.lemmas.Bool.{cases_Bool, false≢true}
use Rattle.std.proofs.lemmas.Slice.Eq.{bytes_eq-Decides}
use Rattle.byte_grammar.specs.Causes.{AnswersWhere}
use Rattle.byte_grammar.proofs.Indices.{some_and, some_and_parts}
use Rattle.sfv_text.specs.Strict.{string_text}
use Rattle.component_ids.specs.Table.{is_listed}
use Rattle.component_ids.specs.declared.id.ComponentId.{ComponentId}
use Rattle.component_ids.specs.declared.params.SigParams.{SigParams}
use Rattle.derived_values.specs.declared.lack.Lack.{Lack}
use Rattle.derived_values.specs.declared.lack.Lack.TheVariants as lack
use Rattle.component_values.specs.Context.{MessageContext}
use Rattle.component_values.specs.Values.{Lacks, HaveValues, IsFirstLack}
use Rattle.component_values.specs.declared.fault.ValueFault.{ValueFault}
use Rattle.component_values.specs.declared.fault.ValueFault.TheVariants as value
use Rattle.component_values.proofs.FirstLacks.{have_or_lack, have_one_list, first_lack_is_one, none_lacks}
use Rattle.signatures.specs.SignatureBase.{signature_base}
use Rattle.hmac_sha256.specs.Hmac.{hmac}
use Rattle.settings.specs.ValidSections.{IsValidPolicy}
use Rattle.settings.specs.declared.policy.Policy.{Policy}
use Rattle.verdicts.specs.Parameters.{alg_of, keyid_of}
use Rattle.verdicts.specs.Policies.{required_of, IsFirstUncovered, LacksRoom, HasRoom}
use Rattle.verdicts.specs.Choice.{policy_of}
use Rattle.verdicts.specs.Verification.{Verification}
use Rattle.verdicts.specs.ContentDigest.{HasDigest, LacksDigest}
use Rattle.signatures.specs.declared.place.DigestReason.{DigestReason}
use Rattle.signatures.specs.declared.label.LabelFault.{LabelFault}
use Rattle.signatures.specs.declared.label.LabelFault.TheVariants.{Memory, Rule as IsRule}
use Rattle.signatures.specs.declared.label.LabelRead.{LabelRead}
use Rattle.verdicts.specs.declared.outcome.Verdict.{Verdict}
use Rattle.verdicts.specs.declared.outcome.Verdict.TheVariants.{Ok as Accepted, Rule as Refused}
use Rattle.signatures.specs.declared.place.Place.{Place}
use Rattle.signatures.specs.declared.place.Place.TheVariants.{None as Nowhere, Name, Identifier, Digest as DigestPlace}
use Rattle.signatures.specs.declared.rule.Rule.{Rule}
use Rattle.signatures.specs.declared.rule.Rule.TheVariants.{InputAbsent, InputMalformed, SignatureAbsent, SignatureMalformed, LabelNotInInput, LabelNotInSignature, InputNotList, SignatureNotBytes, ComponentsMany, ComponentBad, ComponentRepeated, ParameterBad, AlgRefused, AlgUnknown, KeyidAbsent, KeyUnknown, ComponentRequired, CreatedAbsent, CreatedAhead, TooOld, ExpiresAbsent, Expired, TagWrong, NonceAbsent, NonceRepeated, NonceLong, Absent, Ambiguous, Underivable, Unreadable, NotAscii, MacMismatch, Digest, NoncesFull}
use Rattle.signatures.specs.Words.{rule_number}
use Rattle.signatures.specs.Signatures.{HasSignature}
use Rattle.signatures.specs.Rules.{FailsToRead, IsLabelUnread, IsFirstFailure}
use Rattle.signatures.specs.Algorithms.{supported_algorithm, refused_algorithms}
use Rattle.verdicts.specs.Rules.{key_in, asks_digest_of, OfSignature, FailsByLack, IsNoMac, Fails}
use Rattle.verdicts.specs.Verdicts.{Accepts, IsVerdict}
use Rattle.verdicts.specs.Laws.{HasVerdict, HasOneVerdict, IsAcceptedWhereNoRuleFails}
use Rattle.signatures.specs.tools.Answered.{Explains, SaysRule}
use Rattle.verdicts.specs.tools.Judged.{AcceptsBy, FailsByAlgorithm, FailsByKeyid, FailsByKey, FailsByMac, FailsByTag, IsTagOf, ExplainsMac, SaysFault, rule_of_lack, NoneBelow, FailsByDigest, FailsByRoom, IsJudged}
use Rattle.verdicts.proofs.RuleOrder.{most, nor, first_failure, one_first_failure, says_failure}
use Rattle.verdicts.proofs.OfSignature.{on_signature, on_policy, of_policy}
use Rattle.verdicts.proofs.PolicyFailures.{none_below_27, has_policy_answer, not_full_with_room, room_or_not}
use Rattle.verdicts.proofs.Uncovered.{one_uncovered}
use Rattle.verdicts.proofs.Places.{place_in_range, reading_place}
use Rattle.verdicts.proofs.Digesting.{one_reason, has_not_both, has_digest_or_reason}
use Rattle.signatures.proofs.Reading.{has_one_signature, is_unread_by_one_rule, has_no_failure_where_read, has_signature_or_not, is_unread_by_rules_to_12}

-- ---- names of algorithms

or_false : (a b : Bool) → (a || b) ≡ false → b ≡ false
or_false true b none = absurd cc
or_false false b none = none

-- what is neither supported nor refused isn't refused
not_refused : (alg : List ℕ) → is_listed (supported_algorithm ∷ refused_algorithms) alg ≡ false → is_listed refused_algorithms alg ≡ false
not_refused alg none = or_false (bytes_eq alg supported_algorithm) (is_listed refused_algorithms alg) none

-- the supported algorithm isn't refused, and is known
supported_not_refused : is_listed refused_algorithms supported_algorithm ≡ false
supported_not_refused = refl

supported_is_known : is_listed (supported_algorithm ∷ refused_algorithms) supported_algorithm ≡ true
supported_is_known = refl

-- what is known and not refused is supported
is_supported : (alg : List ℕ) → is_listed refused_algorithms alg ≡ false → is_listed (supported_algorithm ∷ refused_algorithms) alg ≡ true → alg ≡ supported_algorithm
is_supported alg not_one known = elim (cases_Bool (bytes_eq alg supported_algorithm)) [
  | inl same ↦ (bytes_eq-Decides alg supported_algorithm).0 same
  | inr other ↦ absurd (false≢true (sym (rw (other, not_one) refl) ∙ known))
]

if_some_at : {X : Type 0} (P : X → Type 0) (o : Option X) (x : X) → o ≡ Some x → IfSome o P → P x
if_some_at P o x is holds = rw is at holds

-- ---- rules 1 to 12 among all rules

module _ (v : Verification) where
  as_reading : (rule : Rule) (place : Place) → rule_number rule < 13 → Fails v rule place → FailsToRead v.context.message v.label rule place
  as_reading InputAbsent place lt fails = fails
  as_reading InputMalformed place lt fails = fails
  as_reading SignatureAbsent place lt fails = fails
  as_reading SignatureMalformed place lt fails = fails
  as_reading LabelNotInInput place lt fails = fails
  as_reading LabelNotInSignature place lt fails = fails
  as_reading InputNotList place lt fails = fails
  as_reading SignatureNotBytes place lt fails = fails
  as_reading ComponentsMany place lt fails = fails
  as_reading ComponentBad place lt fails = fails
  as_reading ComponentRepeated place lt fails = fails
  as_reading ParameterBad place lt fails = fails
  as_reading AlgRefused place lt fails = absurd (omega (arith, lt))
  as_reading AlgUnknown place lt fails = absurd (omega (arith, lt))
  as_reading KeyidAbsent place lt fails = absurd (omega (arith, lt))
  as_reading KeyUnknown place lt fails = absurd (omega (arith, lt))
  as_reading ComponentRequired place lt fails = absurd (omega (arith, lt))
  as_reading CreatedAbsent place lt fails = absurd (omega (arith, lt))
  as_reading CreatedAhead place lt fails = absurd (omega (arith, lt))
  as_reading TooOld place lt fails = absurd (omega (arith, lt))
  as_reading ExpiresAbsent place lt fails = absurd (omega (arith, lt))
  as_reading Expired place lt fails = absurd (omega (arith, lt))
  as_reading TagWrong place lt fails = absurd (omega (arith, lt))
  as_reading NonceAbsent place lt fails = absurd (omega (arith, lt))
  as_reading NonceRepeated place lt fails = absurd (omega (arith, lt))
  as_reading NonceLong place lt fails = absurd (omega (arith, lt))
  as_reading Absent place lt fails = absurd (omega (arith, lt))
  as_reading Ambiguous place lt fails = absurd (omega (arith, lt))
  as_reading Underivable place lt fails = absurd (omega (arith, lt))
  as_reading Unreadable place lt fails = absurd (omega (arith, lt))
  as_reading NotAscii place lt fails = absurd (omega (arith, lt))
  as_reading MacMismatch place lt fails = absurd (omega (arith, lt))
  as_reading Digest place lt fails = absurd (omega (arith, lt))
  as_reading NoncesFull place lt fails = absurd (omega (arith, lt))

  of_reading : (rule : Rule) (place : Place) → FailsToRead v.context.message v.label rule place → Fails v rule place
  of_reading InputAbsent place fails = fails
  of_reading InputMalformed place fails = fails
  of_reading SignatureAbsent place fails = fails
  of_reading SignatureMalformed place fails = fails
  of_reading LabelNotInInput place fails = fails
  of_reading LabelNotInSignature place fails = fails
  of_reading InputNotList place fails = fails
  of_reading SignatureNotBytes place fails = fails
  of_reading ComponentsMany place fails = fails
  of_reading ComponentBad place fails = fails
  of_reading ComponentRepeated place fails = fails
  of_reading ParameterBad place fails = fails
  of_reading rule place fails = absurd fails

  pub unread_is_first : (rule : Rule) (place : Place) → IsLabelUnread v.context.message v.label rule place → IsFirstFailure (Fails v) rule place
  unread_is_first rule place first = record {
    holds = of_reading rule place first.holds;
    none_before = λ other lt fails.
        let low = is_unread_by_rules_to_12 v.context.message v.label rule place first.holds in
        first.none_before other lt (as_reading other.rule other.place (omega (arith, lt, low)) fails);
  }

  first_is_unread : (rule : Rule) (place : Place) → rule_number rule < 13 → IsFirstFailure (Fails v) rule place → IsLabelUnread v.context.message v.label rule place
  first_is_unread rule place low first = record {
    holds = as_reading rule place low first.holds;
    none_before = λ other lt fails. first.none_before other lt (of_reading other.rule other.place fails);
  }

  -- what a fault of the reader says of all rules
  pub read_says : (fault : LabelFault)
      → ((rule : Rule) (place : Place) → AnswersWhere {T = LabelRead} Memory (Err fault) (IsRule rule place) (IsLabelUnread v.context.message v.label rule place))
      → SaysRule (IsJudged v) fault
  read_says Memory answers = tt
  read_says (IsRule rule place) answers =
      let unread = (answers rule place).only refl in
      (unread_is_first rule place unread, reading_place v.context.message v.label rule place unread.holds)

-- ---- the rules of a signature

module _ (v : Verification) (params : SigParams) (tag : List ℕ) (has : HasSignature v.context.message v.label params tag) where
  none_below_13 : NoneBelow (Fails v) 13
  none_below_13 rule place lt fails = has_no_failure_where_read v.context.message v.label params tag rule place has (as_reading v rule place lt fails)

  -- ---- its algorithm

  alg_at : (P : List ℕ → Type 0) → IsSomeAnd (alg_of params) P → (alg : List ℕ) × (alg_of params ≡ Some alg) × P alg
  alg_at P fact = some_and_parts P (alg_of params) fact

  abbrev FactRefused : Place → SigParams → List ℕ → Type 0
  FactRefused place p t = IsSomeAnd (alg_of p) (λ alg. IsTrue (is_listed refused_algorithms alg) × (place ≡ Name alg))

  abbrev FactUnknown : Place → SigParams → List ℕ → Type 0
  FactUnknown place p t = IsSomeAnd (alg_of p) (λ alg. IsFalse (is_listed (supported_algorithm ∷ refused_algorithms) alg) × (place ≡ Name (string_text alg)))

  passes_refused : IfSome (alg_of params) (λ alg. is_listed refused_algorithms alg ≡ false) → (place : Place) → ¬ Fails v AlgRefused place
  passes_refused none place fails =
      let at = alg_at (λ alg. IsTrue (is_listed refused_algorithms alg) × (place ≡ Name alg)) (on_signature v params tag has (FactRefused place) fails) in
      false≢true (sym (if_some_at (λ alg. is_listed refused_algorithms alg ≡ false) (alg_of params) at.0 at.1 none) ∙ at.2.0)

  passes_unknown : IfSome (alg_of params) (λ alg. alg ≡ supported_algorithm) → (place : Place) → ¬ Fails v AlgUnknown place
  passes_unknown supported place fails =
      let at = alg_at (λ alg. IsFalse (is_listed (supported_algorithm ∷ refused_algorithms) alg) × (place ≡ Name (string_text alg))) (on_signature v params tag has (FactUnknown place) fails) in
      let same : at.0 ≡ supported_algorithm = if_some_at (λ alg. alg ≡ supported_algorithm) (alg_of params) at.0 at.1 supported in
      false≢true (sym at.2.0 ∙ (ap (is_listed (supported_algorithm ∷ refused_algorithms)) same ∙ supported_is_known))

  if_supported : (alg : Option (List ℕ)) → IfSome alg (λ name. name ≡ supported_algorithm) → IfSome alg (λ name. is_listed refused_algorithms name ≡ false)
  if_supported (Some alg) same = ap (is_listed refused_algorithms) same ∙ supported_not_refused
  if_supported None same = tt

  none_below_14 : IfSome (alg_of params) (λ alg. is_listed refused_algorithms alg ≡ false) → NoneBelow (Fails v) 14
  none_below_14 none = nor (Fails v) AlgRefused none_below_13 (passes_refused none)

  none_below_15 : IfSome (alg_of params) (λ alg. alg ≡ supported_algorithm) → NoneBelow (Fails v) 15
  none_below_15 supported = nor (Fails v) AlgUnknown (none_below_14 (if_supported (alg_of params) supported)) (passes_unknown supported)

  if_not_refused : (o : Option (List ℕ)) (alg : List ℕ) → o ≡ Some alg → is_listed refused_algorithms alg ≡ false → IfSome o (λ name. is_listed refused_algorithms name ≡ false)
  if_not_refused o alg is none = rw is none

  pub algorithm_fails : (rule : Rule) (place : Place) → FailsByAlgorithm params rule place → IsFirstFailure (Fails v) rule place
  algorithm_fails AlgRefused place fails = first_failure (Fails v) AlgRefused place none_below_13 (params, tag, has, fails)
  algorithm_fails AlgUnknown place fails =
      let at = alg_at (λ alg. IsFalse (is_listed (supported_algorithm ∷ refused_algorithms) alg) × (place ≡ Name (string_text alg))) fails in
      first_failure (Fails v) AlgUnknown place (none_below_14 (if_not_refused (alg_of params) at.0 at.1 (not_refused at.0 at.2.0))) (params, tag, has, fails)
  algorithm_fails rule place fails = absurd fails

  module _ (supported : IfSome (alg_of params) (λ alg. alg ≡ supported_algorithm)) where
    pub keyid_fails : (rule : Rule) (place : Place) → FailsByKeyid params rule place → IsFirstFailure (Fails v) rule place
    keyid_fails rule place fails = rw (fails.0, fails.1) (first_failure (Fails v) KeyidAbsent Nowhere (none_below_15 supported) (refl, (params, tag, has, fails.2)))

    module _ (keyid : List ℕ) (keyid_is : keyid_of params ≡ Some keyid) where
      passes_keyid : (place : Place) → ¬ Fails v KeyidAbsent place
      passes_keyid place fails = let none = on_signature v params tag has (λ p t. keyid_of p ≡ None) fails.1 in absurd (cc (keyid_is, none))

      none_below_16 : NoneBelow (Fails v) 16
      none_below_16 = nor (Fails v) KeyidAbsent (none_below_15 supported) passes_keyid

      pub key_fails : (rule : Rule) (place : Place) → FailsByKey (key_in v.conf keyid) rule place → IsFirstFailure (Fails v) rule place
      key_fails rule place fails =
          rw (fails.0, fails.1)
          (first_failure (Fails v) KeyUnknown Nowhere none_below_16
          (refl, (params, tag, has, some_and (λ (id : List ℕ). key_in v.conf id ≡ None) (keyid_of params) keyid keyid_is fails.2)))

      module _ (key : List ℕ) (key_is : key_in v.conf keyid ≡ Some key) where
        passes_key : (place : Place) → ¬ Fails v KeyUnknown place
        passes_key place fails =
            let at = some_and_parts (λ (id : List ℕ). key_in v.conf id ≡ None) (keyid_of params) (on_signature v params tag has (λ p t. IsSomeAnd (keyid_of p) (λ id. key_in v.conf id ≡ None)) fails.1) in
            let same : at.0 ≡ keyid = let e : Some at.0 ≡ Some keyid = sym at.1 ∙ keyid_is in cc in
            let none : key_in v.conf keyid ≡ None = ap (key_in v.conf) (sym same) ∙ at.2 in
            absurd (cc (key_is, none))

        pub none_below_17 : NoneBelow (Fails v) 17
        none_below_17 = nor (Fails v) KeyUnknown none_below_16 passes_key

        module _ (policy : Policy) (by : AcceptsBy v params policy) where
          below_27 : NoneBelow (Fails v) 27
          below_27 = none_below_27 v params tag has policy by.chosen none_below_17 by.accepted

          abbrev LacksOne : Lack → Place → SigParams → List ℕ → Type 0
          LacksOne how place p t = (index : ℕ) × IsFirstLack v.context p.ids index how × IsSomeAnd (slice_get p.ids index) (λ id. place ≡ Identifier id)

          passes_lack : (how : Lack) → ((index : ℕ) → ¬ IsFirstLack v.context params.ids index how) → (place : Place) → ¬ FailsByLack v how place
          passes_lack how none place fails = let at = on_signature v params tag has (LacksOne how place) fails in none at.0 at.1

          module _ (index : ℕ) (how : Lack) (first : IsFirstLack v.context params.ids index how) where
            not_other : (other : Lack) → ¬ (how ≡ other) → (place : Place) → ¬ FailsByLack v other place
            not_other other apart = passes_lack other (λ at lacks. apart (first_lack_is_one v.context params.ids index at how other first lacks).1)

          lack_fails : (index : ℕ) (how : Lack) → IsFirstLack v.context params.ids index how → (place : Place) → IsSomeAnd (slice_get params.ids index) (λ id. place ≡ Identifier id)
              → IsFirstFailure (Fails v) (rule_of_lack how) place
          lack_fails index lack.Absent first place there = first_failure (Fails v) Absent place below_27 (params, tag, has, (index, first, there))
          lack_fails index lack.Ambiguous first place there =
              let other = not_other index lack.Ambiguous first in
              first_failure (Fails v) Ambiguous place (nor (Fails v) Absent below_27 (other lack.Absent (λ e. absurd cc))) (params, tag, has, (index, first, there))
          lack_fails index lack.Underivable first place there =
              let other = not_other index lack.Underivable first in
              first_failure (Fails v) Underivable place
              (nor (Fails v) Ambiguous (nor (Fails v) Absent below_27 (other lack.Absent (λ e. absurd cc))) (other lack.Ambiguous (λ e. absurd cc)))
              (params, tag, has, (index, first, there))
          lack_fails index lack.Unreadable first place there =
              let other = not_other index lack.Unreadable first in
              first_failure (Fails v) Unreadable place
              (nor (Fails v) Underivable
              (nor (Fails v) Ambiguous (nor (Fails v) Absent below_27 (other lack.Absent (λ e. absurd cc))) (other lack.Ambiguous (λ e. absurd cc)))
              (other lack.Underivable (λ e. absurd cc)))
              (params, tag, has, (index, first, there))
          lack_fails index lack.NotAscii first place there =
              let other = not_other index lack.NotAscii first in
              first_failure (Fails v) NotAscii place
              (nor (Fails v) Unreadable
              (nor (Fails v) Underivable
              (nor (Fails v) Ambiguous (nor (Fails v) Absent below_27 (other lack.Absent (λ e. absurd cc))) (other lack.Ambiguous (λ e. absurd cc)))
              (other lack.Underivable (λ e. absurd cc)))
              (other lack.Unreadable (λ e. absurd cc)))
              (params, tag, has, (index, first, there))

          module _ (values : List (List ℕ)) (have : HaveValues v.context params.ids values) where
            none_lack : (how : Lack) (place : Place) → ¬ FailsByLack v how place
            none_lack how = passes_lack how (λ index lacks. none_lacks v.context params.ids values index how have lacks)

            none_below_32 : NoneBelow (Fails v) 32
            none_below_32 =
                nor (Fails v) NotAscii
                (nor (Fails v) Unreadable
                (nor (Fails v) Underivable (nor (Fails v) Ambiguous (nor (Fails v) Absent below_27 (none_lack lack.Absent)) (none_lack lack.Ambiguous)) (none_lack lack.Underivable))
                (none_lack lack.Unreadable))
                (none_lack lack.NotAscii)

            mac_fails : ¬ (tag ≡ hmac key (signature_base params values)) → IsFirstFailure (Fails v) MacMismatch Nowhere
            mac_fails other =
                first_failure (Fails v) MacMismatch Nowhere none_below_32
                (refl, (params, tag, has, record { keyid = keyid; keyid_is = keyid_is; key = key; key_is = key_is; values = values; have = have; other = other }))

            passes_mac : tag ≡ hmac key (signature_base params values) → (place : Place) → ¬ Fails v MacMismatch place
            passes_mac mac place fails =
                let no = on_signature v params tag has (IsNoMac v) fails.1 in
                let ids : no.keyid ≡ keyid = let e : Some no.keyid ≡ Some keyid = sym no.keyid_is ∙ keyid_is in cc in
                let keys : no.key ≡ key = let e : Some no.key ≡ Some key = sym no.key_is ∙ (ap (key_in v.conf) ids ∙ key_is) in cc in
                let all : no.values ≡ values = have_one_list v.context params.ids no.values values no.have have in
                let same : hmac no.key (signature_base params no.values) ≡ hmac key (signature_base params values) = λ i. hmac (keys i) (signature_base params (all i)) in
                no.other (mac ∙ sym same)

            none_below_33 : tag ≡ hmac key (signature_base params values) → NoneBelow (Fails v) 33
            none_below_33 mac = nor (Fails v) MacMismatch none_below_32 (passes_mac mac)

            module _ (mac : tag ≡ hmac key (signature_base params values)) where
              abbrev LacksAsked : DigestReason → Policy → SigParams → Type 0
              LacksAsked reason asked p = IsTrue (asks_digest_of v asked) × LacksDigest v.context.message p.ids reason

              pub digest_fails : (rule : Rule) (place : Place) → FailsByDigest (asks_digest_of v policy) v.context.message params.ids rule place → IsFirstFailure (Fails v) rule place
              digest_fails rule place fails =
                  rw (fails.0, fails.3) (first_failure (Fails v) Digest (DigestPlace fails.2) (none_below_33 mac) (fails.2, refl, of_policy v params tag has policy by.chosen (LacksAsked fails.2) (fails.1, fails.4)))

              module _ (digest : IsTrue (asks_digest_of v policy) → HasDigest v.context.message params.ids) where
                passes_digest : (place : Place) → ¬ Fails v Digest place
                passes_digest place fails =
                    let at = on_policy v params tag has policy by.chosen (LacksAsked fails.0) fails.2 in
                    has_not_both v.context.message params.ids (digest at.0) fails.0 at.1

                none_below_34 : NoneBelow (Fails v) 34
                none_below_34 = nor (Fails v) Digest (none_below_33 mac) passes_digest

                pub room_fails : (rule : Rule) (place : Place) → FailsByRoom v.now v.seen policy params rule place → IsFirstFailure (Fails v) rule place
                room_fails rule place fails = rw (fails.0, fails.1) (first_failure (Fails v) NoncesFull Nowhere none_below_34 (refl, of_policy v params tag has policy by.chosen (LacksRoom v.now v.seen) fails.2))

                none_below_35 : HasRoom v.now v.seen policy params → NoneBelow (Fails v) 35
                none_below_35 room =
                    nor (Fails v) NoncesFull none_below_34
                    (λ place fails. not_full_with_room v.now v.seen policy params room (on_policy v params tag has policy by.chosen (LacksRoom v.now v.seen) fails.1))

          pub mac_or_lack_fails : (rule : Rule) (place : Place) → FailsByMac v.context params tag key rule place → IsFirstFailure (Fails v) rule place
          mac_or_lack_fails rule place (inl lacks) = rw lacks.3.0 (lack_fails lacks.0 lacks.1 lacks.2 place lacks.3.1)
          mac_or_lack_fails rule place (inr other) = rw (other.0, other.1) (mac_fails other.2 other.3 other.4)

-- ---- what the parts of a verdict answer

-- what is known of a fault, by the contract of what prepares
abbrev pub IsAnswered : MessageContext → SigParams → ValueFault → Type 0
IsAnswered context params fault =
    (index : ℕ) (how : Lack) → AnswersWhere {T = Unit} value.Memory (Err fault) (value.Lacks index how) (IsFirstLack context params.ids index how)

pub lack_says : (context : MessageContext) (params : SigParams) (tag key : List ℕ) (fault : ValueFault) (result : LabelFault) → IsAnswered context params fault
    → SaysFault params.ids fault result → SaysRule (FailsByMac context params tag key) result
lack_says context params tag key fault Memory answered says = tt
lack_says context params tag key value.Memory (IsRule rule place) answered says = absurd says
lack_says context params tag key (value.Lacks index how) (IsRule rule place) answered says = inl (index, how, (answered index how).only refl, says)

-- the first rule that fails has a place that can stand in a structured field
pub says_judged : (v : Verification) → All IsValidPolicy v.conf.policies → (fault : LabelFault)
    → SaysRule (IsFirstFailure (Fails v)) fault → SaysRule (IsJudged v) fault
says_judged v valid Memory first = tt
says_judged v valid (IsRule rule place) first = (first, place_in_range v valid rule place first.holds)

-- so has each rule that fails so, where each of these is the first
pub says_first : (v : Verification) → All IsValidPolicy v.conf.policies → (FailsSo : Rule → Place → Type 0) (fault : LabelFault)
    → ((rule : Rule) (place : Place) → FailsSo rule place → IsFirstFailure (Fails v) rule place) → SaysRule FailsSo fault → SaysRule (IsJudged v) fault
says_first v valid FailsSo fault firsts says = says_judged v valid fault (says_failure (Fails v) FailsSo fault firsts says)

-- what an answer says by other facts, where each follows
pub explains_by : (Holds More : Unit {0} → Type 0) (FailsSo FailsElse : Rule → Place → Type 0) (result : Result Unit LabelFault) → ((done : Unit {0}) → Holds done → More done)
    → ((rule : Rule) (place : Place) → FailsSo rule place → FailsElse rule place) → Explains Holds FailsSo result → Explains More FailsElse result
explains_by Holds More FailsSo FailsElse (Ok done) more firsts says = more done says
explains_by Holds More FailsSo FailsElse (Err Memory) more firsts says = tt
explains_by Holds More FailsSo FailsElse (Err (IsRule rule place)) more firsts says = firsts rule place says

-- the tag is judged by the components' values
pub tag_answered : (context : MessageContext) (params : SigParams) (tag key : List ℕ) (values : List (List ℕ)) → HaveValues context params.ids values → (result : Result Unit LabelFault)
    → Explains (λ _. IsTagOf params values key tag) (FailsByTag params values key tag) result → ExplainsMac context params tag key result
tag_answered context params tag key values have result says =
    explains_by (λ _. IsTagOf params values key tag) (λ _. (own : List (List ℕ)) × HaveValues context params.ids own × (tag ≡ hmac key (signature_base params own)))
    (FailsByTag params values key tag) (FailsByMac context params tag key) result (λ _ same. (values, have, same)) (λ rule place fails. inr (fails.0, fails.1, values, have, fails.2)) says

-- ---- the laws

accepts_passes : (v : Verification) (keyid : List ℕ) → Accepts v keyid → (rule : Rule) (place : Place) → ¬ Fails v rule place
accepts_passes v keyid a rule place fails =
    none_below_35 v a.params a.tag a.signature a.alg keyid a.keyid_is a.key a.key_is a.policy (record { chosen = a.chosen; accepted = a.accepted }) a.values a.have a.mac a.digest a.room rule place (most rule) fails

read_place : (v : Verification) (rule : Rule) (p q : Place) → rule_number rule < 13 → IsFirstFailure (Fails v) rule p → IsFirstFailure (Fails v) rule q → p ≡ q
read_place v rule p q low a b =
    (is_unread_by_one_rule v.context.message v.label rule rule p q (first_is_unread v rule p low a) (first_is_unread v rule q low b)).1

-- a rule of the algorithm has one place
alg_place : (v : Verification) (P : List ℕ → Type 0) (place_at : List ℕ → Place) (p q : Place)
    → OfSignature v (λ params tag. IsSomeAnd (alg_of params) (λ alg. P alg × (p ≡ place_at alg)))
    → OfSignature v (λ params tag. IsSomeAnd (alg_of params) (λ alg. P alg × (q ≡ place_at alg))) → p ≡ q
alg_place v P place_at p q a b =
    let one = some_and_parts (λ alg. P alg × (p ≡ place_at alg)) (alg_of b.0) (on_signature v b.0 b.1 b.2 (λ params tag. IsSomeAnd (alg_of params) (λ alg. P alg × (p ≡ place_at alg))) a) in
    let two = some_and_parts (λ alg. P alg × (q ≡ place_at alg)) (alg_of b.0) b.3 in
    let same : one.0 ≡ two.0 = let e : Some one.0 ≡ Some two.0 = sym one.1 ∙ two.1 in cc in
    one.2.1 ∙ (ap place_at same ∙ sym two.2.1)

lack_place : (v : Verification) (how : Lack) (p q : Place) → FailsByLack v how p → FailsByLack v how q → p ≡ q
lack_place v how p q a b =
    let x = on_signature v b.0 b.1 b.2 (λ params tag. (index : ℕ) × IsFirstLack v.context params.ids index how × IsSomeAnd (slice_get params.ids index) (λ id. p ≡ Identifier id)) a in
    let y = b.3 in
    let at = first_lack_is_one v.context b.0.ids x.0 y.0 how how x.1 y.1 in
    let one = some_and_parts (λ id. p ≡ Identifier id) (slice_get b.0.ids x.0) x.2 in
    let two = some_and_parts (λ id. q ≡ Identifier id) (slice_get b.0.ids y.0) y.2 in
    let same : one.0 ≡ two.0 = let e : Some one.0 ≡ Some two.0 = sym one.1 ∙ (ap (slice_get b.0.ids) at.0 ∙ two.1) in cc in
    one.2 ∙ (ap (λ (id : ComponentId). Identifier id) same ∙ sym two.2)

-- one required component is the first that isn't covered
required_place : (v : Verification) (p q : Place) → Fails v ComponentRequired p → Fails v ComponentRequired q → p ≡ q
required_place v p q a b =
    let asked : Place → Policy → SigParams → Type 0 = λ place policy params. (id : ComponentId) × (place ≡ Identifier id) × IsFirstUncovered params.ids (required_of v policy) id in
    let at = some_and_parts (λ (policy : Policy). asked q policy b.0) (policy_of v.conf b.0) b.3 in
    let x = on_policy v b.0 b.1 b.2 at.0 at.1 (asked p) a in
    let y = at.2 in
    let same = one_uncovered b.0.ids (required_of v at.0) x.0 y.0 x.2 y.2 in
    x.1 ∙ (ap (λ (id : ComponentId). Identifier id) same ∙ sym y.1)

digest_place : (v : Verification) (p q : Place) → Fails v Digest p → Fails v Digest q → p ≡ q
digest_place v p q a b =
    let asked : DigestReason → Policy → SigParams → Type 0 = λ reason policy params. IsTrue (asks_digest_of v policy) × LacksDigest v.context.message params.ids reason in
    let params = b.2.0 in
    let at = some_and_parts (λ (policy : Policy). asked b.0 policy params) (policy_of v.conf params) b.2.3 in
    let x = on_policy v params b.2.1 b.2.2 at.0 at.1 (asked a.0) a.2 in
    let same = one_reason v.context.message params.ids a.0 b.0 x.1 at.2.1 in
    a.1 ∙ (ap (λ (r : DigestReason). DigestPlace r) same ∙ sym b.1)

one_place : (v : Verification) (rule : Rule) (p q : Place) → IsFirstFailure (Fails v) rule p → IsFirstFailure (Fails v) rule q → p ≡ q
one_place v InputAbsent p q a b = read_place v InputAbsent p q (lit< tt) a b
one_place v InputMalformed p q a b = read_place v InputMalformed p q (lit< tt) a b
one_place v SignatureAbsent p q a b = read_place v SignatureAbsent p q (lit< tt) a b
one_place v SignatureMalformed p q a b = read_place v SignatureMalformed p q (lit< tt) a b
one_place v LabelNotInInput p q a b = read_place v LabelNotInInput p q (lit< tt) a b
one_place v LabelNotInSignature p q a b = read_place v LabelNotInSignature p q (lit< tt) a b
one_place v InputNotList p q a b = read_place v InputNotList p q (lit< tt) a b
one_place v SignatureNotBytes p q a b = read_place v SignatureNotBytes p q (lit< tt) a b
one_place v ComponentsMany p q a b = read_place v ComponentsMany p q (lit< tt) a b
one_place v ComponentBad p q a b = read_place v ComponentBad p q (lit< tt) a b
one_place v ComponentRepeated p q a b = read_place v ComponentRepeated p q (lit< tt) a b
one_place v ParameterBad p q a b = read_place v ParameterBad p q (lit< tt) a b
one_place v AlgRefused p q a b = alg_place v (λ alg. IsTrue (is_listed refused_algorithms alg)) (λ (alg : List ℕ). Name alg) p q a.holds b.holds
one_place v AlgUnknown p q a b =
    alg_place v (λ alg. IsFalse (is_listed (supported_algorithm ∷ refused_algorithms) alg)) (λ alg. Name (string_text alg)) p q a.holds b.holds
one_place v KeyidAbsent p q a b = a.holds.0 ∙ sym b.holds.0
one_place v KeyUnknown p q a b = a.holds.0 ∙ sym b.holds.0
one_place v ComponentRequired p q a b = required_place v p q a.holds b.holds
one_place v CreatedAbsent p q a b = a.holds.0 ∙ sym b.holds.0
one_place v CreatedAhead p q a b = a.holds.0 ∙ sym b.holds.0
one_place v TooOld p q a b = a.holds.0 ∙ sym b.holds.0
one_place v ExpiresAbsent p q a b = a.holds.0 ∙ sym b.holds.0
one_place v Expired p q a b = a.holds.0 ∙ sym b.holds.0
one_place v TagWrong p q a b = a.holds.0 ∙ sym b.holds.0
one_place v NonceAbsent p q a b = a.holds.0 ∙ sym b.holds.0
one_place v NonceRepeated p q a b = a.holds.0 ∙ sym b.holds.0
one_place v NonceLong p q a b = a.holds.0 ∙ sym b.holds.0
one_place v Absent p q a b = lack_place v lack.Absent p q a.holds b.holds
one_place v Ambiguous p q a b = lack_place v lack.Ambiguous p q a.holds b.holds
one_place v Underivable p q a b = lack_place v lack.Underivable p q a.holds b.holds
one_place v Unreadable p q a b = lack_place v lack.Unreadable p q a.holds b.holds
one_place v NotAscii p q a b = lack_place v lack.NotAscii p q a.holds b.holds
one_place v MacMismatch p q a b = a.holds.0 ∙ sym b.holds.0
one_place v Digest p q a b = digest_place v p q a.holds b.holds
one_place v NoncesFull p q a b = a.holds.0 ∙ sym b.holds.0

pub has_one_verdict : HasOneVerdict
has_one_verdict v (Accepted keyid) (Accepted other) a b =
    let same = has_one_signature v.context.message v.label a.params b.params a.tag b.tag a.signature b.signature in
    let e : Some keyid ≡ Some other = sym a.keyid_is ∙ (ap keyid_of same.0 ∙ b.keyid_is) in
    let ids : keyid ≡ other = cc in
    ap (λ (id : List ℕ). Accepted id) ids
has_one_verdict v (Accepted keyid) (Refused rule place) a b = absurd (accepts_passes v keyid a rule place b.holds)
has_one_verdict v (Refused rule place) (Accepted keyid) a b = absurd (accepts_passes v keyid b rule place a.holds)
has_one_verdict v (Refused rule place) (Refused other another) a b =
    let same = one_first_failure (Fails v) (one_place v) rule other place another a b in
    λ i. Refused (same.0 i) (same.1 i)

-- ---- some verdict

abbrev SomeVerdict : Verification → Type 0
SomeVerdict v = (verdict : Verdict) × IsVerdict v verdict

module _ (v : Verification) (params : SigParams) (tag : List ℕ) (has : HasSignature v.context.message v.label params tag)
    (supported : IfSome (alg_of params) (λ alg. alg ≡ supported_algorithm)) where
  module _ (keyid key : List ℕ) (keyid_is : keyid_of params ≡ Some keyid) (key_is : key_in v.conf keyid ≡ Some key) where
    module _ (policy : Policy) (by : AcceptsBy v params policy) where
      module _ (values : List (List ℕ)) (have : HaveValues v.context params.ids values) (mac : tag ≡ hmac key (signature_base params values)) where
        by_room : (IsTrue (asks_digest_of v policy) → HasDigest v.context.message params.ids) → SomeVerdict v
        by_room digest = elim (room_or_not v.now v.seen policy params) [
          | inl room ↦ (
            Accepted keyid,
            record {
              params = params;
              tag = tag;
              signature = has;
              alg = supported;
              keyid_is = keyid_is;
              key = key;
              key_is = key_is;
              policy = policy;
              chosen = by.chosen;
              accepted = by.accepted;
              values = values;
              have = have;
              mac = mac;
              digest = digest;
              room = room;
            },
          )
          | inr none ↦ (
            Refused NoncesFull Nowhere,
            room_fails v params tag has supported keyid keyid_is key key_is policy by values have mac digest NoncesFull Nowhere (refl, refl, none),
          )
        ]

        by_digest : SomeVerdict v
        by_digest = elim (cases_Bool (asks_digest_of v policy)) [
          | inr not_asked ↦ by_room (λ asked. absurd (false≢true (sym not_asked ∙ asked)))
          | inl asked ↦ elim (has_digest_or_reason v.context.message params.ids) [
            | inl digest ↦ by_room (λ _. digest)
            | inr lacks ↦ (
              Refused Digest (DigestPlace lacks.0),
              digest_fails v params tag has supported keyid keyid_is key key_is policy by values have mac Digest (DigestPlace lacks.0) (refl, asked, lacks.0, refl, lacks.1),
            )
          ]
        ]

      by_values : ((values : List (List ℕ)) × HaveValues v.context params.ids values) ⊎ ((index : ℕ) × (how : Lack) × IsFirstLack v.context params.ids index how) → SomeVerdict v
      by_values (inl values) =
          let mac = hmac key (signature_base params values.0) in
          elim (cases_Bool (bytes_eq tag mac)) [
            | inl same ↦ by_digest values.0 values.1 ((bytes_eq-Decides tag mac).0 same)
            | inr other ↦ (
              Refused MacMismatch Nowhere,
              mac_fails v params tag has supported keyid keyid_is key key_is policy by values.0 values.1 (λ e. false≢true (sym other ∙ (bytes_eq-Decides tag mac).1 e)),
            )
          ]
      by_values (inr lacks) =
          let there = some_and_parts (λ (id : ComponentId). Lacks v.context id lacks.1) (slice_get params.ids lacks.0) lacks.2.there in (
            Refused (rule_of_lack lacks.1) (Identifier there.0),
            lack_fails v params tag has supported keyid keyid_is key key_is policy by lacks.0 lacks.1 lacks.2 (Identifier there.0)
                (some_and (λ (id : ComponentId). Identifier there.0 ≡ Identifier id) (slice_get params.ids lacks.0) there.0 there.1 refl),
          )

    by_policy : ((policy : Policy) × AcceptsBy v params policy) ⊎ ((rule : Rule) × (place : Place) × IsFirstFailure (Fails v) rule place) → SomeVerdict v
    by_policy (inl accepts) = by_values accepts.0 accepts.1 (have_or_lack v.context params.ids)
    by_policy (inr fails) = (Refused fails.0 fails.1, fails.2)

  by_key : (keyid : List ℕ) → keyid_of params ≡ Some keyid → (key : Option (List ℕ)) → key_in v.conf keyid ≡ key → SomeVerdict v
  by_key keyid keyid_is (Some key) key_is = by_policy keyid key keyid_is key_is (has_policy_answer v params tag has (none_below_17 v params tag has supported keyid keyid_is key key_is))
  by_key keyid keyid_is None none = (Refused KeyUnknown Nowhere, key_fails v params tag has supported keyid keyid_is KeyUnknown Nowhere (refl, refl, none))

  by_keyid : (keyid : Option (List ℕ)) → keyid_of params ≡ keyid → SomeVerdict v
  by_keyid (Some keyid) keyid_is = by_key keyid keyid_is (key_in v.conf keyid) refl
  by_keyid None none = (Refused KeyidAbsent Nowhere, keyid_fails v params tag has supported KeyidAbsent Nowhere (refl, refl, none))

module _ (v : Verification) (params : SigParams) (tag : List ℕ) (has : HasSignature v.context.message v.label params tag) where
  by_name : (alg : List ℕ) → alg_of params ≡ Some alg → SomeVerdict v
  by_name alg is = elim (cases_Bool (is_listed refused_algorithms alg)) [
    | inl one ↦ (
      Refused AlgRefused (Name alg),
      algorithm_fails v params tag has AlgRefused (Name alg)
          (some_and (λ (name : List ℕ). IsTrue (is_listed refused_algorithms name) × (Name alg ≡ Name name)) (alg_of params) alg is (one, refl)),
    )
    | inr not_one ↦ elim (cases_Bool (is_listed (supported_algorithm ∷ refused_algorithms) alg)) [
      | inl known ↦ by_keyid v params tag has (rw is (is_supported alg not_one known)) (keyid_of params) refl
      | inr unknown ↦ (
        Refused AlgUnknown (Name (string_text alg)),
        algorithm_fails v params tag has AlgUnknown (Name (string_text alg))
            (some_and (λ (name : List ℕ). IsFalse (is_listed (supported_algorithm ∷ refused_algorithms) name) × (Name (string_text alg) ≡ Name (string_text name))) (alg_of params) alg is (unknown, refl)),
      )
    ]
  ]

  by_alg : (alg : Option (List ℕ)) → alg_of params ≡ alg → SomeVerdict v
  by_alg (Some alg) is = by_name alg is
  by_alg None none = by_keyid v params tag has (rw none tt) (keyid_of params) refl

pub has_verdict : HasVerdict
has_verdict v = elim (has_signature_or_not v.context.message v.label) [
  | inl read ↦ by_alg v read.0 read.1 read.2 (alg_of read.0) refl
  | inr none ↦ (Refused none.0 none.1, unread_is_first v none.0 none.1 none.2)
]

pub is_accepted_where_no_rule_fails : IsAcceptedWhereNoRuleFails
is_accepted_where_no_rule_fails v = ((λ accepted. accepts_passes v accepted.0 accepted.1), accepted_or (has_verdict v))
  where
    accepted_or : SomeVerdict v → ((rule : Rule) (place : Place) → ¬ Fails v rule place) → (keyid : List ℕ) × Accepts v keyid
    accepted_or (Accepted keyid, accepts) none = (keyid, accepts)
    accepted_or (Refused rule place, first) none = absurd (none rule place first.holds)
