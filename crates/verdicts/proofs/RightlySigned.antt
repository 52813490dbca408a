-- Of a label that is signed with its key no rule of signing fails.
use Rattle.std.proofs.Common.{◌≡◌, ℕ, true, false, List, ap, subst, ◌∙◌, inl, inr}
use Rattle.std.specs.Option.{IsSomeAnd}
use Rattle.std.specs.List.{slice_get}
use Rattle.std.proofs.lemmas.Bool.{cases_Bool, false≢true}
use Rattle.component_values.specs.Values.{IsFirstLack}
use Rattle.component_values.proofs.FirstLacks.{have_one_list, none_lacks}
use Rattle.derived_values.specs.declared.lack.Lack.{Lack}
use Rattle.derived_values.specs.declared.lack.Lack.TheVariants as lack
use Rattle.hmac_sha256.specs.Hmac.{hmac}
use Rattle.signatures.specs.SignatureBase.{signature_base}
use Rattle.signatures.specs.declared.place.Place.{Place}
use Rattle.signatures.specs.declared.place.Place.TheVariants.{Identifier}
use Rattle.signatures.specs.declared.rule.Rule.{Rule}
use Rattle.signatures.specs.declared.rule.Rule.TheVariants.{InputAbsent, InputMalformed, SignatureAbsent, SignatureMalformed, LabelNotInInput, LabelNotInSignature, InputNotList, SignatureNotBytes, ComponentsMany, ComponentBad, ComponentRepeated, ParameterBad, AlgRefused, AlgUnknown, KeyidAbsent, KeyUnknown, ComponentRequired, CreatedAbsent, CreatedAhead, TooOld, ExpiresAbsent, Expired, TagWrong, NonceAbsent, NonceRepeated, NonceLong, Absent, Ambiguous, Underivable, Unreadable, NotAscii, MacMismatch, Digest, NoncesFull}
use Rattle.signatures.specs.Rules.{FailsToRead}
use Rattle.signatures.proofs.Reading.{has_no_failure_where_read, has_one_signature}
use Rattle.verdicts.specs.Laws.{HoldsRulesOfSigning, IsAcceptedByOtherRules, IsRightlySigned, is_rule_of_signing}
use Rattle.verdicts.specs.Parameters.{keyid_of}
use Rattle.verdicts.specs.Rules.{Fails, FailsByLack, IsNoMac, key_in}
use Rattle.verdicts.specs.Verdicts.{Accepts}
use Rattle.verdicts.specs.Verification.{Verification}
use Rattle.verdicts.proofs.Judging.{is_accepted_where_no_rule_fails}
use Rattle.verdicts.proofs.OfSignature.{on_signature}

module _ (v : Verification) (keyid : List ℕ) (signed : IsRightlySigned v keyid) where
  no_lack : (how : Lack) (place : Place) → ¬ FailsByLack v how place
  no_lack how place fails =
      let first = on_signature v signed.params signed.tag signed.signature (λ params tag. (index : ℕ) × IsFirstLack v.context params.ids index how × IsSomeAnd (slice_get params.ids index) (λ id. place ≡ Identifier id)) fails in
      none_lacks v.context signed.params.ids signed.values first.0 how signed.have first.1

  right_mac : ¬ IsNoMac v signed.params signed.tag
  right_mac no_one =
      let same : no_one.keyid ≡ keyid = cc (no_one.keyid_is, signed.keyid_is) in
      let keys : signed.key ≡ no_one.key = cc (signed.key_is, no_one.key_is, ap (λ (k : List ℕ). key_in v.conf k) same) in
      let values = have_one_list v.context signed.params.ids signed.values no_one.values signed.have no_one.have in
      no_one.other (signed.mac ∙ (ap (λ (k : List ℕ). hmac k (signature_base signed.params signed.values)) keys ∙ ap (λ (texts : List (List ℕ)). hmac no_one.key (signature_base signed.params texts)) values))

  read : (rule : Rule) (place : Place) → ¬ FailsToRead v.context.message v.label rule place
  read rule place = has_no_failure_where_read v.context.message v.label signed.params signed.tag rule place signed.signature

  holds : (rule : Rule) (place : Place) → is_rule_of_signing rule ≡ true → ¬ Fails v rule place
  holds InputAbsent place is = read InputAbsent place
  holds InputMalformed place is = read InputMalformed place
  holds SignatureAbsent place is = read SignatureAbsent place
  holds SignatureMalformed place is = read SignatureMalformed place
  holds LabelNotInInput place is = read LabelNotInInput place
  holds LabelNotInSignature place is = read LabelNotInSignature place
  holds InputNotList place is = read InputNotList place
  holds SignatureNotBytes place is = read SignatureNotBytes place
  holds ComponentsMany place is = read ComponentsMany place
  holds ComponentBad place is = read ComponentBad place
  holds ComponentRepeated place is = read ComponentRepeated place
  holds ParameterBad place is = read ParameterBad place
  holds Absent place is = no_lack lack.Absent place
  holds Ambiguous place is = no_lack lack.Ambiguous place
  holds Underivable place is = no_lack lack.Underivable place
  holds Unreadable place is = no_lack lack.Unreadable place
  holds NotAscii place is = no_lack lack.NotAscii place
  holds MacMismatch place is = λ fails. right_mac (on_signature v signed.params signed.tag signed.signature (λ params tag. IsNoMac v params tag) fails.1)
  holds AlgRefused place is = absurd (false≢true is)
  holds AlgUnknown place is = absurd (false≢true is)
  holds KeyidAbsent place is = absurd (false≢true is)
  holds KeyUnknown place is = absurd (false≢true is)
  holds ComponentRequired place is = absurd (false≢true is)
  holds CreatedAbsent place is = absurd (false≢true is)
  holds CreatedAhead place is = absurd (false≢true is)
  holds TooOld place is = absurd (false≢true is)
  holds ExpiresAbsent place is = absurd (false≢true is)
  holds Expired place is = absurd (false≢true is)
  holds TagWrong place is = absurd (false≢true is)
  holds NonceAbsent place is = absurd (false≢true is)
  holds NonceRepeated place is = absurd (false≢true is)
  holds NonceLong place is = absurd (false≢true is)
  holds Digest place is = absurd (false≢true is)
  holds NoncesFull place is = absurd (false≢true is)

  accepted : ((rule : Rule) (place : Place) → is_rule_of_signing rule ≡ false → ¬ Fails v rule place) → Accepts v keyid
  accepted others =
      let found = (is_accepted_where_no_rule_fails v).1 (λ rule place. elim (cases_Bool (is_rule_of_signing rule)) [
        | inl own ↦ holds rule place own
        | inr other ↦ others rule place other
      ]) in
      let params = (has_one_signature v.context.message v.label found.1.params signed.params found.1.tag signed.tag found.1.signature signed.signature).0 in
      let same : found.0 ≡ keyid = cc (found.1.keyid_is, ap keyid_of params, signed.keyid_is) in
      subst (λ (k : List ℕ). Accepts v k) same found.1

pub holds_rules_of_signing : HoldsRulesOfSigning
holds_rules_of_signing v keyid rule place signed is = holds v keyid signed rule place is

pub is_accepted_by_other_rules : IsAcceptedByOtherRules
is_accepted_by_other_rules v keyid signed others = accepted v keyid signed others
