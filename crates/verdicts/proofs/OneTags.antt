-- Two accepted labels with one tag under one key have one base, or the tag is the HMAC of two texts.
use Rattle.std.proofs.Common.{◌≡◌, ◌⊎◌, ℕ, true, ◌==◌, not, List, [], ◌∷◌, refl, sym, ap, ◌∙◌, inl, inr, arith}
use Rattle.std.specs.List.{list_all}
use Rattle.std.specs.Str.{bytes_eq}
use Rattle.std.proofs.lemmas.Bool.{and_from, cases_Bool}
use Rattle.std.proofs.lemmas.Bool.Decides.{nat_tests, not_from_Decides}
use Rattle.std.proofs.lemmas.Slice.Eq.{bytes_eq-Decides}
use Rattle.byte_grammar.proofs.ListLaws.{all_implied}
use Rattle.msg_body.specs.Messages.{Message}
use Rattle.component_ids.specs.declared.id.ComponentId.{ComponentId}
use Rattle.component_ids.specs.declared.params.SigParams.{SigParams}
use Rattle.component_values.specs.Context.{MessageContext}
use Rattle.component_values.specs.Laws.{HasMessages, is_value_byte}
use Rattle.component_values.specs.Values.{HaveValues}
use Rattle.component_values.proofs.CleanLaws.{has_clean_values}
use Rattle.component_values.proofs.FirstLacks.{have_length}
use Rattle.hmac_sha256.specs.Hmac.{hmac}
use Rattle.signatures.specs.BaseLaws.{HaveBase, is_one_line}
use Rattle.signatures.proofs.Readings.{one_reading}
use Rattle.signatures.specs.Signatures.{HasSignature}
use Rattle.signatures.proofs.InRange.{is_signature_in_range}
use Rattle.verdicts.specs.Laws.{Agree, HaveOneTag, IsTagOfTwo, OneTagAgrees, OneTagAgreesWhereAlone, base_of}
use Rattle.verdicts.specs.Verdicts.{Accepts}
use Rattle.verdicts.specs.Verification.{Verification}

-- ---- values have no LF

no_line_end : (c : ℕ) → is_value_byte c ≡ true → not (c == 10) ≡ true
no_line_end c is = grind (arith, nat_tests)

one_line : (value : List ℕ) → list_all is_value_byte value ≡ true → is_one_line value ≡ true
one_line value clean = all_implied is_value_byte (λ c. not (c == 10)) no_line_end value clean

-- values of components have no LF
pub all_lines : (context : MessageContext) (ids : List ComponentId) (values : List (List ℕ)) → HasMessages context → HaveValues context ids values → list_all is_one_line values ≡ true
all_lines context [] [] spelled have = refl
all_lines context (id ∷ ids) (value ∷ values) spelled have =
    and_from (is_one_line value) (list_all is_one_line values) (one_line value (has_clean_values context id value spelled have.0)) (all_lines context ids values spelled have.1)
all_lines context [] (value ∷ values) spelled have = absurd have
all_lines context (id ∷ ids) [] spelled have = absurd have

-- a signature whose components have values has a base
pub have_base : (context : MessageContext) (message : Message) (label : List ℕ) (params : SigParams) (tag : List ℕ) (values : List (List ℕ))
    → HasSignature message label params tag → HaveValues context params.ids values → HaveBase params values
have_base context message label params tag values has have =
    record { in_range = is_signature_in_range message label params tag has; each = have_length context params.ids values have }

-- ---- two labels

module _ (v w : Verification) (keyid another : List ℕ) (one : Accepts v keyid) (other : Accepts w another) (has : HaveOneTag one other) where
  agree_where_same : base_of one ≡ base_of other → Agree one other
  agree_where_same same =
      (one_reading one.params other.params one.values other.values
      (have_base v.context v.context.message v.label one.params one.tag one.values one.signature one.have)
      (all_lines v.context one.params.ids one.values has.message one.have)
      (have_base w.context w.context.message w.label other.params other.tag other.values other.signature other.have)).0 same

  other_mac : one.tag ≡ hmac one.key (base_of other)
  other_mac = has.tag ∙ (other.mac ∙ ap (λ (k : List ℕ). hmac k (base_of other)) (sym has.key))

  agree_or_two : Agree one other ⊎ IsTagOfTwo one.key one.tag (base_of one) (base_of other)
  agree_or_two = elim (cases_Bool (bytes_eq (base_of one) (base_of other))) [
    | inl same ↦ inl (agree_where_same ((bytes_eq-Decides (base_of one) (base_of other)).0 same))
    | inr apart ↦ inr (record { differ = not_from_Decides _ (bytes_eq-Decides (base_of one) (base_of other)) apart; mac = one.mac; same = other_mac })
  ]

pub one_tag_agrees : OneTagAgrees
one_tag_agrees v w keyid another one other has = agree_or_two v w keyid another one other has

pub one_tag_agrees_where_alone : OneTagAgreesWhereAlone
one_tag_agrees_where_alone v w keyid another one other has alone =
    agree_where_same v w keyid another one other has (sym (alone (base_of other) (other_mac v w keyid another one other has)))
