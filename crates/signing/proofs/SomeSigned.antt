-- What is signed, or why it isn't: there is one of both.
use Rattle.std.proofs.Common.{◌≡◌, ◌⊎◌, ◌<◌, ◌≤◌, lit<, ℕ, zero, suc, true, Option, Some, None, List, [], ◌∷◌, refl, ap, subst, inl, inr, arith}
use Rattle.std.specs.FinMap as map
use Rattle.std.specs.List.{All, list_all, list_any, slice_get}
use Rattle.std.specs.Option.{IsSomeAnd}
use Rattle.std.specs.Prelude.{IfSome, IsSome, MatchOption}
use Rattle.std.proofs.lemmas.Bool.{and_parts, cases_Bool}
use Rattle.std.proofs.lemmas.List.Elements.{All-nil, All-cons}
use Rattle.std.specs.Str.{bytes_eq}
use Rattle.std.proofs.lemmas.Slice.Eq.{bytes_eq-Decides}
use Rattle.sfv_text.specs.Keys.{have_distinct_keys, value_of}
use Rattle.sfv_text.specs.Range.{is_dict_member_in_range}
use Rattle.sfv_text.specs.declared.pair.Pair.{Pair}
use Rattle.sfv_text.specs.declared.value.InnerList.{InnerList}
use Rattle.sfv_text.specs.declared.value.Member.{Member}
use Rattle.sfv_text.specs.declared.value.Member.TheVariants.{Item as ItemMember, InnerList as InnerMember}
use Rattle.msg_body.specs.Messages.{Message, Spells, message_text}
use Rattle.msg_body.specs.Views.{lines_on}
use Rattle.msg_head.specs.Values.{combined_value}
use Rattle.msg_head.specs.declared.error.Side.TheVariants.{Header}
use Rattle.component_ids.proofs.Judged as id_laws
use Rattle.component_ids.specs.SignatureParams.{IsParamsOf}
use Rattle.component_ids.specs.Table.{is_listed}
use Rattle.component_ids.specs.declared.id.ComponentId.{ComponentId}
use Rattle.component_ids.specs.declared.params.SigParams.{SigParams}
use Rattle.component_values.specs.Context.{MessageContext, answers_head}
use Rattle.component_values.proofs.FirstLacks.{have_or_lack, none_lacks}
use Rattle.hmac_sha256.specs.Hmac.{hmac}
use Rattle.signatures.specs.SignatureBase.{signature_base}
use Rattle.settings.specs.Configuration.{Configuration}
use Rattle.nonces.specs.declared.limits.TheConstants.{MAX_MOMENT}
use Rattle.settings.specs.Covered.{params_of}
use Rattle.settings.specs.Valid.{IsValid}
use Rattle.settings.specs.declared.sign_conf.SignConf.{SignConf}
use Rattle.sfv_read.proofs.InRange.{dict_read_in_range}
use Rattle.signatures.specs.Algorithms.{supported_algorithm, refused_algorithms}
use Rattle.signatures.specs.Fields.{IsFieldOf}
use Rattle.signatures.specs.Signatures.{HasDict, input_name, signature_name}
use Rattle.signatures.specs.declared.field.DictField.{DictField}
use Rattle.signatures.specs.declared.field.DictField.TheVariants as field
use Rattle.signatures.proofs.Reading.{has_field}
use Rattle.signing.specs.Asked.{asked_params, covered_ids, digest_algorithm}
use Rattle.signing.specs.Laws.{AreValidWhereWished, HasSignedMessageOrFault, HasSpec, HasSpecsOrFault, IsValidWhereAsked, IsVerifiableWhereSigned}
use Rattle.signing.specs.SignCauses.{covers_itself, passed_limit, any_tag, IsSignCause, IsSignFault, sign_order}
use Rattle.signing.specs.Signed.{IsSignedMessage}
use Rattle.signing.specs.Specs.{IsValidSpec}
use Rattle.signing.specs.WishCauses.{IsWantFault}
use Rattle.signing.specs.Wishes.{AreWished, MeetsWish, MeetWishes, can_be_met, components_in, wish_name, wished_alg, wished_key, wished_keyid, wished_params}
use Rattle.signing.specs.Written.{context_with_digest, signed_message}
use Rattle.signing.specs.declared.fault.SignFault.{SignFault}
use Rattle.signing.specs.declared.fault.SignFault.TheVariants.{Memory, InputMalformed, SignatureMalformed, LabelThere, SelfCover, TooLong, Lacks}
use Rattle.signing.specs.declared.fault.WantFault.{WantFault}
use Rattle.signing.specs.declared.place.LabelPlace.{LabelPlace}
use Rattle.signing.specs.declared.place.LabelPlace.TheVariants as place
use Rattle.signing.specs.declared.spec.SignSpec.{SignSpec}
use Rattle.signing.specs.declared.wish.WishFault.{WishFault}
use Rattle.signing.specs.declared.wish.WishFault.TheVariants.{NotInnerList, Ids, Parameter, AlgRefused, AlgUnknown, KeyUnknown}
use Rattle.signing.specs.tools.Fields.{IsPlaceIn, fault_of_places}
use Rattle.signing.specs.tools.Judged.{IsMade, NoneBelow}
use Rattle.signing.specs.tools.Wished.{IsWishFault, HasNoCause, HaveNoCause, fault_at}
use Rattle.signing.proofs.Causes.{first, judged_places, no_self_cover, none_below_7, none_below_8, places_none}
use Rattle.signing.proofs.Fields.{absent_place, empty_place, free_place, malformed_place, taken_place}
use Rattle.signing.proofs.Asking.{valid_of}
use Rattle.signing.proofs.OneSigned.{one_signed_message}
use Rattle.signing.proofs.Verifiable.{first_cover, spells_signed, verifiable}
use Rattle.signing.proofs.WishSpecs.{wish_is_valid}
use Rattle.signing.proofs.Wanting.{bad_field, first_want, no_field, no_want_cause, no_wishes, some_sign}
use Rattle.signing.proofs.Wishing.{algorithm_fails, cannot, components_fail, key_unknown, no_wish_cause, not_a_list}

-- ---- a message

-- where a field has the label, or doesn't
of_dict : (message : Message) (name label : List ℕ) (dict : List (Pair Member)) → HasDict message name dict → (place : LabelPlace) × IsPlaceIn message name label place
of_dict message name label [] has = (place.Malformed, empty_place message name label [] has refl)
of_dict message name label (m ∷ ms) has = at (value_of (m ∷ ms) label) refl where
  at : (o : Option Member) → value_of (m ∷ ms) label ≡ o → (place : LabelPlace) × IsPlaceIn message name label place
  at (Some member) is = (place.Taken, taken_place message name label (m ∷ ms) has (λ e. absurd (cc e)) member is)
  at None is = (place.Free, free_place message name label (m ∷ ms) has (λ e. absurd (cc e)) is)

of_field : (message : Message) (name label : List ℕ) (f : DictField) → IsFieldOf message name f → (place : LabelPlace) × IsPlaceIn message name label place
of_field message name label field.Absent is = (place.Free, absent_place message name label is)
of_field message name label field.Malformed is = (place.Malformed, malformed_place message name label is)
of_field message name label (field.Dict dict) is = of_dict message name label dict is

has_place : (message : Message) (name label : List ℕ) → (place : LabelPlace) × IsPlaceIn message name label place
has_place message name label = let f = has_field message name in of_field message name label f.0 f.1

module _ (context : MessageContext) (spec : SignSpec) where
  abbrev Answer : Type 0
  Answer = ((written : Message) × IsSignedMessage context spec written × NoneBelow context spec 8) ⊎ ((fault : SignFault) × IsSignFault context spec fault)

  below_8 : (fault : SignFault) → IsSignCause context spec fault → sign_order fault < 8
  below_8 InputMalformed h = lit< tt
  below_8 SignatureMalformed h = lit< tt
  below_8 LabelThere h = lit< tt
  below_8 (SelfCover index) h = lit< tt
  below_8 (TooLong limit) h = lit< tt
  below_8 (Lacks index lack) h = lit< tt
  below_8 Memory h = absurd h

  by_values : NoneBelow context spec 7 → Answer
  by_values none = elim (have_or_lack (context_with_digest context spec.digest) spec.params.ids) [
    | inl have ↦
        let all = none_below_8 context spec none (λ index lack. none_lacks (context_with_digest context spec.digest) spec.params.ids have.0 index lack have.1) in
        inl (
          signed_message context.message spec (hmac spec.key (signature_base spec.params have.0)),
          record { values = have.0; have = have.1; written_is = refl },
          all,
        )
    | inr lack ↦ inr (Lacks lack.0 lack.1, first context spec (Lacks lack.0 lack.1) none lack.2)
  ]

  by_limit : NoneBelow context spec 6 → (o : Option ℕ) → passed_limit (signed_message context.message spec any_tag) ≡ o → Answer
  by_limit none (Some limit) is = inr (TooLong limit, first context spec (TooLong limit) none is)
  by_limit none None is = by_values (none_below_7 context spec none (λ limit long. absurd (cc (is, long))))

  by_cover : NoneBelow context spec 5 → Answer
  by_cover none = elim (cases_Bool (list_any (covers_itself spec.label) spec.params.ids)) [
    | inl some ↦ let cover = first_cover spec.label spec.params.ids some in inr (SelfCover cover.0, first context spec (SelfCover cover.0) none cover.1)
    | inr no_one ↦ by_limit (no_self_cover context spec none no_one) (passed_limit (signed_message context.message spec any_tag)) refl
  ]

  by_places : (input signature : LabelPlace) → IsPlaceIn context.message input_name spec.label input → IsPlaceIn context.message signature_name spec.label signature
      → (o : Option SignFault) → fault_of_places input signature ≡ o → Answer
  by_places input signature a b (Some fault) is = inr (fault, subst (λ (o : Option SignFault). MatchOption o (NoneBelow context spec 5) (λ f. IsSignFault context spec f)) is (judged_places context spec input signature a b))
  by_places input signature a b None is = by_cover (places_none context spec input signature a b is)

answer : (context : MessageContext) (spec : SignSpec) → Answer context spec
answer context spec =
    let input = has_place context.message input_name spec.label in
    let signature = has_place context.message signature_name spec.label in
    by_places context spec input.0 signature.0 input.1 signature.1 (fault_of_places input.0 signature.0) refl

pub signed_or_fault : HasSignedMessageOrFault
signed_or_fault context spec = elim (answer context spec) [
  | inl signed ↦ inl (signed.0, signed.1, λ fault is. signed.2 fault (below_8 context spec fault is.holds) is.holds)
  | inr fault ↦ inr fault
]

pub verifiable_where_signed : IsVerifiableWhereSigned
verifiable_where_signed context spec bytes written valid spells signed none = elim (answer context spec) [
  | inr fault ↦ absurd (none fault.0 fault.1)
  | inl other ↦
      let made : IsMade context spec (message_text written) =
      record { signed = record { values = signed.values; have = signed.have; text_is = ap message_text signed.written_is }; none = other.2 } in
      let spelled = spells_signed context spec bytes (message_text written) valid spells made in
      let same : spelled.0 ≡ written = one_signed_message context spec spelled.0 written spelled.1 signed in
      (subst (λ (m : Message). Spells (answers_head context.related) m (message_text written)) same spelled.2, verifiable context spec bytes (message_text written) valid spells made)
]

-- ---- a configuration

key_there : (o : Option (List ℕ)) → IsSome o → (key : List ℕ) × (o ≡ Some key)
key_there (Some key) is = (key, refl)
key_there None is = absurd cc

pub has_spec : HasSpec
has_spec conf sign of_request now nonce is has =
    let key = key_there (map.get conf.keys sign.keyid) has in (
      record {
        label = sign.label;
        params = record { ids = covered_ids sign of_request; params = asked_params sign now nonce };
        key = key.0;
        digest = digest_algorithm sign.digest;
      },
      record { sign = sign; sign_is = is; label = refl; ids = refl; params = refl; key = key.1; digest = refl },
    )

pub valid_where_asked : IsValidWhereAsked
valid_where_asked conf of_request now nonce spec valid timely characters is =
    valid_of conf.keys is.sign of_request now nonce spec (valid.sign is.sign is.sign_is) (valid.keyids is.sign.keyid spec.key is.key) timely characters is.label is.ids is.params

-- ---- wishes

module _ (conf : Configuration) (sign : SignConf) (configured : conf.sign ≡ Some sign) (now : ℕ) where
  abbrev WishAnswer : Pair Member → Type 0
  WishAnswer wish =
      ((spec : SignSpec) × MeetsWish conf now wish spec × HasNoCause conf sign wish) ⊎ ((fault : WishFault) × IsWishFault conf sign wish.value fault)

  by_key : (key : List ℕ) (list : InnerList) (ids : List ComponentId) → IsParamsOf (components_in list) (params_of ids) → list_all (can_be_met sign.expires_after) list.params ≡ true
      → IfSome (wished_alg list) (λ alg. alg ≡ supported_algorithm) → (o : Option (List ℕ)) → wished_key conf sign list ≡ o → WishAnswer (record { key = key; value = InnerMember list })
  by_key label list ids are can fine (Some key) is = inl (
    record {
      label = label;
      params = record { ids = ids; params = wished_params sign now list.params };
      key = key;
      digest = digest_algorithm sign.digest;
    },
    record {
      sign = sign;
      sign_is = configured;
      list = list;
      list_is = refl;
      label = refl;
      ids = are;
      can = can;
      params = refl;
      alg = fine;
      key = is;
      digest = refl;
    },
    no_wish_cause conf sign list ids are can fine key is,
  )
  by_key label list ids are can fine None is = inr (KeyUnknown, key_unknown conf sign list ids are can fine is)

  by_alg : (key : List ℕ) (list : InnerList) (ids : List ComponentId) → IsParamsOf (components_in list) (params_of ids) → list_all (can_be_met sign.expires_after) list.params ≡ true
      → (o : Option (List ℕ)) → wished_alg list ≡ o → WishAnswer (record { key = key; value = InnerMember list })
  by_alg label list ids are can None is = by_key label list ids are can (rw is tt) (wished_key conf sign list) refl
  by_alg label list ids are can (Some alg) is = elim (cases_Bool (is_listed refused_algorithms alg)) [
    | inl refused ↦ inr (AlgRefused, algorithm_fails conf sign list ids are can AlgRefused (rw is refused))
    | inr other ↦ elim (cases_Bool (bytes_eq alg supported_algorithm)) [
      | inl supported ↦ by_key label list ids are can (rw is ((bytes_eq-Decides alg supported_algorithm).0 supported)) (wished_key conf sign list) refl
      | inr unknown ↦ inr (AlgUnknown, algorithm_fails conf sign list ids are can AlgUnknown (rw is (rw (unknown, other) refl)))
    ]
  ]

  by_ids : (key : List ℕ) (list : InnerList) (ids : List ComponentId) → IsParamsOf (components_in list) (params_of ids) → WishAnswer (record { key = key; value = InnerMember list })
  by_ids label list ids are = elim (cases_Bool (list_all (can_be_met sign.expires_after) list.params)) [
    | inl can ↦ by_alg label list ids are can (wished_alg list) refl
    | inr no_wish ↦ inr (Parameter, cannot conf sign list ids are no_wish)
  ]

  -- components without parameters
  bare_params : (list : InnerList) (params : SigParams) → IsParamsOf (components_in list) params → IsParamsOf (components_in list) (params_of params.ids)
  bare_params list params is =
      let none : params.params ≡ [] = ap (λ (l : InnerList). l.params) is.1 in
      let same : params ≡ params_of params.ids = λ i. record { ids = params.ids; params = none i } in
      subst (λ (p : SigParams). IsParamsOf (components_in list) p) same is

  by_member : (key : List ℕ) (member : Member) → WishAnswer (record { key = key; value = member })
  by_member key (ItemMember item) = inr (NotInnerList, not_a_list conf sign item)
  by_member key (InnerMember list) = elim (id_laws.has_answer (components_in list)) [
    | inl params ↦ by_ids key list params.0.ids (bare_params list params.0 params.1)
    | inr fault ↦ inr (Ids fault.0, components_fail conf sign list (Ids fault.0) fault.1)
  ]

  wish_answer : (wish : Pair Member) → WishAnswer wish
  wish_answer wish = by_member wish.key wish.value

  -- all of the wishes, or the first that isn't met
  abbrev AllMet : List (Pair Member) → Type 0
  AllMet wishes = (specs : List SignSpec) × MeetWishes conf now wishes specs × ((i : ℕ) (wish : Pair Member) → slice_get wishes i ≡ Some wish → HasNoCause conf sign wish)

  abbrev FirstUnmet : List (Pair Member) → Type 0
  FirstUnmet wishes = (index : ℕ) × (cause : WishFault) × HaveNoCause conf sign wishes index × IsSomeAnd (slice_get wishes index) (λ wish. IsWishFault conf sign wish.value cause)

  met_before : (w : Pair Member) (ws : List (Pair Member)) → HasNoCause conf sign w → ((i : ℕ) (wish : Pair Member) → slice_get ws i ≡ Some wish → HasNoCause conf sign wish)
      → (i : ℕ) (wish : Pair Member) → slice_get (w ∷ ws) i ≡ Some wish → HasNoCause conf sign wish
  met_before w ws one others zero wish there = let same : w ≡ wish = cc in subst (λ (v : Pair Member). HasNoCause conf sign v) same one
  met_before w ws one others (suc i) wish there = others i wish there

  none_until : (w : Pair Member) (ws : List (Pair Member)) (n : ℕ) → HasNoCause conf sign w → HaveNoCause conf sign ws n → HaveNoCause conf sign (w ∷ ws) (suc n)
  none_until w ws n one others zero wish lt there = let same : w ≡ wish = cc in subst (λ (v : Pair Member). HasNoCause conf sign v) same one
  none_until w ws n one others (suc i) wish lt there = others i wish (omega (arith, lt)) there

  all_or_first : (wishes : List (Pair Member)) → AllMet wishes ⊎ FirstUnmet wishes
  all_or_first [] = inl ([], tt, λ i wish there. absurd (cc there))
  all_or_first (w ∷ ws) = elim (wish_answer w) [
    | inr fault ↦ inr (0, fault.0, (λ i wish lt there. absurd (omega (arith, lt))), fault.1)
    | inl one ↦ elim (all_or_first ws) [
      | inl all ↦ inl (one.0 ∷ all.0, (one.1, all.1), met_before w ws one.2 all.2)
      | inr unmet ↦ inr (suc unmet.0, unmet.1, none_until w ws unmet.0 one.2 unmet.2, unmet.3)
    ]
  ]

  by_wishes : (message : Message) (dict : List (Pair Member)) → HasDict message wish_name dict → ¬ (dict ≡ [])
      → ((specs : List SignSpec) × AreWished conf now message specs × ((fault : WantFault) → ¬ IsWantFault conf message fault)) ⊎ ((fault : WantFault) × IsWantFault conf message fault)
  by_wishes message dict has some = elim (all_or_first dict) [
    | inl all ↦ inl (all.0, (dict, has, all.1), λ fault is. no_want_cause conf sign message configured dict has some (λ i wish lt there. all.2 i wish there) fault is.holds)
    | inr unmet ↦ inr (
      fault_at unmet.0 unmet.1,
      first_want conf sign message configured dict has some (fault_at unmet.0 unmet.1) (unmet.0, unmet.1, refl, unmet.2, unmet.3),
    )
  ]

  by_field : (message : Message) (f : DictField) → IsFieldOf message wish_name f
      → ((specs : List SignSpec) × AreWished conf now message specs × ((fault : WantFault) → ¬ IsWantFault conf message fault)) ⊎ ((fault : WantFault) × IsWantFault conf message fault)
  by_field message field.Absent is = inr (_, no_field conf now message is)
  by_field message field.Malformed is = inr (_, bad_field conf now message is)
  by_field message (field.Dict []) is = inr (_, no_wishes conf now message [] is refl)
  by_field message (field.Dict (w ∷ ws)) is = by_wishes message (w ∷ ws) is (λ e. absurd (cc e))

pub specs_or_fault : HasSpecsOrFault
specs_or_fault conf now message configured =
    let sign = some_sign conf now message conf.sign configured in
    let f = has_field message wish_name in
    by_field conf sign.0 sign.1 now message f.0 f.1

-- each wish that is met can be signed
valid_wishes : (conf : Configuration) (now : ℕ) → IsValid conf → now ≤ MAX_MOMENT → (wishes : List (Pair Member)) → list_all is_dict_member_in_range wishes ≡ true → (specs : List SignSpec)
    → MeetWishes conf now wishes specs → All IsValidSpec specs
valid_wishes conf now valid timely [] in_range [] met = All-nil IsValidSpec
valid_wishes conf now valid timely [] in_range (spec ∷ specs) met = absurd met
valid_wishes conf now valid timely (wish ∷ wishes) in_range [] met = absurd met
valid_wishes conf now valid timely (wish ∷ wishes) in_range (spec ∷ specs) met =
    let both = and_parts (is_dict_member_in_range wish) (list_all is_dict_member_in_range wishes) in_range in
    let one = met.0 in
    All-cons IsValidSpec spec specs
    (wish_is_valid one.sign now wish one.list spec both.0 one.list_is timely (valid.keyids (wished_keyid one.sign one.list) spec.key one.key) one.ids one.can one.label one.params)
    (valid_wishes conf now valid timely wishes both.1 specs met.1)

pub valid_where_wished : AreValidWhereWished
valid_where_wished conf now message specs valid timely are =
    let in_range = and_parts (have_distinct_keys are.0) (list_all is_dict_member_in_range are.0) (dict_read_in_range (combined_value (lines_on Header message) wish_name) are.0 are.1.reads) in
    valid_wishes conf now valid timely are.0 in_range.1 specs are.2
