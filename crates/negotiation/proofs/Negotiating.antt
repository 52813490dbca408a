-- A response that is signed as its request asks, or the first cause for which it isn't.
use Rattle.std.proofs.Common.{◌≡◌, ◌≢◌, ◌⊎◌, ◌<◌, lit<, ℕ, Option, Some, None, Result, Ok, Err, List, [], ◌∷◌, map, IfOk, IfSome, IsSome, refl, sym, ap, subst, ◌∙◌, arith, inl, inr}
use Rattle.std.specs.Option.{IsSomeAnd}
use Rattle.std.specs.List.{All}
use Rattle.std.proofs.lemmas.List.Elements.{All-map, All-weaker}
use Rattle.byte_grammar.specs.Causes.{AnswersWhere}
use Rattle.byte_grammar.specs.tools.Determined.{AreDetermined}
use Rattle.byte_grammar.proofs.AnswerLaws.{IsMemoryDecided, NamesFault, answers_where}
use Rattle.byte_grammar.proofs.CauseLaws.{first_is_one}
use Rattle.byte_grammar.proofs.Indices.{some_and, some_and_at, some_and_parts}
use Rattle.msg_body.specs.Messages.{Message}
use Rattle.component_values.specs.Context.{MessageContext}
use Rattle.content_digest.specs.declared.algorithm.Algorithm.{Algorithm}
use Rattle.settings.specs.Configuration.{Configuration}
use Rattle.signing.specs.Specs.{IsValidSpec}
use Rattle.signing.specs.WishCauses.{IsWantCause, IsWantFault}
use Rattle.signing.specs.Wishes.{AreWished}
use Rattle.signing.specs.declared.fault.SignFault.{SignFault}
use Rattle.signing.specs.declared.fault.WantFault.{WantFault}
use Rattle.signing.specs.declared.fault.WantFault.TheVariants as want
use Rattle.signing.specs.declared.spec.SignSpec.{SignSpec}
use Rattle.signing.proofs.OneSigned.{one_list_of_specs, one_want_fault}
use Rattle.signing.proofs.SomeSigned.{specs_or_fault}
use Rattle.negotiation.specs.Each.{IsEachFault, IsSignedEach, SpellsEach}
use Rattle.negotiation.specs.Laws.{HasNegotiatedOrFault, HasOneNegotiated, HasOneNegotiateFault}
use Rattle.negotiation.specs.NegotiateCauses.{HasOtherDigests, IsDigestUnmet, IsNegotiateCause, IsNegotiateFault, IsWishUnsigned, OfRequest, negotiate_order}
use Rattle.negotiation.specs.Negotiated.{AreNegotiated, IsNegotiated, SpellsNegotiated, with_digest_by}
use Rattle.negotiation.specs.Preferences.{IsUnacceptable, IsWishMalformed, IsWishedDigest}
use Rattle.negotiation.specs.declared.fault.EachFault.{EachFault}
use Rattle.negotiation.specs.declared.fault.EachFault.TheVariants as each
use Rattle.negotiation.specs.declared.fault.NegotiateFault.{NegotiateFault}
use Rattle.negotiation.specs.declared.fault.NegotiateFault.TheVariants.{Memory, WishMalformed, Unacceptable, DigestUnmet, Wanted, Sign}
use Rattle.negotiation.specs.tools.Judged.{AreSpecsBy, ExplainsDigests, ExplainsNegotiate, ExplainsSpecs, ExplainsWish, IsNegotiatedText, NoneBelow, fault_of_each, fault_of_want}
use Rattle.negotiation.proofs.Chains.{each_or_fault, not_both, one_each_fault, one_signed_each}
use Rattle.negotiation.proofs.Digesting.{others_decided}
use Rattle.negotiation.proofs.Wishing.{one_chosen, one_wished_digest, wish_answer}

-- ---- the signatures that are asked for

one_negotiated_specs : (conf : Configuration) (now : ℕ) (request : Message) (specs others : List SignSpec) → AreNegotiated conf now request specs → AreNegotiated conf now request others → specs ≡ others
one_negotiated_specs conf now request specs others a b =
    let wished : a.wished ≡ b.wished = one_list_of_specs conf now request a.wished b.wished a.are b.are in
    let digest : a.digest ≡ b.digest = one_wished_digest request a.digest b.digest a.digest_is b.digest_is in
    a.specs_are ∙ ((λ i. map (with_digest_by (digest i)) (wished i)) ∙ sym b.specs_are)

-- another digest makes no difference to what can be signed
valid_by : (digest : Option Algorithm) (spec : SignSpec) → IsValidSpec spec → IsValidSpec (with_digest_by digest spec)
valid_by None spec valid = valid
valid_by (Some algorithm) spec valid = record { label = valid.label; params = valid.params; in_range = valid.in_range }

pub all_valid_by : (digest : Option Algorithm) (specs : List SignSpec) → All IsValidSpec specs → All IsValidSpec (map (with_digest_by digest) specs)
all_valid_by digest specs valid =
    All-map IsValidSpec (with_digest_by digest) specs (All-weaker IsValidSpec (λ (spec : SignSpec). IsValidSpec (with_digest_by digest spec)) (valid_by digest) specs valid)

-- without a wish for a digest they are as they were
pub as_wished : (specs : List SignSpec) → map (with_digest_by None) specs ≡ specs
as_wished [] = refl
as_wished (spec ∷ specs) = ap (λ (ss : List SignSpec). spec ∷ ss) (as_wished specs)

-- what is known of the wishes, by the contract of what reads them
abbrev pub WantsAnswered : Configuration → Message → Result (List SignSpec) WantFault → Type 0
WantsAnswered conf request result =
    (f : WantFault) → f ≢ want.Memory → AnswersWhere want.Memory result f (IsWantFault conf request f)

module _ (conf : Configuration) (now : ℕ) (request : Message) where
  no_want_fault : (specs : List SignSpec) → WantsAnswered conf request (Ok specs) → (f : WantFault) → ¬ IsWantFault conf request f
  no_want_fault specs answered f is =
      let own : f ≢ want.Memory = λ e. subst (λ (g : WantFault). IsWantCause conf request g) e is.holds in
      elim ((answered f own).there is) [
        | inl e ↦ absurd (cc e)
        | inr e ↦ absurd (cc e)
      ]

  pub specs_by : (digest : Option Algorithm) (specs others : List SignSpec) → AreWished conf now request specs → WantsAnswered conf request (Ok specs)
      → others ≡ map (with_digest_by digest) specs → AreSpecsBy conf now request digest others
  specs_by digest specs others are answered is = record {
    wished = specs;
    are = are;
    specs_are = is;
    none = no_want_fault specs answered;
  }

  pub want_stopped : (digest : Option Algorithm) (f : WantFault) → WantsAnswered conf request (Err f) → ExplainsSpecs conf now request digest (Err (fault_of_want f))
  want_stopped digest want.Memory answered = tt
  want_stopped digest want.Absent answered = (answered want.Absent (λ e. absurd (cc e))).only refl
  want_stopped digest want.Malformed answered = (answered want.Malformed (λ e. absurd (cc e))).only refl
  want_stopped digest (want.NotInnerList i) answered = (answered (want.NotInnerList i) (λ e. absurd (cc e))).only refl
  want_stopped digest (want.Ids i g) answered = (answered (want.Ids i g) (λ e. absurd (cc e))).only refl
  want_stopped digest (want.Parameter i) answered = (answered (want.Parameter i) (λ e. absurd (cc e))).only refl
  want_stopped digest (want.AlgRefused i) answered = (answered (want.AlgRefused i) (λ e. absurd (cc e))).only refl
  want_stopped digest (want.AlgUnknown i) answered = (answered (want.AlgUnknown i) (λ e. absurd (cc e))).only refl
  want_stopped digest (want.KeyUnknown i) answered = (answered (want.KeyUnknown i) (λ e. absurd (cc e))).only refl

-- ---- causes one after the other

module _ (conf : Configuration) (now : ℕ) (context : MessageContext) where
  first : (fault : NegotiateFault) → NoneBelow conf now context (negotiate_order fault) → IsNegotiateCause conf now context fault → IsNegotiateFault conf now context fault
  first fault none holds = record { holds = holds; none_before = none }

  -- a first fault that is answered
  pub fault_answered : {T : Type 0} (Holds : T → Type 0) (fault : NegotiateFault) → IsNegotiateFault conf now context fault → ExplainsNegotiate conf now context Holds (Err fault)
  fault_answered Holds Memory is = tt
  fault_answered Holds WishMalformed is = is
  fault_answered Holds Unacceptable is = is
  fault_answered Holds DigestUnmet is = is
  fault_answered Holds (Wanted fault) is = is
  fault_answered Holds (Sign index fault) is = is

  module _ (request : Message) (related : context.related ≡ Some request) where
    of : (Fact : Message → Type 0) → Fact request → OfRequest context Fact
    of Fact holds = some_and Fact context.related request related holds

    not_of : (Fact : Message → Type 0) → ¬ Fact request → ¬ OfRequest context Fact
    not_of Fact not holds = not (some_and_at Fact context.related request related holds)

    below : (n : ℕ) → (2 < n → ¬ IsWishMalformed request) → (3 < n → ¬ IsUnacceptable request) → (4 < n → ¬ IsDigestUnmet context.message request)
        → (5 < n → (fault : WantFault) → ¬ IsWantFault conf request fault) → (6 < n → (index : ℕ) (fault : SignFault) → ¬ IsWishUnsigned conf now context (each.Sign index fault) request)
        → NoneBelow conf now context n
    below n malformed unacceptable unmet wanted unsigned WishMalformed lt = not_of IsWishMalformed (malformed lt)
    below n malformed unacceptable unmet wanted unsigned Unacceptable lt = not_of IsUnacceptable (unacceptable lt)
    below n malformed unacceptable unmet wanted unsigned DigestUnmet lt = not_of (IsDigestUnmet context.message) (unmet lt)
    below n malformed unacceptable unmet wanted unsigned (Wanted fault) lt = not_of (λ r. IsWantFault conf r fault) (wanted lt fault)
    below n malformed unacceptable unmet wanted unsigned (Sign index fault) lt = not_of (IsWishUnsigned conf now context (each.Sign index fault)) (unsigned lt index fault)
    below n malformed unacceptable unmet wanted unsigned Memory lt = λ none. none

    -- ---- the wish for a digest

    is_malformed : IsWishMalformed request → IsNegotiateFault conf now context WishMalformed
    is_malformed bad =
        first WishMalformed
        (below 2 (λ lt. absurd (omega (arith, lt))) (λ lt. absurd (omega (arith, lt))) (λ lt. absurd (omega (arith, lt))) (λ lt. absurd (omega (arith, lt))) (λ lt. absurd (omega (arith, lt))))
        (of IsWishMalformed bad)

    is_unacceptable : ¬ IsWishMalformed request → IsUnacceptable request → IsNegotiateFault conf now context Unacceptable
    is_unacceptable well lacks =
        first Unacceptable (below 3 (λ _. well) (λ lt. absurd (omega (arith, lt))) (λ lt. absurd (omega (arith, lt))) (λ lt. absurd (omega (arith, lt))) (λ lt. absurd (omega (arith, lt))))
        (of IsUnacceptable lacks)

    pub wish_stopped : {T : Type 0} (Holds : T → Type 0) (fault : NegotiateFault) → ExplainsWish request (Err fault) → ExplainsNegotiate conf now context Holds (Err fault)
    wish_stopped Holds Memory is = tt
    wish_stopped Holds WishMalformed is = is_malformed is
    wish_stopped Holds Unacceptable is = is_unacceptable is.1 is.0
    wish_stopped Holds DigestUnmet is = absurd is
    wish_stopped Holds (Wanted fault) is = absurd is
    wish_stopped Holds (Sign index fault) is = absurd is

    module _ (digest : Option Algorithm) (wish : ExplainsWish request (Ok digest)) where
      -- ---- the digests of the response

      is_unmet : (o : Option Algorithm) → IsWishedDigest request o → IsSomeAnd o (HasOtherDigests context.message) → IsDigestUnmet context.message request
      is_unmet (Some algorithm) chosen others = (algorithm, chosen, others)
      is_unmet None none others = absurd others

      is_met : (o : Option Algorithm) → IsWishedDigest request o → IfSome o (λ algorithm. ¬ HasOtherDigests context.message algorithm) → ¬ IsDigestUnmet context.message request
      is_met (Some algorithm) chosen met unmet =
          met (subst (λ (a : Algorithm). HasOtherDigests context.message a) (one_chosen request unmet.0 algorithm unmet.1 chosen) unmet.2)
      is_met None none met unmet = none unmet.1.1.there

      pub digest_stopped : {T : Type 0} (Holds : T → Type 0) (fault : NegotiateFault) → ExplainsDigests context.message digest (Err fault) → ExplainsNegotiate conf now context Holds (Err fault)
      digest_stopped Holds Memory is = tt
      digest_stopped Holds DigestUnmet is =
          first DigestUnmet (below 4 (λ _. wish.1) (λ _. wish.2) (λ lt. absurd (omega (arith, lt))) (λ lt. absurd (omega (arith, lt))) (λ lt. absurd (omega (arith, lt))))
          (of (IsDigestUnmet context.message) (is_unmet digest wish.0 is))
      digest_stopped Holds WishMalformed is = absurd is
      digest_stopped Holds Unacceptable is = absurd is
      digest_stopped Holds (Wanted fault) is = absurd is
      digest_stopped Holds (Sign index fault) is = absurd is

      module _ (met : IfSome digest (λ algorithm. ¬ HasOtherDigests context.message algorithm)) where
        -- ---- the wishes for signatures

        pub specs_stopped : {T : Type 0} (Holds : T → Type 0) (fault : NegotiateFault) → ExplainsSpecs conf now request digest (Err fault) → ExplainsNegotiate conf now context Holds (Err fault)
        specs_stopped Holds Memory is = tt
        specs_stopped Holds (Wanted fault) is =
            first (Wanted fault) (below 5 (λ _. wish.1) (λ _. wish.2) (λ _. is_met digest wish.0 met) (λ lt. absurd (omega (arith, lt))) (λ lt. absurd (omega (arith, lt))))
            (of (λ r. IsWantFault conf r fault) is)
        specs_stopped Holds WishMalformed is = absurd is
        specs_stopped Holds Unacceptable is = absurd is
        specs_stopped Holds DigestUnmet is = absurd is
        specs_stopped Holds (Sign index fault) is = absurd is

        module _ (specs : List SignSpec) (by : AreSpecsBy conf now request digest specs) where
          are_negotiated : AreNegotiated conf now request specs
          are_negotiated = record { wished = by.wished; are = by.are; digest = digest; digest_is = wish.0; specs_are = by.specs_are }

          -- ---- the signatures

          pub each_stopped : {T : Type 0} (Holds : T → Type 0) (fault : EachFault) → (fault ≢ each.Memory → IsEachFault context specs fault) → ExplainsNegotiate conf now context Holds (Err (fault_of_each fault))
          each_stopped Holds each.Memory is = tt
          each_stopped Holds (each.Sign index fault) is =
              first (Sign index fault) (below 6 (λ _. wish.1) (λ _. wish.2) (λ _. is_met digest wish.0 met) (λ _. by.none) (λ lt. absurd (omega (arith, lt))))
              (of (IsWishUnsigned conf now context (each.Sign index fault)) (specs, are_negotiated, is (λ e. absurd (cc e))))

          no_cause : ((fault : EachFault) → ¬ IsEachFault context specs fault) → (fault : NegotiateFault) → ¬ IsNegotiateCause conf now context fault
          no_cause none fault holds = below 7 (λ _. wish.1) (λ _. wish.2) (λ _. is_met digest wish.0 met) (λ _. by.none) (λ _ index f. unsigned index f) fault (below_7 fault holds) holds where
            unsigned : (index : ℕ) (f : SignFault) → ¬ IsWishUnsigned conf now context (each.Sign index f) request
            unsigned index f is =
                none (each.Sign index f)
                (subst (λ (ss : List SignSpec). IsEachFault context ss (each.Sign index f)) (one_negotiated_specs conf now request is.0 specs is.1 are_negotiated) is.2)

            below_7 : (f : NegotiateFault) → IsNegotiateCause conf now context f → negotiate_order f < 7
            below_7 WishMalformed h = lit< tt
            below_7 Unacceptable h = lit< tt
            below_7 DigestUnmet h = lit< tt
            below_7 (Wanted f) h = lit< tt
            below_7 (Sign index f) h = lit< tt
            below_7 Memory h = absurd h

          negotiated : (written : Message) → IsSignedEach context specs written → IsNegotiated conf now context written
          negotiated written is = record { request = request; request_is = related; specs = specs; specs_are = are_negotiated; signed = is }

          pub all_made : (text : List ℕ) → SpellsEach context specs text → IsNegotiatedText conf now context text
          all_made text spells = record {
            spells = (spells.0, negotiated spells.0 spells.1, spells.2);
            none = no_cause (λ fault is. not_both context specs spells.0 fault spells.1 is);
          }

          -- ---- there is an answer

          abbrev pub Answer : Type 0
          Answer =
              ((written : Message) × IsNegotiated conf now context written × ((fault : NegotiateFault) → ¬ IsNegotiateFault conf now context fault))
              ⊎ ((fault : NegotiateFault) × IsNegotiateFault conf now context fault)

          pub by_signatures : Answer
          by_signatures = elim (each_or_fault.either context specs) [
            | inl all ↦ inl (all.0, negotiated all.0 all.1, λ fault is. no_cause (λ f unsigned. not_both context specs all.0 f all.1 unsigned) fault is.holds)
            | inr fault ↦ by_fault fault.0 fault.1
          ]
            where
              by_fault : (f : EachFault) → IsEachFault context specs f → Answer
              by_fault each.Memory is = absurd is
              by_fault (each.Sign index f) is = inr (Sign index f, each_stopped (λ (t : List ℕ). IsNegotiatedText conf now context t) (each.Sign index f) (λ _. is))

    -- ---- no fault, and so no cause

    module _ (none : (fault : NegotiateFault) → ¬ IsNegotiateFault conf now context fault) where
      well_formed : ¬ IsWishMalformed request
      well_formed bad = none WishMalformed (is_malformed bad)

      acceptable : ¬ IsUnacceptable request
      acceptable lacks = none Unacceptable (is_unacceptable well_formed lacks)

      pub digest_met : ¬ IsDigestUnmet context.message request
      digest_met unmet =
          none DigestUnmet
          (first DigestUnmet (below 4 (λ _. well_formed) (λ _. acceptable) (λ lt. absurd (omega (arith, lt))) (λ lt. absurd (omega (arith, lt))) (λ lt. absurd (omega (arith, lt))))
          (of (IsDigestUnmet context.message) unmet))

      pub wishes_met : (fault : WantFault) → ¬ IsWantFault conf request fault
      wishes_met fault is =
          none (Wanted fault)
          (first (Wanted fault) (below 5 (λ _. well_formed) (λ _. acceptable) (λ _. digest_met) (λ lt. absurd (omega (arith, lt))) (λ lt. absurd (omega (arith, lt))))
          (of (λ r. IsWantFault conf r fault) is))

    -- ---- there is an answer

    abbrev pub AnswerOf : Type 0
    AnswerOf =
        ((written : Message) × IsNegotiated conf now context written × ((fault : NegotiateFault) → ¬ IsNegotiateFault conf now context fault))
        ⊎ ((fault : NegotiateFault) × IsNegotiateFault conf now context fault)

    by_wishes : IsSome conf.sign → (digest : Option Algorithm) (wish : ExplainsWish request (Ok digest)) → IfSome digest (λ algorithm. ¬ HasOtherDigests context.message algorithm) → AnswerOf
    by_wishes configured digest wish met = elim (specs_or_fault conf now request configured) [
      | inl specs ↦
          by_signatures digest wish met (map (with_digest_by digest) specs.0)
          (record { wished = specs.0; are = specs.1; specs_are = refl; none = specs.2 })
      | inr fault ↦ inr (Wanted fault.0, specs_stopped digest wish met (λ (t : List ℕ). IsNegotiatedText conf now context t) (Wanted fault.0) fault.1)
    ]

    by_digests : IsSome conf.sign → (digest : Option Algorithm) → ExplainsWish request (Ok digest) → AnswerOf
    by_digests configured None wish = by_wishes configured None wish tt
    by_digests configured (Some algorithm) wish = elim (others_decided context.message algorithm) [
      | inl others ↦ inr (DigestUnmet, digest_stopped (Some algorithm) wish (λ (t : List ℕ). IsNegotiatedText conf now context t) DigestUnmet others)
      | inr none ↦ by_wishes configured (Some algorithm) wish none
    ]

    pub answer_of : IsSome conf.sign → AnswerOf
    answer_of configured = elim (wish_answer request) [
      | inl digest ↦ by_digests configured digest.0 digest.1
      | inr rest ↦ elim rest [
        | inl malformed ↦ inr (WishMalformed, is_malformed malformed)
        | inr unacceptable ↦ inr (Unacceptable, is_unacceptable unacceptable.1 unacceptable.0)
      ]
    ]

  -- ---- the clauses of the call

  pub spells_negotiated : (result : Result (List ℕ) NegotiateFault) → ExplainsNegotiate conf now context (IsNegotiatedText conf now context) result → IfOk result (SpellsNegotiated conf now context)
  spells_negotiated (Ok text) x = x.spells
  spells_negotiated (Err fault) x = tt

  named : (result : Result (List ℕ) NegotiateFault) → ExplainsNegotiate conf now context (IsNegotiatedText conf now context) result → NamesFault Memory (IsNegotiateFault conf now context) result
  named (Ok text) x = λ fault is. x.none fault is.holds
  named (Err Memory) x = λ own. absurd (own refl)
  named (Err WishMalformed) x = λ _. x
  named (Err Unacceptable) x = λ _. x
  named (Err DigestUnmet) x = λ _. x
  named (Err (Wanted fault)) x = λ _. x
  named (Err (Sign index fault)) x = λ _. x

  memory_or_not : IsMemoryDecided Memory
  memory_or_not Memory = inl refl
  memory_or_not WishMalformed = inr (λ e. absurd cc)
  memory_or_not Unacceptable = inr (λ e. absurd cc)
  memory_or_not DigestUnmet = inr (λ e. absurd cc)
  memory_or_not (Wanted fault) = inr (λ e. absurd cc)
  memory_or_not (Sign index fault) = inr (λ e. absurd cc)

  -- the fact of the request that is answered
  of_one : (Fact : Message → Type 0) → OfRequest context Fact → (request : Message) × (context.related ≡ Some request) × Fact request
  of_one Fact holds = some_and_parts Fact context.related holds

  one_want : IsSome conf.sign → (fault other : WantFault) → IsNegotiateCause conf now context (Wanted fault) → IsNegotiateCause conf now context (Wanted other) → fault ≡ other
  one_want configured fault other a b =
      let one = of_one (λ request. IsWantFault conf request fault) a in
      one_want_fault conf one.0 fault other configured one.2 (some_and_at (λ request. IsWantFault conf request other) context.related one.0 one.1 b)

  one_unsigned : (i j : ℕ) (f g : SignFault) → IsNegotiateCause conf now context (Sign i f) → IsNegotiateCause conf now context (Sign j g) → each.Sign i f ≡ each.Sign j g
  one_unsigned i j f g a b =
      let one = of_one (IsWishUnsigned conf now context (each.Sign i f)) a in
      let other = some_and_at (IsWishUnsigned conf now context (each.Sign j g)) context.related one.0 one.1 b in
      let specs = one_negotiated_specs conf now one.0 one.2.0 other.0 one.2.1 other.1 in
      one_each_fault context other.0 (each.Sign i f) (each.Sign j g) (subst (λ (ss : List SignSpec). IsEachFault context ss (each.Sign i f)) specs one.2.2) other.2

  determined : IsSome conf.sign → AreDetermined negotiate_order (IsNegotiateCause conf now context)
  determined configured WishMalformed WishMalformed same a b = refl
  determined configured Unacceptable Unacceptable same a b = refl
  determined configured DigestUnmet DigestUnmet same a b = refl
  determined configured (Wanted f) (Wanted g) same a b = let one = one_want configured f g a b in λ k. Wanted (one k)
  determined configured (Sign i f) (Sign j g) same a b = ap fault_of_each (one_unsigned i j f g a b)
  determined configured Memory g same a b = absurd a
  determined configured f Memory same a b = absurd b
  determined configured f g same a b = absurd (cc same)

  pub one_fault : IsSome conf.sign → (fault other : NegotiateFault) → IsNegotiateFault conf now context fault → IsNegotiateFault conf now context other → fault ≡ other
  one_fault configured fault other = first_is_one negotiate_order (IsNegotiateCause conf now context) (determined configured) fault other

  pub fault_is : IsSome conf.sign → (result : Result (List ℕ) NegotiateFault) → ExplainsNegotiate conf now context (IsNegotiatedText conf now context) result → (fault : NegotiateFault) → fault ≢ Memory
      → AnswersWhere Memory result fault (IsNegotiateFault conf now context fault)
  fault_is configured result x = answers_where Memory memory_or_not (IsNegotiateFault conf now context) result (one_fault configured) (named result x)

-- ---- the laws

pub one_negotiated : HasOneNegotiated
one_negotiated conf now context written other a b =
    let a_is = a.request_is in
    let b_is = b.request_is in
    let request : a.request ≡ b.request = cc (a_is, b_is) in
    let specs : a.specs ≡ b.specs = one_negotiated_specs conf now b.request a.specs b.specs (subst (λ (r : Message). AreNegotiated conf now r a.specs) request a.specs_are) b.specs_are in
    one_signed_each context b.specs written other (subst (λ (ss : List SignSpec). IsSignedEach context ss written) specs a.signed) b.signed

pub one_negotiate_fault : HasOneNegotiateFault
one_negotiate_fault conf now context fault other configured = one_fault conf now context configured fault other

pub negotiated_or_fault : HasNegotiatedOrFault
negotiated_or_fault conf now context configured related = by_request context.related refl related where
  by_request : (o : Option Message) → context.related ≡ o → IsSome o
      → ((written : Message) × IsNegotiated conf now context written × ((fault : NegotiateFault) → ¬ IsNegotiateFault conf now context fault))
      ⊎ ((fault : NegotiateFault) × IsNegotiateFault conf now context fault)
  by_request (Some request) is some = answer_of conf now context request is configured
  by_request None is some = absurd cc
