-- What `negotiate` comes to is one outcome, and some.
use Rattle.std.proofs.Common.{◌≡◌, ◌≢◌, ◌<◌, ℕ, List, length, map, Option, Some, None, Result, Ok, Err, inl, inr, refl, sym, ap, subst, ◌∙◌, lit≤}
use Rattle.std.specs.List.{slice_get}
use Rattle.std.specs.Prelude.{IsSome, IsSomeAnd, option_map}
use Rattle.std.proofs.lemmas.Option.{slice_get-map}
use Rattle.byte_grammar.specs.Causes.{AnswersWhere}
use Rattle.byte_grammar.proofs.Indices.{some_and, some_and_parts}
use Rattle.component_ids.specs.Identifiers.{id_text}
use Rattle.component_ids.specs.declared.id.ComponentId.{ComponentId}
use Rattle.component_ids.specs.declared.params.SigParams.{SigParams}
use Rattle.component_values.specs.Context.{MessageContext, context_with}
use Rattle.component_values.specs.Values.{Lacks as LacksSo}
use Rattle.conf.specs.Configuration.{Configuration}
use Rattle.content_digest.specs.declared.algorithm.Algorithm.{Algorithm}
use Rattle.derived_values.specs.declared.lack.Lack.{Lack}
use Rattle.msg_body.specs.Messages.{Message, message_text}
use Rattle.negotiation.specs.NegotiateCauses.{IsNegotiateCause, IsNegotiateFault, IsWishUnsigned}
use Rattle.negotiation.specs.Negotiated.{SpellsNegotiated, with_digest_by}
use Rattle.negotiation.specs.declared.fault.EachFault.TheVariants as each
use Rattle.negotiation.specs.declared.fault.NegotiateFault.{NegotiateFault}
use Rattle.negotiation.specs.declared.fault.NegotiateFault.TheVariants as nego
use Rattle.signing.specs.SignCauses.{IsSignFault}
use Rattle.signing.specs.WishCauses.{IsWantFault}
use Rattle.signing.specs.Wishes.{AreWished}
use Rattle.signing.specs.Written.{context_with_digest}
use Rattle.signing.specs.declared.fault.SignFault.{SignFault}
use Rattle.signing.specs.declared.fault.SignFault.TheVariants as fault
use Rattle.signing.specs.declared.fault.WantFault.{WantFault}
use Rattle.signing.specs.declared.fault.WantFault.TheVariants as want
use Rattle.signing.specs.declared.spec.SignSpec.{SignSpec}
use Rattle.commands.specs.Laws.{HasOneNegotiation, HasSomeNegotiation}
use Rattle.commands.specs.Negotiate.{IsIdOfWish, IsNegotiateRefused, IsRefusalOf, ReportsNegotiation}
use Rattle.intake.specs.Stops.{IfRefused, IsRefusalFor, stop_of_want}
use Rattle.commands.specs.Outcome.{IfOutcome, ReadsNothing}
use Rattle.commands.specs.declared.outcome.Outcome.{Outcome}
use Rattle.commands.specs.declared.outcome.Outcome.TheVariants.{Done, Refused}
use Rattle.intake.specs.declared.stop.Stop.{Stop}
use Rattle.intake.specs.declared.stop.Stop.TheVariants as ends
use Rattle.commands.specs.tools.Signed.{HasIndexIn, HasPlaceIn, SaysEachFault, SaysSignFault}
use Rattle.refusals.specs.declared.refusal.CommandRefusal.{CommandRefusal}
use Rattle.refusals.specs.declared.refusal.CommandRefusal.TheVariants.{Digest, Lacks, Sign, Wishes}
use Rattle.refusals.specs.declared.refusal.DigestRefusal.TheVariants.{Malformed, Unacceptable, Unmet}
use Rattle.refusals.specs.declared.refusal.Refusal.{Refusal}
use Rattle.refusals.specs.declared.refusal.Refusal.TheVariants.{Command}
use Rattle.commands.proofs.Lacking.{id_there, one_id, said_id}
use Rattle.commands.proofs.LowerNegotiating.{negotiated_or_fault, one_negotiate_fault, one_negotiated}
use Rattle.commands.proofs.LowerSigning.{one_list_of_specs}
use Rattle.commands.proofs.Signing.{WantsAnswered, lack_within}

-- ---- one refusal for a fault

module _ (conf : Configuration) (moment : ℕ) (context : MessageContext) where
  -- a component of a wish has one identifier
  one_id_of_wish : (index place : ℕ) (i k : List ℕ) → IsIdOfWish conf moment context index place i → IsIdOfWish conf moment context index place k → i ≡ k
  one_id_of_wish index place i k a b =
      let request : a.request ≡ b.request = cc (a.request_is, b.request_is) in
      let specs : a.specs ≡ b.specs = one_list_of_specs conf moment b.request a.specs b.specs (subst (λ (m : Message). AreWished conf moment m a.specs) request a.wished) b.wished in
      let at : slice_get b.specs index ≡ Some a.spec = ap (λ (ss : List SignSpec). slice_get ss index) (sym specs) ∙ a.there in
      let spec : b.spec ≡ a.spec = cc (at, b.there) in
      one_id a.spec.params.ids place place i k refl a.id_is (subst (λ (s : SignSpec). IsSomeAnd (slice_get s.params.ids place) (λ lacking. k ≡ id_text lacking)) spec b.id_is)

  one_refusal_of : (f : NegotiateFault) (c d : CommandRefusal) → IsRefusalOf moment conf context f c → IsRefusalOf moment conf context f d → c ≡ d
  one_refusal_of nego.Memory c d a b = absurd a
  one_refusal_of nego.WishMalformed c d a b = a ∙ sym b
  one_refusal_of nego.Unacceptable c d a b = a ∙ sym b
  one_refusal_of nego.DigestUnmet c d a b = a ∙ sym b
  one_refusal_of (nego.Wanted f) c d a b = a ∙ sym b
  one_refusal_of (nego.Sign index fault.Memory) c d a b = a ∙ sym b
  one_refusal_of (nego.Sign index fault.InputMalformed) c d a b = a ∙ sym b
  one_refusal_of (nego.Sign index fault.SignatureMalformed) c d a b = a ∙ sym b
  one_refusal_of (nego.Sign index fault.LabelThere) c d a b = a ∙ sym b
  one_refusal_of (nego.Sign index (fault.SelfCover place)) c d a b = a ∙ sym b
  one_refusal_of (nego.Sign index (fault.TooLong limit)) c d a b = a ∙ sym b
  one_refusal_of (nego.Sign index (fault.Lacks place lack)) c d a b =
      a.2 ∙ (ap (λ (id : List ℕ). Lacks lack id) (one_id_of_wish index place a.0 b.0 a.1 b.1) ∙ sym b.2)

  one_refused : IsSome conf.sign → (c d : CommandRefusal) → IsNegotiateRefused moment conf context c → IsNegotiateRefused moment conf context d → c ≡ d
  one_refused configured c d a b =
      let same : a.0 ≡ b.0 = one_negotiate_fault conf moment context a.0 b.0 configured a.1 b.1 in
      one_refusal_of b.0 c d (subst (λ (f : NegotiateFault). IsRefusalOf moment conf context f c) same a.2) b.2

  -- ---- a wish whose signature isn't made

  same_params : (digest : Option Algorithm) (spec : SignSpec) → (with_digest_by digest spec).params ≡ spec.params
  same_params None spec = refl
  same_params (Some algorithm) spec = refl

  -- the signature isn't made, and this is what was wished
  pub record IsUnmade (index : ℕ) (f : SignFault) (request : Message) (specs : List SignSpec) : Type 0 where
    pub spec : SignSpec
    pub there : slice_get specs index ≡ Some spec
    pub digest : Option Algorithm
    pub over : MessageContext
    pub is : IsSignFault over (with_digest_by digest spec) f

  -- the request is known, and so is what it wishes
  request_of : (index : ℕ) (f : SignFault) → IsNegotiateFault conf moment context (nego.Sign index f)
      → (request : Message) × (context.related ≡ Some request) × IsWishUnsigned conf moment context (each.Sign index f) request
  request_of index f is = some_and_parts (λ (request : Message). IsWishUnsigned conf moment context (each.Sign index f) request) context.related is.holds

  of_map : (digest : Option Algorithm) (o : Option SignSpec) (P : SignSpec → Type 0) → IsSomeAnd (option_map (with_digest_by digest) o) P → (spec : SignSpec) × (o ≡ Some spec) × P (with_digest_by digest spec)
  of_map digest None P there = absurd there
  of_map digest (Some spec) P there = (spec, refl, there)

  unmade : (index : ℕ) (f : SignFault) (request : Message) (specs : List SignSpec) → AreWished conf moment request specs → IsWishUnsigned conf moment context (each.Sign index f) request → IsUnmade index f request specs
  unmade index f request specs wished unsigned =
      let are = unsigned.1 in
      let at = unsigned.2 in
      let same : are.wished ≡ specs = one_list_of_specs conf moment request are.wished specs are.are wished in
      let mapped : slice_get unsigned.0 index ≡ option_map (with_digest_by are.digest) (slice_get specs index) =
      ap (λ (ss : List SignSpec). slice_get ss index) (are.specs_are ∙ ap (λ (ss : List SignSpec). map (with_digest_by are.digest) ss) same) ∙ slice_get-map (with_digest_by are.digest) specs index in
      let over = context_with context at.before in
      let spec = of_map are.digest (slice_get specs index) (λ (s : SignSpec). IsSignFault over s f)
      (subst (λ (o : Option SignSpec). IsSomeAnd o (λ s. IsSignFault over s f)) mapped at.there) in
      record { spec = spec.0; there = spec.1; digest = are.digest; over = over; is = spec.2 }

  -- a component that lacks a value is one of the wish
  pub index_below : (index : ℕ) (f : SignFault) (request : Message) (specs : List SignSpec) (m : IsUnmade index f request specs) → HasIndexIn (length m.spec.params.ids) f
  index_below index (fault.Lacks place lack) request specs m =
      subst (λ (params : SigParams). place < length params.ids) (same_params m.digest m.spec) (lack_within _ (with_digest_by m.digest m.spec).params.ids place lack m.is.holds)
  index_below index fault.Memory request specs m = tt
  index_below index fault.InputMalformed request specs m = tt
  index_below index fault.SignatureMalformed request specs m = tt
  index_below index fault.LabelThere request specs m = tt
  index_below index (fault.SelfCover place) request specs m = tt
  index_below index (fault.TooLong limit) request specs m = tt

  -- it has an identifier
  id_of_wish : (index place : ℕ) (lack : Lack) (request : Message) (specs : List SignSpec) → context.related ≡ Some request → AreWished conf moment request specs → IsUnmade index (fault.Lacks place lack) request specs
      → (id : List ℕ) × IsIdOfWish conf moment context index place id
  id_of_wish index place lack request specs related wished m =
      let changed = with_digest_by m.digest m.spec in
      let id = id_there (λ (lacking : ComponentId). LacksSo (context_with_digest m.over changed.digest) lacking lack) changed.params.ids place m.is.holds.there in (
        id.0,
        record {
          request = request;
          request_is = related;
          specs = specs;
          wished = wished;
          spec = m.spec;
          there = m.there;
          id_is = subst (λ (params : SigParams). IsSomeAnd (slice_get params.ids place) (λ lacking. id.0 ≡ id_text lacking)) (same_params m.digest m.spec) id.1;
        },
      )

  refusal_for : (f : NegotiateFault) → IsNegotiateFault conf moment context f → (c : CommandRefusal) × IsRefusalOf moment conf context f c
  refusal_for nego.Memory is = absurd is.holds
  refusal_for nego.WishMalformed is = (Digest Malformed, refl)
  refusal_for nego.Unacceptable is = (Digest Unacceptable, refl)
  refusal_for nego.DigestUnmet is = (Digest Unmet, refl)
  refusal_for (nego.Wanted f) is = (Wishes f, refl)
  refusal_for (nego.Sign index fault.Memory) is = (Sign fault.Memory, refl)
  refusal_for (nego.Sign index fault.InputMalformed) is = (Sign fault.InputMalformed, refl)
  refusal_for (nego.Sign index fault.SignatureMalformed) is = (Sign fault.SignatureMalformed, refl)
  refusal_for (nego.Sign index fault.LabelThere) is = (Sign fault.LabelThere, refl)
  refusal_for (nego.Sign index (fault.SelfCover place)) is = (Sign (fault.SelfCover place), refl)
  refusal_for (nego.Sign index (fault.TooLong limit)) is = (Sign (fault.TooLong limit), refl)
  refusal_for (nego.Sign index (fault.Lacks place lack)) is =
      let known = request_of index (fault.Lacks place lack) is in
      let are = known.2.1 in
      let id = id_of_wish index place lack known.0 are.wished known.1 are.are (unmade index (fault.Lacks place lack) known.0 are.wished are.are known.2) in
      (Lacks lack id.0, (id.0, id.1, refl))

  -- ---- a stop that says the fault

  -- the wishes are read again without a fault but out of memory
  pub again_memory : (index : ℕ) (f : SignFault) (request : Message) (w : WantFault) → context.related ≡ Some request → IsNegotiateFault conf moment context (nego.Sign index f) → WantsAnswered conf request (Err w)
      → w ≡ want.Memory
  again_memory index f request w related is answered = of_fault w answered
    where
      -- there is none that is judged before
      none : (g : WantFault) → ¬ IsWantFault conf request g
      none g wants = is.none_before (nego.Wanted g) (lit≤ tt) (rw related wants)

      of_fault : (g : WantFault) → WantsAnswered conf request (Err g) → g ≡ want.Memory
      of_fault want.Memory known = refl
      of_fault want.Absent known = absurd (none want.Absent ((known want.Absent (λ e. absurd (cc e))).only refl))
      of_fault want.Malformed known = absurd (none want.Malformed ((known want.Malformed (λ e. absurd (cc e))).only refl))
      of_fault (want.NotInnerList i) known = absurd (none (want.NotInnerList i) ((known (want.NotInnerList i) (λ e. absurd (cc e))).only refl))
      of_fault (want.Ids i g) known = absurd (none (want.Ids i g) ((known (want.Ids i g) (λ e. absurd (cc e))).only refl))
      of_fault (want.Parameter i) known = absurd (none (want.Parameter i) ((known (want.Parameter i) (λ e. absurd (cc e))).only refl))
      of_fault (want.AlgRefused i) known = absurd (none (want.AlgRefused i) ((known (want.AlgRefused i) (λ e. absurd (cc e))).only refl))
      of_fault (want.AlgUnknown i) known = absurd (none (want.AlgUnknown i) ((known (want.AlgUnknown i) (λ e. absurd (cc e))).only refl))
      of_fault (want.KeyUnknown i) known = absurd (none (want.KeyUnknown i) ((known (want.KeyUnknown i) (λ e. absurd (cc e))).only refl))

  module _ (index : ℕ) (f : SignFault) (request : Message) (specs : List SignSpec) (is : IsNegotiateFault conf moment context (nego.Sign index f)) (related : context.related ≡ Some request)
      (wished : AreWished conf moment request specs) where
    -- the wish is there
    pub met : IsUnmade index f request specs
    met =
        let known = request_of index f is in
        let same : known.0 ≡ request = cc (known.1, related) in
        unmade index f request specs wished (subst (λ (m : Message). IsWishUnsigned conf moment context (each.Sign index f) m) same known.2)

    pub has_place : HasPlaceIn specs (each.Sign index f)
    has_place =
        let wish = met in
        some_and (λ (s : SignSpec). HasIndexIn (length s.params.ids) f) (slice_get specs index) wish.spec wish.there (index_below index f request specs wish)

  -- a stop that says the fault of a wish refuses the command
  says_refused : (index : ℕ) (f : SignFault) (request : Message) (specs : List SignSpec) (spec : SignSpec) (stop : Stop) → IsNegotiateFault conf moment context (nego.Sign index f)
      → context.related ≡ Some request → AreWished conf moment request specs → slice_get specs index ≡ Some spec → SaysSignFault spec.params.ids f stop
      → IfRefused stop (IsRefusalFor (IsNegotiateRefused moment conf context) Command)
  says_refused index fault.Memory request specs spec stop is related wished there says = rw says tt
  says_refused index fault.InputMalformed request specs spec stop is related wished there says = rw says (Sign fault.InputMalformed, (nego.Sign index fault.InputMalformed, is, refl), refl)
  says_refused index fault.SignatureMalformed request specs spec stop is related wished there says = rw says (Sign fault.SignatureMalformed, (nego.Sign index fault.SignatureMalformed, is, refl), refl)
  says_refused index fault.LabelThere request specs spec stop is related wished there says = rw says (Sign fault.LabelThere, (nego.Sign index fault.LabelThere, is, refl), refl)
  says_refused index (fault.SelfCover place) request specs spec stop is related wished there says = rw says (Sign (fault.SelfCover place), (nego.Sign index (fault.SelfCover place), is, refl), refl)
  says_refused index (fault.TooLong limit) request specs spec stop is related wished there says = rw says (Sign (fault.TooLong limit), (nego.Sign index (fault.TooLong limit), is, refl), refl)
  says_refused index (fault.Lacks place lack) request specs spec stop is related wished there (inl memory) = rw memory tt
  says_refused index (fault.Lacks place lack) request specs spec stop is related wished there (inr says) =
      let id = said_id spec.params.ids place lack stop says in
      rw id.2 (
        Lacks lack id.0,
        (
          nego.Sign index (fault.Lacks place lack),
          is,
          (
            id.0,
            record { request = request; request_is = related; specs = specs; wished = wished; spec = spec; there = there; id_is = id.1 },
            refl,
          ),
        ),
        refl,
      )

  pub wish_stopped : (index : ℕ) (f : SignFault) (request : Message) (specs : List SignSpec) (stop : Stop) → IsNegotiateFault conf moment context (nego.Sign index f) → context.related ≡ Some request → AreWished conf moment request specs
      → SaysEachFault specs (each.Sign index f) stop → IfRefused stop (IsRefusalFor (IsNegotiateRefused moment conf context) Command)
  wish_stopped index f request specs stop is related wished says =
      let spec = some_and_parts (λ (s : SignSpec). SaysSignFault s.params.ids f stop) (slice_get specs index) says in
      says_refused index f request specs spec.0 stop is related wished spec.1 spec.2

  -- and so does one for the wishes
  pub want_stopped : (w : WantFault) → IsNegotiateFault conf moment context (nego.Wanted w) → IfRefused (stop_of_want w) (IsRefusalFor (IsNegotiateRefused moment conf context) Command)
  want_stopped want.Memory is = tt
  want_stopped want.Absent is = (Wishes want.Absent, (nego.Wanted want.Absent, is, refl), refl)
  want_stopped want.Malformed is = (Wishes want.Malformed, (nego.Wanted want.Malformed, is, refl), refl)
  want_stopped (want.NotInnerList i) is = (Wishes (want.NotInnerList i), (nego.Wanted (want.NotInnerList i), is, refl), refl)
  want_stopped (want.Ids i g) is = (Wishes (want.Ids i g), (nego.Wanted (want.Ids i g), is, refl), refl)
  want_stopped (want.Parameter i) is = (Wishes (want.Parameter i), (nego.Wanted (want.Parameter i), is, refl), refl)
  want_stopped (want.AlgRefused i) is = (Wishes (want.AlgRefused i), (nego.Wanted (want.AlgRefused i), is, refl), refl)
  want_stopped (want.AlgUnknown i) is = (Wishes (want.AlgUnknown i), (nego.Wanted (want.AlgUnknown i), is, refl), refl)
  want_stopped (want.KeyUnknown i) is = (Wishes (want.KeyUnknown i), (nego.Wanted (want.KeyUnknown i), is, refl), refl)

  -- ---- what the command comes to

  -- what is known of the answer, by the contract of what signs
  abbrev pub NegotiationAnswered : Result (List ℕ) NegotiateFault → Type 0
  NegotiationAnswered result =
      (f : NegotiateFault) → f ≢ nego.Memory → AnswersWhere nego.Memory result f (IsNegotiateFault conf moment context f)

  no_fault_made : (text : List ℕ) → NegotiationAnswered (Ok text) → (f : NegotiateFault) → ¬ IsNegotiateFault conf moment context f
  no_fault_made text answered f is =
      let known : f ≢ nego.Memory = λ e. subst (λ (g : NegotiateFault). IsNegotiateCause conf moment context g) e is.holds in
      elim ((answered f known).there is) [
        | inl e ↦ absurd (cc e)
        | inr e ↦ absurd (cc e)
      ]

  pub negotiated : (text : List ℕ) → SpellsNegotiated conf moment context text → NegotiationAnswered (Ok text) → ReportsNegotiation moment conf context (Done text)
  negotiated text spells answered =
      inl (spells.0, record { made = spells.1; none = no_fault_made text answered }, ap (λ (t : List ℕ). Done t) spells.2.text)

  pub stop_reported : (stop : Stop) → IfRefused stop (IsRefusalFor (IsNegotiateRefused moment conf context) Command) → IfOutcome (Err stop) (ReportsNegotiation moment conf context)
  stop_reported ends.Memory is = tt
  stop_reported ends.ReadFault is = tt
  stop_reported (ends.Refused refusal) is = inr (is.0, is.1, ap (λ (r : Refusal). Refused r) is.2)

  pub stopped_quietly : (stop : Stop) → IfRefused stop (IsRefusalFor (IsNegotiateRefused moment conf context) Command) → ReadsNothing (Err stop)
  stopped_quietly ends.Memory is = tt
  stopped_quietly ends.ReadFault is = is
  stopped_quietly (ends.Refused refusal) is = tt

  -- ---- one outcome, and some

  one_of : IsSome conf.sign → (one other : Outcome) → ReportsNegotiation moment conf context one → ReportsNegotiation moment conf context other → one ≡ other
  one_of configured one other (inl a) (inl b) =
      a.2 ∙ (ap (λ (m : Message). Done (message_text m)) (one_negotiated conf moment context a.0 b.0 a.1.made b.1.made) ∙ sym b.2)
  one_of configured one other (inl a) (inr b) = absurd (a.1.none b.1.0 b.1.1)
  one_of configured one other (inr a) (inl b) = absurd (b.1.none a.1.0 a.1.1)
  one_of configured one other (inr a) (inr b) = a.2 ∙ (ap (λ (c : CommandRefusal). Refused (Command c)) (one_refused configured a.0 b.0 a.1 b.1) ∙ sym b.2)

  some_of : IsSome conf.sign → IsSome context.related → (outcome : Outcome) × ReportsNegotiation moment conf context outcome
  some_of configured requested = elim (negotiated_or_fault conf moment context configured requested) [
    | inl made ↦ (Done (message_text made.0), inl (made.0, record { made = made.1; none = made.2 }, refl))
    | inr f ↦ let cause = refusal_for f.0 f.1 in (Refused (Command cause.0), inr (cause.0, (f.0, f.1, cause.1), refl))
  ]

pub one_negotiation : HasOneNegotiation
one_negotiation moment conf context one other configured a b = one_of conf moment context configured one other a b

pub some_negotiation : HasSomeNegotiation
some_negotiation moment conf context configured requested = some_of conf moment context configured requested
