-- A signed message, or the refusal for which there is none; and messages with more than one signature.
use Rattle.std.proofs.Common.{◌≢◌, ◌<◌, ℕ, zero, suc, List, [], ◌∷◌, length, Option, Some, None, Result, Ok, Err, refl, sym, ap, subst, inl, inr}
use Rattle.std.specs.List.{slice_get}
use Rattle.std.specs.Prelude.{IsSomeAnd}
use Rattle.std.proofs.lemmas.Option.{slice_get_within}
use Rattle.byte_grammar.specs.Causes.{AnswersWhere}
use Rattle.byte_grammar.proofs.Indices.{some_and, some_and_parts}
use Rattle.msg_body.specs.Messages.{Message, message_text}
use Rattle.negotiation.specs.Each.{IsEachFault, IsSignedEach, IsUnsignedAt, SpellsEach}
use Rattle.negotiation.specs.declared.fault.EachFault.{EachFault}
use Rattle.negotiation.specs.declared.fault.EachFault.TheVariants as each
use Rattle.component_ids.specs.declared.id.ComponentId.{ComponentId}
use Rattle.component_values.specs.Context.{MessageContext, context_with}
use Rattle.component_values.specs.Values.{IsFirstLack, Lacks as LacksSo}
use Rattle.derived_values.specs.declared.lack.Lack.{Lack}
use Rattle.framing.specs.Framings.{is_request}
use Rattle.signing.specs.Asked.{IsSpecOf}
use Rattle.signing.specs.SignCauses.{IsSignCause, IsSignFault}
use Rattle.signing.specs.Signed.{SpellsSigned}
use Rattle.signing.specs.WishCauses.{IsWantCause, IsWantFault}
use Rattle.signing.specs.Wishes.{AreWished}
use Rattle.conf.specs.Configuration.{Configuration}
use Rattle.signing.specs.declared.fault.WantFault.{WantFault}
use Rattle.signing.specs.declared.fault.WantFault.TheVariants as want
use Rattle.signing.specs.declared.fault.SignFault.{SignFault}
use Rattle.signing.specs.declared.fault.SignFault.TheVariants as fault
use Rattle.signing.specs.declared.spec.SignSpec.{SignSpec}
use Rattle.commands.proofs.Lacking.{said_id}
use Rattle.commands.specs.Sign.{AreWishesRefused, IsSignRefused, ReportsEach, ReportsSign, ReportsWished}
use Rattle.intake.specs.Stops.{IfRefused, IsRefusalFor, stop_of_want}
use Rattle.commands.specs.Outcome.{IfOutcome, ReadsNothing}
use Rattle.commands.specs.declared.outcome.Outcome.{Outcome}
use Rattle.commands.specs.declared.outcome.Outcome.TheVariants.{Done, Refused}
use Rattle.intake.specs.declared.stop.Stop.{Stop}
use Rattle.intake.specs.declared.stop.Stop.TheVariants as ends
use Rattle.commands.specs.tools.Signed.{HasIndexIn, HasPlaceIn, IsSignedText, SaysEachFault, SaysSignFault}
use Rattle.refusals.specs.declared.refusal.CommandRefusal.{CommandRefusal}
use Rattle.refusals.specs.declared.refusal.CommandRefusal.TheVariants.{Syntax, Ids, Lacks, Sign, Wishes, NotTaken, Explain, ToMessage, FromMessage, Digest}
use Rattle.refusals.specs.declared.refusal.Refusal.{Refusal}
use Rattle.refusals.specs.declared.refusal.Refusal.TheVariants.{Command}

-- what is known of the answer, by the contract of what signs
abbrev pub IsAnswered : MessageContext → SignSpec → Result (List ℕ) SignFault → Type 0
IsAnswered context spec result =
    (f : SignFault) → f ≢ fault.Memory → AnswersWhere fault.Memory result f (IsSignFault context spec f)

-- a component that lacks a value is one of them
pub lack_within : (context : MessageContext) (ids : List ComponentId) (index : ℕ) (lack : Lack) → IsFirstLack context ids index lack → index < length ids
lack_within context ids index lack first =
    let there = some_and_parts (λ (id : ComponentId). LacksSo context id lack) (slice_get ids index) first.there in
    slice_get_within ids index there.0 there.1

pub index_in : (context : MessageContext) (spec : SignSpec) (f : SignFault) → IsAnswered context spec (Err f) → HasIndexIn (length spec.params.ids) f
index_in context spec (fault.Lacks index lack) answered =
    let first = (answered (fault.Lacks index lack) (λ e. absurd (cc e))).only refl in
    lack_within _ spec.params.ids index lack first.holds
index_in context spec fault.Memory answered = tt
index_in context spec fault.InputMalformed answered = tt
index_in context spec fault.SignatureMalformed answered = tt
index_in context spec fault.LabelThere answered = tt
index_in context spec (fault.SelfCover index) answered = tt
index_in context spec (fault.TooLong limit) answered = tt

module _ (context : MessageContext) (spec : SignSpec) where
  lack_stopped : (index : ℕ) (lack : Lack) (stop : Stop) → IsSignFault context spec (fault.Lacks index lack) → SaysSignFault spec.params.ids (fault.Lacks index lack) stop
      → IfRefused stop (IsRefusalFor (IsSignRefused context spec) Command)
  lack_stopped index lack stop first (inl memory) = rw memory tt
  lack_stopped index lack stop first (inr says) =
      let id = said_id spec.params.ids index lack stop says in
      rw id.2 (Lacks lack id.0, (index, first, id.1), refl)

  -- a stop that says a fault refuses the command
  pub fault_stopped : (f : SignFault) (stop : Stop) → IsSignFault context spec f → SaysSignFault spec.params.ids f stop → IfRefused stop (IsRefusalFor (IsSignRefused context spec) Command)
  fault_stopped fault.Memory stop is says = rw says tt
  fault_stopped fault.InputMalformed stop is says = rw says (Sign fault.InputMalformed, is, refl)
  fault_stopped fault.SignatureMalformed stop is says = rw says (Sign fault.SignatureMalformed, is, refl)
  fault_stopped fault.LabelThere stop is says = rw says (Sign fault.LabelThere, is, refl)
  fault_stopped (fault.SelfCover index) stop is says = rw says (Sign (fault.SelfCover index), is, refl)
  fault_stopped (fault.TooLong limit) stop is says = rw says (Sign (fault.TooLong limit), is, refl)
  fault_stopped (fault.Lacks index lack) stop is says = lack_stopped index lack stop is says

  -- the same of an answer
  pub sign_stopped : (f : SignFault) (stop : Stop) → IsAnswered context spec (Err f) → SaysSignFault spec.params.ids f stop
      → IfRefused stop (IsRefusalFor (IsSignRefused context spec) Command)
  sign_stopped fault.Memory stop answered says = rw says tt
  sign_stopped fault.InputMalformed stop answered says = fault_stopped fault.InputMalformed stop ((answered fault.InputMalformed (λ e. absurd (cc e))).only refl) says
  sign_stopped fault.SignatureMalformed stop answered says = fault_stopped fault.SignatureMalformed stop ((answered fault.SignatureMalformed (λ e. absurd (cc e))).only refl) says
  sign_stopped fault.LabelThere stop answered says = fault_stopped fault.LabelThere stop ((answered fault.LabelThere (λ e. absurd (cc e))).only refl) says
  sign_stopped (fault.SelfCover index) stop answered says = fault_stopped (fault.SelfCover index) stop ((answered (fault.SelfCover index) (λ e. absurd (cc e))).only refl) says
  sign_stopped (fault.TooLong limit) stop answered says = fault_stopped (fault.TooLong limit) stop ((answered (fault.TooLong limit) (λ e. absurd (cc e))).only refl) says
  sign_stopped (fault.Lacks index lack) stop answered says = fault_stopped (fault.Lacks index lack) stop ((answered (fault.Lacks index lack) (λ e. absurd (cc e))).only refl) says

  -- ---- no refusal

  -- what a refusal for a fault says of the fault
  pub said : (f : SignFault) → IsSignRefused context spec (Sign f) → IsSignFault context spec f
  said fault.Memory is = is
  said fault.InputMalformed is = is
  said fault.SignatureMalformed is = is
  said fault.LabelThere is = is
  said (fault.SelfCover index) is = is
  said (fault.TooLong limit) is = is
  said (fault.Lacks index lack) is = absurd is

  -- the fault of a refusal
  pub fault_of : (cause : CommandRefusal) → IsSignRefused context spec cause → (f : SignFault) × IsSignFault context spec f
  fault_of (Syntax offset) is = absurd is
  fault_of (Ids f) is = absurd is
  fault_of (Wishes f) is = absurd is
  fault_of (NotTaken f) is = absurd is
  fault_of (Explain f) is = absurd is
  fault_of (ToMessage f) is = absurd is
  fault_of (FromMessage f) is = absurd is
  fault_of (Digest c) is = absurd is
  fault_of (Lacks lack id) is = (fault.Lacks is.0 lack, is.1)
  fault_of (Sign f) is = (f, said f is)

  -- a text that was made has no fault
  no_fault_made : (text : List ℕ) → IsAnswered context spec (Ok text) → (f : SignFault) → ¬ IsSignFault context spec f
  no_fault_made text answered f is =
      let known : f ≢ fault.Memory = λ e. subst (λ (g : SignFault). IsSignCause context spec g) e is.holds in
      elim ((answered f known).there is) [
        | inl e ↦ absurd (cc e)
        | inr e ↦ absurd (cc e)
      ]

  none_refused : (text : List ℕ) → IsAnswered context spec (Ok text) → (cause : CommandRefusal) → ¬ IsSignRefused context spec cause
  none_refused text answered cause refused = let first = fault_of cause refused in no_fault_made text answered first.0 first.1

  pub signed_made : (text : List ℕ) → SpellsSigned context spec text → IsAnswered context spec (Ok text) → IsSignedText context spec text
  signed_made text spells answered = record {
    written = spells.0;
    spells = spells.2;
    is = record { made = spells.1; none = none_refused text answered };
  }

  -- what comes of one signature
  pub text_reported : (text : List ℕ) → IsSignedText context spec text → ReportsEach context (spec ∷ []) (Done text)
  text_reported text made = inl (made.written, made.is, ap (λ (t : List ℕ). Done t) made.spells.text)

  pub stop_reported : (specs : List SignSpec) (stop : Stop) → IfRefused stop (IsRefusalFor (IsSignRefused context spec) Command) → IfOutcome (Err stop) (ReportsEach context (spec ∷ specs))
  stop_reported specs ends.Memory is = tt
  stop_reported specs ends.ReadFault is = tt
  stop_reported specs (ends.Refused refusal) is = inr (is.0, is.1, ap (λ (r : Refusal). Refused r) is.2)

  pub stopped_quietly : (stop : Stop) → IfRefused stop (IsRefusalFor (IsSignRefused context spec) Command) → ReadsNothing (Err stop)
  stopped_quietly ends.Memory is = tt
  stopped_quietly ends.ReadFault is = is
  stopped_quietly (ends.Refused refusal) is = tt

-- what an outcome says says more
pub says_more : (P Q : Outcome → Type 0) (result : Result Outcome Stop) → ((outcome : Outcome) → P outcome → Q outcome) → IfOutcome result P → IfOutcome result Q
says_more P Q (Ok outcome) more is = more outcome is
says_more P Q (Err ends.Memory) more is = tt
says_more P Q (Err ends.ReadFault) more is = tt
says_more P Q (Err (ends.Refused refusal)) more is = more (Refused refusal) is

-- ---- the signature that a configuration asks for

module _ (value : Option (List ℕ)) (moment : ℕ) (conf : Configuration) (context : MessageContext) (spec : SignSpec) (is : IsSpecOf conf (is_request context.message.head.start) moment value spec) where
  pub asked : (result : Result Outcome Stop) → IfOutcome result (ReportsEach context (spec ∷ [])) → IfOutcome result (ReportsSign value moment conf context)
  asked result = says_more (ReportsEach context (spec ∷ [])) (ReportsSign value moment conf context) result (λ outcome reports. record { spec = spec; is = is; reports = reports })

-- ---- more than one

-- what is known of the answer, by the contract of what signs each
abbrev pub EachAnswered : MessageContext → List SignSpec → Result (List ℕ) EachFault → Type 0
EachAnswered context specs result =
    (f : EachFault) → f ≢ each.Memory → AnswersWhere each.Memory result f (IsEachFault context specs f)

-- a component that lacks a value is one of its signature
pub index_of : (context : MessageContext) (spec : SignSpec) (f : SignFault) → IsSignFault context spec f → HasIndexIn (length spec.params.ids) f
index_of context spec (fault.Lacks index lack) is = lack_within _ spec.params.ids index lack is.holds
index_of context spec fault.Memory is = tt
index_of context spec fault.InputMalformed is = tt
index_of context spec fault.SignatureMalformed is = tt
index_of context spec fault.LabelThere is = tt
index_of context spec (fault.SelfCover index) is = tt
index_of context spec (fault.TooLong limit) is = tt

-- a signature that isn't made is one of them
pub place_in : (context : MessageContext) (specs : List SignSpec) (f : EachFault) → EachAnswered context specs (Err f) → HasPlaceIn specs f
place_in context specs each.Memory answered = tt
place_in context specs (each.Sign index f) answered =
    let at = (answered (each.Sign index f) (λ e. absurd (cc e))).only refl in
    let over = context_with context at.before in
    let spec = some_and_parts (λ (s : SignSpec). IsSignFault over s f) (slice_get specs index) at.there in
    some_and (λ (s : SignSpec). HasIndexIn (length s.params.ids) f) (slice_get specs index) spec.0 spec.1 (index_of over spec.0 f spec.2)

-- a message that has them all has them without a refusal
each_made : (specs : List SignSpec) (context : MessageContext) (written : Message) → IsSignedEach context specs written → ReportsEach context specs (Done (message_text written))
each_made [] context written is = ap (λ (m : Message). Done (message_text m)) is
each_made (spec ∷ specs) context written (signed, faultless, rest) =
    inl (signed, record { made = faultless.signed; none = λ cause refused. let f = fault_of context spec cause refused in faultless.none f.0 f.1 }, each_made specs (context_with context signed) written rest)

pub each_reported : (specs : List SignSpec) (context : MessageContext) (text : List ℕ) → SpellsEach context specs text → ReportsEach context specs (Done text)
each_reported specs context text spells =
    subst (λ (t : List ℕ). ReportsEach context specs (Done t)) (sym spells.2.text) (each_made specs context spells.0 spells.1)

-- a stop that says the fault of one of them refuses the command
unsigned_at : (specs : List SignSpec) (context : MessageContext) (index : ℕ) (f : SignFault) (stop : Stop) → IsUnsignedAt context specs index f → SaysEachFault specs (each.Sign index f) stop
    → IfOutcome (Err stop) (ReportsEach context specs)
unsigned_at [] context index f stop at says = absurd at.there
unsigned_at (spec ∷ specs) context zero f stop at says =
    stop_reported context spec specs stop (fault_stopped context spec f stop (subst (λ (m : Message). IsSignFault (context_with context m) spec f) at.signed at.there) says)
unsigned_at (spec ∷ specs) context (suc index) f stop at says =
    let first = at.signed in
    says_more (ReportsEach (context_with context first.0) specs) (ReportsEach context (spec ∷ specs)) (Err stop)
    (λ outcome reports. inl (first.0, record { made = first.1.signed; none = λ cause refused. let g = fault_of context spec cause refused in first.1.none g.0 g.1 }, reports))
    (unsigned_at specs (context_with context first.0) index f stop (record { before = at.before; signed = first.2; there = at.there }) says)

pub each_stopped : (specs : List SignSpec) (context : MessageContext) (f : EachFault) (stop : Stop) → EachAnswered context specs (Err f) → SaysEachFault specs f stop → IfOutcome (Err stop) (ReportsEach context specs)
each_stopped specs context each.Memory stop answered says = rw says tt
each_stopped specs context (each.Sign index f) stop answered says = unsigned_at specs context index f stop ((answered (each.Sign index f) (λ e. absurd (cc e))).only refl) says

pub each_quietly : (specs : List SignSpec) (f : EachFault) (stop : Stop) → SaysEachFault specs f stop → ReadsNothing (Err stop)
each_quietly specs each.Memory stop says = rw says tt
each_quietly specs (each.Sign index f) stop says = said_quietly (slice_get specs index) f stop says
  where
    said_of : (ids : List ComponentId) (g : SignFault) (s : Stop) → SaysSignFault ids g s → ReadsNothing (Err s)
    said_of ids fault.Memory s is = rw is tt
    said_of ids fault.InputMalformed s is = rw is tt
    said_of ids fault.SignatureMalformed s is = rw is tt
    said_of ids fault.LabelThere s is = rw is tt
    said_of ids (fault.SelfCover place) s is = rw is tt
    said_of ids (fault.TooLong limit) s is = rw is tt
    said_of ids (fault.Lacks place lack) s (inl memory) = rw memory tt
    said_of ids (fault.Lacks place lack) s (inr is) = let id = said_id ids place lack s is in rw id.2 tt

    said_quietly : (o : Option SignSpec) (g : SignFault) (s : Stop) → IsSomeAnd o (λ spec. SaysSignFault spec.params.ids g s) → ReadsNothing (Err s)
    said_quietly None g s is = absurd is
    said_quietly (Some spec) g s is = said_of spec.params.ids g s is

-- ---- what a message wishes

-- what is known of the answer, by the contract of what reads the wishes
abbrev pub WantsAnswered : Configuration → Message → Result (List SignSpec) WantFault → Type 0
WantsAnswered conf message result =
    (f : WantFault) → f ≢ want.Memory → AnswersWhere want.Memory result f (IsWantFault conf message f)

module _ (conf : Configuration) (moment : ℕ) (message : Message) (context : MessageContext) where
  refused_for : (f : WantFault) → f ≢ want.Memory → WantsAnswered conf message (Err f) → ReportsWished moment conf message context (Refused (Command (Wishes f)))
  refused_for f known answered = inr (Wishes f, (answered f known).only refl, refl)

  -- a stop for a fault
  pub want_stopped : (f : WantFault) → WantsAnswered conf message (Err f) → IfOutcome (Err (stop_of_want f)) (ReportsWished moment conf message context)
  want_stopped want.Memory answered = tt
  want_stopped want.Absent answered = refused_for want.Absent (λ e. absurd (cc e)) answered
  want_stopped want.Malformed answered = refused_for want.Malformed (λ e. absurd (cc e)) answered
  want_stopped (want.NotInnerList i) answered = refused_for (want.NotInnerList i) (λ e. absurd (cc e)) answered
  want_stopped (want.Ids i f) answered = refused_for (want.Ids i f) (λ e. absurd (cc e)) answered
  want_stopped (want.Parameter i) answered = refused_for (want.Parameter i) (λ e. absurd (cc e)) answered
  want_stopped (want.AlgRefused i) answered = refused_for (want.AlgRefused i) (λ e. absurd (cc e)) answered
  want_stopped (want.AlgUnknown i) answered = refused_for (want.AlgUnknown i) (λ e. absurd (cc e)) answered
  want_stopped (want.KeyUnknown i) answered = refused_for (want.KeyUnknown i) (λ e. absurd (cc e)) answered

  -- the fault of a refusal
  pub want_fault_of : (cause : CommandRefusal) → AreWishesRefused conf message cause → (f : WantFault) × IsWantFault conf message f
  want_fault_of (Syntax offset) is = absurd is
  want_fault_of (Ids f) is = absurd is
  want_fault_of (Lacks lack id) is = absurd is
  want_fault_of (Sign f) is = absurd is
  want_fault_of (NotTaken f) is = absurd is
  want_fault_of (Explain f) is = absurd is
  want_fault_of (ToMessage f) is = absurd is
  want_fault_of (FromMessage f) is = absurd is
  want_fault_of (Digest c) is = absurd is
  want_fault_of (Wishes f) is = (f, is)

  no_want_fault : (specs : List SignSpec) → WantsAnswered conf message (Ok specs) → (f : WantFault) → ¬ IsWantFault conf message f
  no_want_fault specs answered f is =
      let known : f ≢ want.Memory = λ e. subst (λ (g : WantFault). IsWantCause conf message g) e is.holds in
      elim ((answered f known).there is) [
        | inl e ↦ absurd (cc e)
        | inr e ↦ absurd (cc e)
      ]

  none_wished : (specs : List SignSpec) → WantsAnswered conf message (Ok specs) → (cause : CommandRefusal) → ¬ AreWishesRefused conf message cause
  none_wished specs answered cause refused = let first = want_fault_of cause refused in no_want_fault specs answered first.0 first.1

  -- what comes of the wishes that are met
  pub wished : (specs : List SignSpec) (result : Result Outcome Stop) → AreWished conf moment message specs → WantsAnswered conf message (Ok specs) → IfOutcome result (ReportsEach context specs)
      → IfOutcome result (ReportsWished moment conf message context)
  wished specs result are answered =
      says_more (ReportsEach context specs) (ReportsWished moment conf message context) result (λ outcome reports. inl (specs, record { made = are; none = none_wished specs answered }, reports))
