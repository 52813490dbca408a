-- What a gateway answers for a message, from the answers of its parts.
use Rattle.std.proofs.Common.{◌≡◌, ℕ, Option, Some, None, List, Result, Ok, Err, Bor, refl, sym, ap, subst, ◌∙◌}
use Rattle.std.specs.Prelude.{IfOk, IsSome, option_copied, option_map}
use Rattle.msg_body.specs.Messages.{Message}
use Rattle.msg_body.specs.Views.{MessageParts, message_of}
use Rattle.msg_body.specs.WholeTexts.{IsMessageFault, IsWhole, one_request}
use Rattle.msg_body.specs.declared.whole.Reading.{Reading}
use Rattle.msg_body.specs.declared.error.MessageFault.{MessageFault}
use Rattle.msg_body.proofs.WholeTexts.{no_fault_of_whole}
use Rattle.component_values.specs.Context.{MessageContext, context_with}
use Rattle.nonces.specs.Books.{Book}
use Rattle.rewrite_script.specs.declared.rewrite.Rewrite.{Rewrite}
use Rattle.settings.specs.Configuration.{Configuration}
use Rattle.signatures.specs.Contexts.{context_for}
use Rattle.settings.specs.declared.gateway_conf.GatewayConf.{GatewayConf}
use Rattle.verdicts.specs.Asked.{AreAsked}
use Rattle.verdicts.specs.Verdicts.{Accepts}
use Rattle.verdicts.specs.declared.outcome.Verdict.{Verdict}
use Rattle.gateway.specs.Accepted.{IsFirstAccepted, IsRefusal, verification_seen}
use Rattle.gateway.specs.Arrivals.{Arrival, IsBad, IsRead, arrival_reading}
use Rattle.gateway.specs.Forwarded.{IsForwarded, IsPassed}
use Rattle.gateway.specs.Records.{GatewayState, IsLetIn, IsLetOn}
use Rattle.gateway.specs.tools.Judged.{IsAcceptedLabel, IsAcceptedNow, IsJudged, IsOutcome, IsOutcomeOf, SaysForwarded, SaysForwardedFrom, SaysRelated}
use Rattle.gateway.specs.declared.accepted.AcceptedLabel.{AcceptedLabel}
use Rattle.gateway.specs.declared.accepted.Judged.{Judged}
use Rattle.gateway.specs.declared.gateway_record.BadFault.{BadFault}
use Rattle.gateway.specs.declared.gateway_record.BadFault.TheVariants.{Message as BadMessage, Related as BadRelated}
use Rattle.gateway.specs.declared.gateway_record.GatewayRecord.TheVariants.{Pass, Stop, Held, Bad}
use Rattle.gateway.specs.declared.gateway_record.HeldFault.{HeldFault}
use Rattle.gateway.specs.declared.own_signature.Forwarded.{Forwarded}
use Rattle.gateway.specs.declared.own_signature.Forwarded.TheVariants as forwarded

-- ---- the request that is answered

pub related_refused : (arrival : Arrival) (text : List ℕ) (fault : MessageFault) → arrival.related ≡ Some text → IsMessageFault one_request text fault → SaysRelated arrival (Err BadRelated)
related_refused arrival text fault is faulty = (refl, (text, is, λ request whole. no_fault_of_whole one_request text request fault whole faulty))

-- ---- outcomes

module _ (settings : GatewayConf) (state : GatewayState) (index : ℕ) (index_is : index ≡ state.count) where
  pub bad_outcome : (arrival : Arrival) (fault : BadFault) → IsBad arrival fault → IsOutcome settings state arrival (record { answer = Bad index fault; accepted = None })
  bad_outcome arrival fault bad after same = (index_is, bad, same)

  module _ (context : MessageContext) (labels : List (List ℕ)) (asked : AreAsked settings.label context.message labels) where
    pub stopped_outcome : (label : List ℕ) (verdict : Verdict) → IsRefusal (verification_seen state.conf state.seen context) labels label verdict
        → IsOutcomeOf settings state context (record { answer = Stop index label verdict; accepted = None })
    stopped_outcome label verdict refusal arrival read after same =
        (index_is, same, context, read, record { labels = labels; asked = asked; refusal = refusal })

    module _ (accepted : AcceptedLabel) (first : IsFirstAccepted (verification_seen state.conf state.seen context) labels accepted.label accepted.keyid)
        (is : IsAcceptedLabel context.message accepted.label accepted.keyid accepted) where
      let_in : IsLetIn settings state context accepted.label accepted.keyid accepted.params
      let_in = record { labels = labels; asked = asked; accepted = first; tag = is.tag; signature = is.signature }

      pub passed_outcome : (label text : List ℕ) → label ≡ accepted.label → SaysForwardedFrom settings state context accepted (forwarded.Signed text)
          → IsOutcomeOf settings state context (record { answer = Pass index label text; accepted = Some accepted })
      passed_outcome label text same says arrival read after remembers = (
        index_is,
        context,
        read,
        subst (λ (l : List ℕ). IsLetOn settings state context l (λ made params spec. IsPassed made params spec text) after) (sym same) (record {
          keyid = accepted.keyid;
          params = accepted.params;
          let_in = let_in;
          forwarded = says.0;
          steps = says.1;
          spec = says.2.0;
          spec_is = says.2.1;
          outcome = says.2.2;
          remembers = remembers;
        }),
      )

      pub held_outcome : (fault : HeldFault) → SaysForwardedFrom settings state context accepted (forwarded.Held fault)
          → IsOutcomeOf settings state context (record { answer = Held index fault; accepted = Some accepted })
      held_outcome fault says arrival read after remembers = (
        index_is,
        context,
        read,
        accepted.label,
        record {
          keyid = accepted.keyid;
          params = accepted.params;
          let_in = let_in;
          forwarded = says.0;
          steps = says.1;
          spec = says.2.0;
          spec_is = says.2.1;
          outcome = says.2.2;
          remembers = remembers;
        },
      )

-- the label is accepted at the book's moment
pub accepted_now : (state : GatewayState) (context : MessageContext) (labels : List (List ℕ)) (accepted : AcceptedLabel)
    → IsFirstAccepted (verification_seen state.conf state.seen context) labels accepted.label accepted.keyid → IsAcceptedLabel context.message accepted.label accepted.keyid accepted
    → IsAcceptedNow state.conf state.seen accepted
accepted_now state context labels accepted first is =
    let accepts = subst (λ (l : List ℕ). Accepts (verification_seen state.conf state.seen context l) accepted.keyid) first.label_is first.is.accepts in
    (verification_seen state.conf state.seen context accepted.label, accepts, is, refl, refl, refl)

-- what is judged of the context, by the configuration, the moment and the book of the gateway
pub judged_at : (state : GatewayState) (context found : MessageContext) (conf : Configuration) (now : ℕ) (book : Book) (labels : List (List ℕ)) (given : Judged) → found ≡ context → conf ≡ state.conf
    → now ≡ state.seen.moment → book ≡ state.seen
    → IsJudged found.message (λ label. record { context = found; label = label; conf = conf; now = now; seen = Some book }) labels given
    → IsJudged context.message (verification_seen state.conf state.seen context) labels given
judged_at state context found conf now book labels given same conf_is now_is book_is judges =
    let here = subst (λ (c : MessageContext). IsJudged c.message (λ label. record { context = c; label = label; conf = conf; now = now; seen = Some book }) labels given) same judges in
    let configured = subst (λ (k : Configuration). IsJudged context.message (λ label. record { context = context; label = label; conf = k; now = now; seen = Some book }) labels given) conf_is here in
    let timely = subst (λ (n : ℕ). IsJudged context.message (λ label. record { context = context; label = label; conf = state.conf; now = n; seen = Some book }) labels given) now_is configured in
    subst (λ (b : Book). IsJudged context.message (λ label. record { context = context; label = label; conf = state.conf; now = state.seen.moment; seen = Some b }) labels given) book_is timely

-- ---- steps

-- what comes of the steps and of the gateway's signature
pub forwarded_from : {E : Type 0} (settings own : GatewayConf) (state : GatewayState) (context found : MessageContext) (accepted : AcceptedLabel) (conf : Configuration) (moment : ℕ) (steps : List Rewrite) (result : Result Forwarded E)
    → state.conf.gateway ≡ Some own → state.conf.gateway ≡ Some settings → steps ≡ own.steps → found ≡ context → conf ≡ state.conf → moment ≡ state.seen.moment
    → IfOk result (λ outcome. (after : Message) × IsForwarded steps accepted.label accepted.params found after × SaysForwarded conf moment (context_with found after) accepted.params outcome)
    → IfOk result (SaysForwardedFrom settings state context accepted)
forwarded_from settings own state context found accepted conf moment steps (Ok outcome) has is steps_are same conf_is moment_is says =
    let own_is : own ≡ settings = cc (has, is) in
    let taken = subst (λ (c : MessageContext). IsForwarded steps accepted.label accepted.params c says.0) same says.1 in
    let all = subst (λ (list : List Rewrite). IsForwarded list accepted.label accepted.params context says.0) (steps_are ∙ ap (λ (s : GatewayConf). s.steps) own_is) taken in
    let here = subst (λ (c : MessageContext). SaysForwarded conf moment (context_with c says.0) accepted.params outcome) same says.2 in
    let configured = subst (λ (k : Configuration). SaysForwarded k moment (context_with context says.0) accepted.params outcome) conf_is here in
    (says.0, all, subst (λ (n : ℕ). SaysForwarded state.conf n (context_with context says.0) accepted.params outcome) moment_is configured)
forwarded_from settings own state context found accepted conf moment steps (Err e) has is steps_are same conf_is moment_is says = tt

-- ---- what is read

-- the request that was read, where it is lent
pub related_same : (lent : Option (Bor MessageParts)) (own : Option MessageParts) → option_copied lent ≡ own → option_map (λ (view : Bor MessageParts). message_of view.now) lent ≡ option_map (λ (view : MessageParts). message_of view) own
related_same None own is = ap (λ (o : Option MessageParts). option_map (λ (view : MessageParts). message_of view) o) is
related_same (Some view) own is = ap (λ (o : Option MessageParts). option_map (λ (v : MessageParts). message_of v) o) is

pub read_of : (conf : Configuration) (arrival : Arrival) (related : Option Message) (reading : Reading) (text : List ℕ) (message : Message) (context : MessageContext) → SaysRelated arrival (Ok related)
    → reading ≡ arrival_reading arrival.role related → text ≡ arrival.text → IsWhole reading text message → context ≡ context_for conf message related → IsRead conf arrival context
read_of conf arrival related reading text message context answers reading_is text_is whole context_is = record {
  related = related;
  answers = answers;
  message = message;
  is = subst (λ (r : Reading). IsWhole r arrival.text message) reading_is (subst (λ (t : List ℕ). IsWhole reading t message) text_is whole);
  context_is = context_is;
}

pub bad_of : (arrival : Arrival) (related : Option Message) (reading : Reading) (text : List ℕ) (fault : MessageFault) → SaysRelated arrival (Ok related) → reading ≡ arrival_reading arrival.role related
    → text ≡ arrival.text → IsMessageFault reading text fault → IsBad arrival (BadMessage fault)
bad_of arrival related reading text fault answers reading_is text_is faulty =
    (related, answers, subst (λ (r : Reading). IsMessageFault r arrival.text fault) reading_is (subst (λ (t : List ℕ). IsMessageFault reading t fault) text_is faulty))

pub ok_more : {T E : Type 0} (P Q : T → Type 0) (result : Result T E) → ((x : T) → P x → Q x) → IfOk result P → IfOk result Q
ok_more P Q (Ok x) more is = more x is
ok_more P Q (Err e) more is = tt

-- what is there
pub some_there : {X : Type 0} (o : Option X) → IsSome o → (x : X) × (o ≡ Some x)
some_there (Some x) is = (x, refl)
some_there None is = absurd cc
