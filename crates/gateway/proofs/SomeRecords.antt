-- A message has some record.
use Rattle.std.proofs.Common.{◌≡◌, ◌⊎◌, ◌≤◌, ℕ, suc, Option, Some, None, List, [], ◌∷◌, length, take, refl, subst, inl, inr, pos, ℤ, ◌+ℤ◌}
use Rattle.std.specs.Prelude.{IfSome}
use Rattle.std.specs.List.{list_any, slice_get}
use Rattle.std.proofs.lemmas.Bool.{cases_Bool}
use Rattle.std.proofs.lemmas.List.Elements.{All-cons, All-nil}
use Rattle.byte_grammar.proofs.Indices.{some_and_parts}
use Rattle.framing.specs.Framings.{is_request}
use Rattle.msg_body.specs.Messages.{Message, message_text}
use Rattle.msg_body.specs.WholeTexts.{IsWhole, one_request}
use Rattle.msg_body.specs.declared.limits.TheConstants.{MAX_MESSAGE_BYTES}
use Rattle.msg_body.proofs.WholeTexts.{is_whole_or_not, no_fault_of_whole}
use Rattle.component_ids.specs.declared.id.ComponentId.{ComponentId}
use Rattle.component_ids.specs.declared.params.SigParams.{SigParams}
use Rattle.component_values.specs.Context.{MessageContext, context_with}
use Rattle.component_values.specs.Values.{Lacks as LacksSo}
use Rattle.nonces.specs.Books.{Book, Entry, HaveSameEntries, book_of}
use Rattle.settings.specs.Configuration.{Configuration}
use Rattle.settings.specs.declared.gateway_conf.GatewayConf.{GatewayConf}
use Rattle.signatures.specs.Contexts.{context_for}
use Rattle.signatures.specs.Signatures.{AreLabels}
use Rattle.signatures.proofs.Reading.{has_labels}
use Rattle.signing.specs.SignCauses.{IsSignFault, covers_itself}
use Rattle.signing.specs.Written.{context_with_digest}
use Rattle.signing.specs.declared.fault.SignFault.{SignFault}
use Rattle.signing.specs.declared.fault.SignFault.TheVariants as sign
use Rattle.signing.specs.declared.spec.SignSpec.{SignSpec}
use Rattle.signing.proofs.SomeSigned.{has_spec, signed_or_fault}
use Rattle.verdicts.specs.Asked.{AreAsked}
use Rattle.verdicts.specs.Parameters.{created_of}
use Rattle.verdicts.specs.Verdicts.{Accepts, IsVerdict}
use Rattle.verdicts.specs.Verification.{Verification, no_label}
use Rattle.verdicts.specs.declared.outcome.Verdict.{Verdict}
use Rattle.verdicts.specs.declared.outcome.Verdict.TheVariants.{Ok as Accepted, Rule as Refused}
use Rattle.verdicts.proofs.Judging.{has_verdict}
use Rattle.gateway.specs.Accepted.{AreRefused, IsFirstAccepted, verification_seen}
use Rattle.gateway.specs.Arrivals.{Arrival, IsAnswered, IsBad, IsRead, IsSized, arrival_reading}
use Rattle.gateway.specs.Forwarded.{IsForwarded, IsHeldFor, IsOwnSpec, IsPassed}
use Rattle.gateway.specs.Laws.{HasSomeRecord, IsReady}
use Rattle.gateway.specs.Records.{GatewayState, IsLetIn, IsLetOn, IsRecordOf}
use Rattle.gateway.specs.Seen.{Remembers}
use Rattle.gateway.specs.declared.gateway_record.GatewayRecord.{GatewayRecord}
use Rattle.gateway.specs.declared.gateway_record.GatewayRecord.TheVariants.{Pass, Stop, Held, Bad}
use Rattle.gateway.specs.declared.gateway_record.BadFault.{BadFault}
use Rattle.gateway.specs.declared.gateway_record.BadFault.TheVariants.{Message as BadMessage, Related as BadRelated}
use Rattle.gateway.specs.declared.gateway_record.HeldFault.{HeldFault}
use Rattle.gateway.specs.declared.gateway_record.HeldFault.TheVariants as held
use Rattle.gateway.proofs.Accepting.{not_accepted}
use Rattle.gateway.proofs.ReadMessages.{whole_read}
use Rattle.gateway.proofs.Remembering.{entry_or_not, remembers_none, remembers_one}
use Rattle.gateway.proofs.TakenSteps.{some_forwarded}

-- ---- what is read

some_related : (text : Option (List ℕ)) → IfSome text (λ t. length t ≤ MAX_MESSAGE_BYTES)
    → ((related : Option Message) × IsAnswered text related) ⊎ ((t : List ℕ) × (text ≡ Some t) × ((request : Message) → ¬ IsWhole one_request t request))
some_related None short = inl (None, refl)
some_related (Some t) short = elim (is_whole_or_not one_request t short) [
  | inl whole ↦ inl (Some whole.0, whole.1)
  | inr fault ↦ inr (t, refl, λ request is. no_fault_of_whole one_request t request fault.0 is fault.1)
]

read_or_bad : (conf : Configuration) (arrival : Arrival) → IsSized arrival → ((context : MessageContext) × IsRead conf arrival context) ⊎ ((fault : BadFault) × IsBad arrival fault)
read_or_bad conf arrival sized = elim (some_related arrival.related sized.related) [
  | inr bad ↦ inr (BadRelated, bad)
  | inl answered ↦ elim (is_whole_or_not (arrival_reading arrival.role answered.0) arrival.text sized.text) [
    | inl whole ↦ inl (
      context_for conf whole.0 answered.0,
      record { related = answered.0; answers = answered.1; message = whole.0; is = whole.1; context_is = refl },
    )
    | inr fault ↦ inr (BadMessage fault.0, (answered.0, answered.1, fault.1))
  ]
]

-- ---- labels

abbrev SomeAsked : Option (List ℕ) → Message → Type 0
SomeAsked label message = (labels : List (List ℕ)) × AreAsked label message labels × (first : List ℕ) × (slice_get labels 0 ≡ Some first)

some_asked : (label : Option (List ℕ)) (message : Message) → SomeAsked label message
some_asked (Some label) message = (label ∷ [], refl, label, refl)
some_asked None message = let own = has_labels message in of_labels own.0 own.1
  where
    of_labels : (found : List (List ℕ)) → AreLabels message found → SomeAsked None message
    of_labels [] are = (no_label ∷ [], ([], are, refl), no_label, refl)
    of_labels (label ∷ labels) are = (label ∷ labels, (label ∷ labels, are, refl), label, refl)

module _ (judged_by : List ℕ → Verification) where
  abbrev SomeAccepted : List (List ℕ) → Type 0
  SomeAccepted labels = (label : List ℕ) × (keyid : List ℕ) × IsFirstAccepted judged_by labels label keyid

  accepted_or_not : (labels : List (List ℕ)) → SomeAccepted labels ⊎ AreRefused judged_by labels
  accepted_or_not [] = inr (All-nil (λ (label : List ℕ). (keyid : List ℕ) → ¬ Accepts (judged_by label) keyid))
  accepted_or_not (label ∷ labels) = let own = has_verdict (judged_by label) in by_verdict own.0 own.1 (accepted_or_not labels)
    where
      by_verdict : (verdict : Verdict) → IsVerdict (judged_by label) verdict → SomeAccepted labels ⊎ AreRefused judged_by labels → SomeAccepted (label ∷ labels) ⊎ AreRefused judged_by (label ∷ labels)
      by_verdict (Accepted keyid) is rest = inl (
        label,
        keyid,
        record {
          index = 0;
          is = record { label = label; there = refl; accepts = is; before = All-nil (λ (l : List ℕ). (k : List ℕ) → ¬ Accepts (judged_by l) k) };
          label_is = refl;
        },
      )
      by_verdict (Refused rule place) is (inl later) =
          let at = later.2.is in
          inl (
            later.0,
            later.1,
            record {
              index = suc later.2.index;
              is = record {
                label = at.label;
                there = at.there;
                accepts = at.accepts;
                before = All-cons (λ (l : List ℕ). (k : List ℕ) → ¬ Accepts (judged_by l) k) label (take later.2.index labels) (not_accepted (judged_by label) rule place is) at.before;
              };
              label_is = later.2.label_is;
            },
          )
      by_verdict (Refused rule place) is (inr none) = inr (All-cons (λ (l : List ℕ). (k : List ℕ) → ¬ Accepts (judged_by l) k) label labels (not_accepted (judged_by label) rule place is) none)

-- ---- what is remembered

same_entries : (entries : List Entry) → HaveSameEntries entries entries
same_entries entries = record { members = λ entry. (λ is. is, λ is. is); length = refl }

-- a book comes after each
pub some_after : (conf : Configuration) (params : SigParams) (keyid : List ℕ) (seen : Book) → (after : Book) × Remembers conf params keyid seen after
some_after conf params keyid seen = elim (entry_or_not conf params keyid) [
  | inr none ↦ (seen, remembers_none conf params keyid seen none)
  | inl one ↦
      let made = some_and_parts (λ (created : ℤ). pos one.0.until ≡ created +ℤ pos one.1.policy.max_age) (created_of params) one.1.until in
      let entries = record { keyid = keyid; nonce = one.0.nonce; until = one.0.until } ∷ seen.entries in
      let after = book_of entries seen.capacity seen.window seen.moment in
      (after, remembers_one conf params keyid one.1.policy one.1.chosen seen after one.0.nonce made.0 one.0.until one.1.asks one.1.nonce made.1 made.2 (same_entries entries) refl refl refl)
]

-- ---- what comes of an accepted message

-- what it is held for, where it has a fault in signing
held_for : (context : MessageContext) (params : SigParams) (spec : SignSpec) (fault : SignFault) → IsSignFault context spec fault → (held : HeldFault) × IsHeldFor context params spec held
held_for context params spec (sign.Lacks index lack) is =
    let there = some_and_parts (λ (id : ComponentId). LacksSo (context_with_digest context spec.digest) id lack) (slice_get spec.params.ids index) is.holds.there in
    (held.Lacks lack there.0, (index, is, there.1))
held_for context params spec fault is = (held.Sign fault, is)

module _ (settings : GatewayConf) (state : GatewayState) (ready : IsReady settings state) (arrival : Arrival) (context : MessageContext) (read : IsRead state.conf arrival context) where
  abbrev SomeRecord : Type 0
  SomeRecord = (record_ : GatewayRecord) × (after : Book) × IsRecordOf settings state arrival record_ after

  module _ (label keyid : List ℕ) (params : SigParams) (let_in : IsLetIn settings state context label keyid params) where
    forwarded : (after : Message) × IsForwarded settings.steps label params context after
    forwarded = some_forwarded label params settings.steps context (ready.valid.gateway settings ready.settings_are).writable (whole_read state.conf arrival context read)

    abbrev made : MessageContext
    made = context_with context forwarded.0

    after : (book : Book) × Remembers state.conf params keyid state.seen book
    after = some_after state.conf params keyid state.seen

    spec : (spec : SignSpec) × IsOwnSpec state.conf state.seen.moment forwarded.0 spec
    spec = has_spec state.conf ready.sign (is_request forwarded.0.head.start) state.seen.moment None ready.sign_is (ready.valid.sign ready.sign ready.sign_is).keyid

    let_on : (Outcome : MessageContext → SigParams → SignSpec → Type 0) → Outcome made params spec.0 → IsLetOn settings state context label Outcome after.0
    let_on Outcome outcome = record {
      keyid = keyid;
      params = params;
      let_in = let_in;
      forwarded = forwarded.0;
      steps = forwarded.1;
      spec = spec.0;
      spec_is = spec.1;
      outcome = outcome;
      remembers = after.1;
    }

    of_held : (fault : HeldFault) → IsHeldFor made params spec.0 fault → SomeRecord
    of_held fault is = (Held state.count fault, after.0, (refl, context, read, label, let_on (λ made params spec. IsHeldFor made params spec fault) is))

    let_on_or_held : SomeRecord
    let_on_or_held = elim (signed_or_fault made spec.0) [
      | inr fault ↦ let why = held_for made params spec.0 fault.0 fault.1 in of_held why.0 why.1
      | inl signed ↦ elim (cases_Bool (list_any (covers_itself spec.0.label) params.ids)) [
        | inl covers ↦ of_held held.Covered (signed.2, covers)
        | inr uncovered ↦
            let text = message_text signed.0 in
            let passes : IsPassed made params spec.0 text = record { signable = signed.2; uncovered = uncovered; written = signed.0; signed = signed.1; text_is = refl } in
            (Pass state.count label text, after.0, (refl, context, read, let_on (λ made params spec. IsPassed made params spec text) passes))
      ]
    ]

  judged_record : SomeRecord
  judged_record =
      let asked = some_asked settings.label context.message in
      let judged_by = verification_seen state.conf state.seen context in
      elim (accepted_or_not judged_by asked.0) [
        | inl found ↦
            let first = found.2 in
            let accepts = subst (λ (l : List ℕ). Accepts (judged_by l) found.1) first.label_is first.is.accepts in
            let_on_or_held found.0 found.1 accepts.params (record { labels = asked.0; asked = asked.1; accepted = first; tag = accepts.tag; signature = accepts.signature })
        | inr none ↦
            let verdict = has_verdict (judged_by asked.2) in (
              Stop state.count asked.2 verdict.0,
              state.seen,
              (refl, refl, context, read, record { labels = asked.0; asked = asked.1; refusal = record { first = asked.3; none = none; is = verdict.1 } }),
            )
      ]

pub some_record : HasSomeRecord
some_record settings state arrival ready sized = elim (read_or_bad state.conf arrival sized) [
  | inl read ↦ judged_record settings state ready arrival read.0 read.1
  | inr bad ↦ (Bad state.count bad.0, state.seen, (refl, bad.1, refl))
]
