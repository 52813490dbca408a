-- A message has one record.
use Rattle.std.proofs.Common.{◌≡◌, ◌⊎◌, ◌<◌, ℕ, Option, Some, None, List, take, refl, sym, ap, subst, ◌∙◌, inl, inr}
use Rattle.std.specs.List.{All, slice_get}
use Rattle.std.proofs.lemmas.Bool.{cases_order, false≢true}
use Rattle.std.proofs.lemmas.Option.{get_or_from_slice_get, slice_get_within}
use Rattle.byte_grammar.proofs.Indices.{slice_get_take}
use Rattle.msg_body.specs.Messages.{Message, message_text}
use Rattle.component_ids.specs.declared.id.ComponentId.{ComponentId}
use Rattle.component_ids.specs.declared.params.SigParams.{SigParams}
use Rattle.component_values.specs.Context.{MessageContext, context_with}
use Rattle.framing.specs.Framings.{is_request}
use Rattle.nonces.specs.Books.{Book}
use Rattle.settings.specs.Configuration.{Configuration}
use Rattle.settings.specs.declared.gateway_conf.GatewayConf.{GatewayConf}
use Rattle.signatures.specs.Signatures.{HasSignature}
use Rattle.signatures.proofs.Reading.{has_one_list_of_labels, has_one_signature}
use Rattle.signing.specs.SignCauses.{IsSignFault}
use Rattle.signing.specs.declared.fault.SignFault.{SignFault}
use Rattle.signing.specs.declared.fault.SignFault.TheVariants as sign
use Rattle.signing.specs.declared.spec.SignSpec.{SignSpec}
use Rattle.signing.proofs.OneSigned.{one_sign_fault, one_signed_message, one_spec}
use Rattle.verdicts.specs.Asked.{AreAsked}
use Rattle.verdicts.specs.Verdicts.{Accepts, IsVerdict}
use Rattle.verdicts.specs.Verification.{Verification, or_no_label}
use Rattle.verdicts.specs.declared.outcome.Verdict.{Verdict}
use Rattle.verdicts.specs.declared.outcome.Verdict.TheVariants.{Ok as Accepted}
use Rattle.verdicts.proofs.Judging.{has_one_verdict}
use Rattle.gateway.specs.Accepted.{IsAcceptedAt, IsFirstAccepted, IsRefusal, verification_seen}
use Rattle.gateway.specs.Arrivals.{Arrival, IsRead}
use Rattle.gateway.specs.Forwarded.{CoversNew, IsForwarded, IsHeldFor, IsOwnSpec, IsPassed, IsSignable}
use Rattle.gateway.specs.Laws.{HasOneBook, HasOneRecord}
use Rattle.gateway.specs.Records.{GatewayState, IsLetIn, IsLetOn, IsRecordOf, IsStopped}
use Rattle.gateway.specs.Seen.{HasBecome, Remembers}
use Rattle.gateway.specs.declared.gateway_record.GatewayRecord.TheVariants.{Pass, Stop, Held, Bad}
use Rattle.gateway.specs.declared.gateway_record.HeldFault.{HeldFault}
use Rattle.gateway.specs.declared.gateway_record.HeldFault.TheVariants as held
use Rattle.gateway.proofs.ReadMessages.{not_bad, one_bad, one_read}
use Rattle.gateway.proofs.Remembering.{entry_or_not}
use Rattle.gateway.proofs.TakenSteps.{one_forwarded}

-- ---- labels

one_asked : (label : Option (List ℕ)) (message : Message) (labels others : List (List ℕ)) → AreAsked label message labels → AreAsked label message others → labels ≡ others
one_asked (Some label) message labels others a b = a ∙ sym b
one_asked None message labels others a b =
    a.2 ∙ (ap (λ (found : List (List ℕ)). or_no_label found) (has_one_list_of_labels message a.0 b.0 a.1 b.1) ∙ sym b.2)

-- what holds of each holds of that at the index
pub all_at : {X : Type 0} (P : X → Type 0) (xs : List X) (i : ℕ) (x : X) → All P xs → slice_get xs i ≡ Some x → P x
all_at {X} P xs i x all there =
    subst (λ (y : X). P y) (get_or_from_slice_get xs i x x there) (all i x (slice_get_within xs i x there))

module _ (judged_by : List ℕ → Verification) (labels : List (List ℕ)) where
  -- none before the first accepted label is accepted
  earlier : (i j : ℕ) (keyid other : List ℕ) → IsAcceptedAt judged_by labels i keyid → IsAcceptedAt judged_by labels j other → i < j → ⊥
  earlier i j keyid other a b less =
      all_at (λ (l : List ℕ). (k : List ℕ) → ¬ Accepts (judged_by l) k) (take j labels) i a.label b.before (slice_get_take labels j i less ∙ a.there) keyid a.accepts

  one_accepted : (label other keyid another : List ℕ) → IsFirstAccepted judged_by labels label keyid → IsFirstAccepted judged_by labels other another → (label ≡ other) × (keyid ≡ another)
  one_accepted label other keyid another a b = elim (cases_order a.index b.index) [
    | inl same ↦
        let there : Some a.is.label ≡ Some b.is.label = sym a.is.there ∙ (ap (slice_get labels) same ∙ b.is.there) in
        let own : a.is.label ≡ b.is.label = cc in
        let here = subst (λ (l : List ℕ). Accepts (judged_by l) keyid) own a.is.accepts in
        let verdict : Accepted keyid ≡ Accepted another = has_one_verdict (judged_by b.is.label) (Accepted keyid) (Accepted another) here b.is.accepts in
        (sym a.label_is ∙ (own ∙ b.label_is), cc)
    | inr apart ↦ elim apart [
      | inl less ↦ absurd (earlier a.index b.index keyid another a.is b.is less)
      | inr more ↦ absurd (earlier b.index a.index another keyid b.is a.is more)
    ]
  ]

  not_refused : (label keyid first : List ℕ) (verdict : Verdict) → IsFirstAccepted judged_by labels label keyid → ¬ IsRefusal judged_by labels first verdict
  not_refused label keyid first verdict a refusal =
      all_at (λ (l : List ℕ). (k : List ℕ) → ¬ Accepts (judged_by l) k) labels a.index a.is.label refusal.none a.is.there keyid a.is.accepts

  one_refusal : (label other : List ℕ) (verdict another : Verdict) → IsRefusal judged_by labels label verdict → IsRefusal judged_by labels other another → (label ≡ other) × (verdict ≡ another)
  one_refusal label other verdict another a b =
      let first = a.first in
      let second = b.first in
      let same : label ≡ other = cc (first, second) in
      (same, has_one_verdict (judged_by label) verdict another a.is (subst (λ (l : List ℕ). IsVerdict (judged_by l) another) (sym same) b.is))

module _ (settings : GatewayConf) (state : GatewayState) (context : MessageContext) where
  one_let_in : (label other keyid another : List ℕ) (params others : SigParams) → IsLetIn settings state context label keyid params → IsLetIn settings state context other another others
      → (label ≡ other) × (keyid ≡ another) × (params ≡ others)
  one_let_in label other keyid another params others a b =
      let labels = one_asked settings.label context.message a.labels b.labels a.asked b.asked in
      let first = subst (λ (ls : List (List ℕ)). IsFirstAccepted (verification_seen state.conf state.seen context) ls label keyid) labels a.accepted in
      let one = one_accepted (verification_seen state.conf state.seen context) b.labels label other keyid another first b.accepted in
      let has = subst (λ (l : List ℕ). HasSignature context.message l params a.tag) one.0 a.signature in
      (one.0, one.1, (has_one_signature context.message other params others a.tag b.tag has b.signature).0)

  stopped_or_let_in : (label other keyid : List ℕ) (verdict : Verdict) (params : SigParams) → IsStopped settings state context label verdict → ¬ IsLetIn settings state context other keyid params
  stopped_or_let_in label other keyid verdict params a b =
      let labels = one_asked settings.label context.message a.labels b.labels a.asked b.asked in
      let refusal = subst (λ (ls : List (List ℕ)). IsRefusal (verification_seen state.conf state.seen context) ls label verdict) labels a.refusal in
      not_refused (verification_seen state.conf state.seen context) b.labels other keyid label verdict b.accepted refusal

  one_stopped : (label other : List ℕ) (verdict another : Verdict) → IsStopped settings state context label verdict → IsStopped settings state context other another
      → (label ≡ other) × (verdict ≡ another)
  one_stopped label other verdict another a b =
      let labels = one_asked settings.label context.message a.labels b.labels a.asked b.asked in
      let refusal = subst (λ (ls : List (List ℕ)). IsRefusal (verification_seen state.conf state.seen context) ls label verdict) labels a.refusal in
      one_refusal (verification_seen state.conf state.seen context) b.labels label other verdict another refusal b.refusal

  -- what comes of an accepted label comes of one message, one signature and what is asked for once
  one_let_on : (P Q : MessageContext → SigParams → SignSpec → Type 0) (label other : List ℕ) (after another : Book) → IsLetOn settings state context label P after → IsLetOn settings state context other Q another
      → (label ≡ other) × (made : MessageContext) × (params : SigParams) × (spec : SignSpec) × P made params spec × Q made params spec
  one_let_on P Q label other after another a b =
      let one = one_let_in label other a.keyid b.keyid a.params b.params a.let_in b.let_in in
      let steps = subst (λ (p : SigParams). IsForwarded settings.steps other p context a.forwarded) one.2 (subst (λ (l : List ℕ). IsForwarded settings.steps l a.params context a.forwarded) one.0 a.steps) in
      let same = one_forwarded other b.params settings.steps context a.forwarded b.forwarded steps b.steps in
      let asks = subst (λ (m : Message). IsOwnSpec state.conf state.seen.moment m a.spec) same a.spec_is in
      let spec = one_spec state.conf (is_request b.forwarded.head.start) state.seen.moment None a.spec b.spec asks b.spec_is in
      let moved = subst (λ (m : Message). P (context_with context m) a.params a.spec) same a.outcome in
      let signed = subst (λ (p : SigParams). P (context_with context b.forwarded) p a.spec) one.2 moved in
      (one.0, context_with context b.forwarded, b.params, b.spec, subst (λ (s : SignSpec). P (context_with context b.forwarded) b.params s) spec signed, b.outcome)

-- ---- why a message is held

-- it is held for this fault in signing
abbrev IsHeldBy : List ComponentId → SignFault → HeldFault → Type 0
IsHeldBy ids (sign.Lacks index lack) fault = (id : ComponentId) × (slice_get ids index ≡ Some id) × (fault ≡ held.Lacks lack id)
IsHeldBy ids cause fault = fault ≡ held.Sign cause

one_held_by : (ids : List ComponentId) (cause : SignFault) (fault other : HeldFault) → IsHeldBy ids cause fault → IsHeldBy ids cause other → fault ≡ other
one_held_by ids (sign.Lacks index lack) fault other a b =
    let first = a.1 in
    let second = b.1 in
    let same : a.0 ≡ b.0 = cc (first, second) in
    a.2 ∙ (ap (λ (id : ComponentId). held.Lacks lack id) same ∙ sym b.2)
one_held_by ids cause fault other a b = a ∙ sym b

module _ (context : MessageContext) (params : SigParams) (spec : SignSpec) where
  held_by : (fault : HeldFault) → IsHeldFor context params spec fault
      → ((cause : SignFault) × IsSignFault context spec cause × IsHeldBy spec.params.ids cause fault) ⊎ ((fault ≡ held.Covered) × IsSignable context spec × CoversNew params spec)
  held_by (held.Sign (sign.Lacks index lack)) is = absurd is
  held_by (held.Sign cause) is = inl (cause, is, refl)
  held_by (held.Lacks lack id) is = inl (sign.Lacks is.0 lack, is.1, (id, is.2, refl))
  held_by held.Covered is = inr (refl, is.0, is.1)

  one_held : (fault other : HeldFault) → IsHeldFor context params spec fault → IsHeldFor context params spec other → fault ≡ other
  one_held fault other a b = go (held_by fault a) (held_by other b)
    where
      go : ((cause : SignFault) × IsSignFault context spec cause × IsHeldBy spec.params.ids cause fault) ⊎ ((fault ≡ held.Covered) × IsSignable context spec × CoversNew params spec)
          → ((cause : SignFault) × IsSignFault context spec cause × IsHeldBy spec.params.ids cause other) ⊎ ((other ≡ held.Covered) × IsSignable context spec × CoversNew params spec) → fault ≡ other
      go (inl x) (inl y) =
          one_held_by spec.params.ids y.0 fault other (subst (λ (f : SignFault). IsHeldBy spec.params.ids f fault) (one_sign_fault context spec x.0 y.0 x.1 y.1) x.2) y.2
      go (inl x) (inr y) = absurd (y.1 x.0 x.1)
      go (inr x) (inl y) = absurd (x.1 y.0 y.1)
      go (inr x) (inr y) = x.0 ∙ sym y.0

  not_held : (text : List ℕ) (fault : HeldFault) → IsPassed context params spec text → ¬ IsHeldFor context params spec fault
  not_held text fault passed is = elim (held_by fault is) [
    | inl x ↦ passed.signable x.0 x.1
    | inr y ↦ false≢true (sym passed.uncovered ∙ y.2)
  ]

  one_passed : (text other : List ℕ) → IsPassed context params spec text → IsPassed context params spec other → text ≡ other
  one_passed text other a b =
      a.text_is ∙ (ap (λ (m : Message). message_text m) (one_signed_message context spec a.written b.written a.signed b.signed) ∙ sym b.text_is)

-- ---- one record

module _ (settings : GatewayConf) (state : GatewayState) (arrival : Arrival) where
  abbrev Passed : List ℕ → MessageContext → SigParams → SignSpec → Type 0
  Passed text made params spec = IsPassed made params spec text

  abbrev HeldSo : HeldFault → MessageContext → SigParams → SignSpec → Type 0
  HeldSo fault made params spec = IsHeldFor made params spec fault

  -- the context that was read is one
  module _ (context other : MessageContext) (one : IsRead state.conf arrival context) (two : IsRead state.conf arrival other) where
    moved : (P : MessageContext → Type 0) → P context → P other
    moved P is = subst P (one_read state.conf arrival context other one two) is

  both_stopped : (i j : ℕ) (label other : List ℕ) (verdict another : Verdict) (after last : Book) → IsRecordOf settings state arrival (Stop i label verdict) after → IsRecordOf settings state arrival (Stop j other another) last
      → Stop i label verdict ≡ Stop j other another
  both_stopped i j label other verdict another after last a b =
      let stopped = moved a.2 b.2 a.3 b.3 (λ c. IsStopped settings state c label verdict) a.4 in
      let same = one_stopped settings state b.2 label other verdict another stopped b.4 in
      let index = a.0 ∙ sym b.0 in
      λ k. Stop (index k) (same.0 k) (same.1 k)

  stopped_or_held : (i j : ℕ) (label : List ℕ) (verdict : Verdict) (fault : HeldFault) (after last : Book) → IsRecordOf settings state arrival (Stop i label verdict) after → ¬ IsRecordOf settings state arrival (Held j fault) last
  stopped_or_held i j label verdict fault after last a b =
      let stopped = moved a.2 b.1 a.3 b.2 (λ c. IsStopped settings state c label verdict) a.4 in
      stopped_or_let_in settings state b.1 label b.3 b.4.keyid verdict b.4.params stopped b.4.let_in

  stopped_or_passed : (i j : ℕ) (label other text : List ℕ) (verdict : Verdict) (after last : Book) → IsRecordOf settings state arrival (Stop i label verdict) after
      → ¬ IsRecordOf settings state arrival (Pass j other text) last
  stopped_or_passed i j label other text verdict after last a b =
      let stopped = moved a.2 b.1 a.3 b.2 (λ c. IsStopped settings state c label verdict) a.4 in
      stopped_or_let_in settings state b.1 label other b.3.keyid verdict b.3.params stopped b.3.let_in

  both_held : (i j : ℕ) (fault other : HeldFault) (after last : Book) → IsRecordOf settings state arrival (Held i fault) after → IsRecordOf settings state arrival (Held j other) last → Held i fault ≡ Held j other
  both_held i j fault other after last a b =
      let on = moved a.1 b.1 a.2 b.2 (λ c. IsLetOn settings state c a.3 (HeldSo fault) after) a.4 in
      let one = one_let_on settings state b.1 (HeldSo fault) (HeldSo other) a.3 b.3 after last on b.4 in
      let index = a.0 ∙ sym b.0 in
      let same = one_held one.1 one.2 one.3 fault other one.4 one.5 in
      λ k. Held (index k) (same k)

  held_or_passed : (i j : ℕ) (fault : HeldFault) (label text : List ℕ) (after last : Book) → IsRecordOf settings state arrival (Held i fault) after → ¬ IsRecordOf settings state arrival (Pass j label text) last
  held_or_passed i j fault label text after last a b =
      let on = moved a.1 b.1 a.2 b.2 (λ c. IsLetOn settings state c a.3 (HeldSo fault) after) a.4 in
      let one = one_let_on settings state b.1 (HeldSo fault) (Passed text) a.3 label after last on b.3 in
      not_held one.1 one.2 one.3 text fault one.5 one.4

  both_passed : (i j : ℕ) (label other text another : List ℕ) (after last : Book) → IsRecordOf settings state arrival (Pass i label text) after → IsRecordOf settings state arrival (Pass j other another) last
      → Pass i label text ≡ Pass j other another
  both_passed i j label other text another after last a b =
      let on = moved a.1 b.1 a.2 b.2 (λ c. IsLetOn settings state c label (Passed text) after) a.3 in
      let one = one_let_on settings state b.1 (Passed text) (Passed another) label other after last on b.3 in
      let index = a.0 ∙ sym b.0 in
      let same = one_passed one.1 one.2 one.3 text another one.4 one.5 in
      λ k. Pass (index k) (one.0 k) (same k)

pub one_record : HasOneRecord
one_record settings state arrival (Bad i fault) (Bad j other) after last a b =
    let index = a.0 ∙ sym b.0 in
    let same = one_bad arrival fault other a.1 b.1 in
    λ k. Bad (index k) (same k)
one_record settings state arrival (Bad i fault) (Stop j label verdict) after last a b = absurd (not_bad state.conf arrival b.2 fault b.3 a.1)
one_record settings state arrival (Bad i fault) (Held j other) after last a b = absurd (not_bad state.conf arrival b.1 fault b.2 a.1)
one_record settings state arrival (Bad i fault) (Pass j label text) after last a b = absurd (not_bad state.conf arrival b.1 fault b.2 a.1)
one_record settings state arrival (Stop i label verdict) (Bad j fault) after last a b = absurd (not_bad state.conf arrival a.2 fault a.3 b.1)
one_record settings state arrival (Stop i label verdict) (Stop j other another) after last a b = both_stopped settings state arrival i j label other verdict another after last a b
one_record settings state arrival (Stop i label verdict) (Held j fault) after last a b = absurd (stopped_or_held settings state arrival i j label verdict fault after last a b)
one_record settings state arrival (Stop i label verdict) (Pass j other text) after last a b = absurd (stopped_or_passed settings state arrival i j label other text verdict after last a b)
one_record settings state arrival (Held i fault) (Bad j other) after last a b = absurd (not_bad state.conf arrival a.1 other a.2 b.1)
one_record settings state arrival (Held i fault) (Stop j label verdict) after last a b = absurd (stopped_or_held settings state arrival j i label verdict fault last after b a)
one_record settings state arrival (Held i fault) (Held j other) after last a b = both_held settings state arrival i j fault other after last a b
one_record settings state arrival (Held i fault) (Pass j label text) after last a b = absurd (held_or_passed settings state arrival i j fault label text after last a b)
one_record settings state arrival (Pass i label text) (Bad j fault) after last a b = absurd (not_bad state.conf arrival a.1 fault a.2 b.1)
one_record settings state arrival (Pass i label text) (Stop j other verdict) after last a b = absurd (stopped_or_passed settings state arrival j i other label text verdict last after b a)
one_record settings state arrival (Pass i label text) (Held j fault) after last a b = absurd (held_or_passed settings state arrival j i fault label text last after b a)
one_record settings state arrival (Pass i label text) (Pass j other another) after last a b = both_passed settings state arrival i j label other text another after last a b

-- ---- one book

same_book : (after another : Book) → after ≡ another → HasBecome another.entries another.moment another after
same_book after another same =
    subst (λ (b : Book). HasBecome another.entries another.moment another b) (sym same) (record {
      entries_are = record { members = λ entry. (λ is. is, λ is. is); length = refl };
      moment = refl;
      capacity = refl;
      window = refl;
    })

-- the same is remembered after both
one_after : (conf : Configuration) (params : SigParams) (keyid : List ℕ) (seen after another : Book) → Remembers conf params keyid seen after → Remembers conf params keyid seen another
    → HasBecome another.entries another.moment another after
one_after conf params keyid seen after another a b = elim (entry_or_not conf params keyid) [
  | inr none ↦ same_book after another (a.none none ∙ sym (b.none none))
  | inl one ↦
      let first = a.one one.0 one.1 in
      let second = b.one one.0 one.1 in
      record {
        entries_are = record {
          members = λ entry.
              let x = first.entries_are.members entry in
              let y = second.entries_are.members entry in
              (λ is. y.1 (x.0 is), λ is. x.1 (y.0 is));
          length = first.entries_are.length ∙ sym second.entries_are.length;
        };
        moment = first.moment ∙ sym second.moment;
        capacity = first.capacity ∙ sym second.capacity;
        window = first.window ∙ sym second.window;
      }
]

module _ (settings : GatewayConf) (state : GatewayState) (context : MessageContext) where
  one_book_on : (P Q : MessageContext → SigParams → SignSpec → Type 0) (label other : List ℕ) (after another : Book) → IsLetOn settings state context label P after → IsLetOn settings state context other Q another
      → HasBecome another.entries another.moment another after
  one_book_on P Q label other after another a b =
      let one = one_let_in settings state context label other a.keyid b.keyid a.params b.params a.let_in b.let_in in
      let remembers = subst (λ (p : SigParams). Remembers state.conf p b.keyid state.seen after) one.2 (subst (λ (k : List ℕ). Remembers state.conf a.params k state.seen after) one.1 a.remembers) in
      one_after state.conf b.params b.keyid state.seen after another remembers b.remembers

pub one_book : HasOneBook
one_book settings state arrival (Bad i fault) after another a b = same_book after another (a.2 ∙ sym b.2)
one_book settings state arrival (Stop i label verdict) after another a b = same_book after another (a.1 ∙ sym b.1)
one_book settings state arrival (Held i fault) after another a b =
    let on = moved settings state arrival a.1 b.1 a.2 b.2 (λ c. IsLetOn settings state c a.3 (HeldSo settings state arrival fault) after) a.4 in
    one_book_on settings state b.1 (HeldSo settings state arrival fault) (HeldSo settings state arrival fault) a.3 b.3 after another on b.4
one_book settings state arrival (Pass i label text) after another a b =
    let on = moved settings state arrival a.1 b.1 a.2 b.2 (λ c. IsLetOn settings state c label (Passed settings state arrival text) after) a.3 in
    one_book_on settings state b.1 (Passed settings state arrival text) (Passed settings state arrival text) label label after another on b.3
