-- The items of a stream have one list of records.
use Rattle.std.proofs.Common.{◌≡◌, ℕ, Option, Some, None, List, [], ◌∷◌, ◌++◌, length, take, refl, sym, ap, subst, ◌∙◌, inl, inr, arith}
use Rattle.std.specs.List.{FoldsTo}
use Rattle.component_ids.specs.declared.params.SigParams.{SigParams}
use Rattle.component_values.specs.Context.{MessageContext}
use Rattle.nonces.specs.Books.{Book, Entry, HaveSameEntries, is_of, live_entries}
use Rattle.recording.specs.Items.{Body, PlacedItem, message, moment, stored}
use Rattle.recording.specs.declared.item.Role.TheVariants.{Request, Response, Related}
use Rattle.recording.proofs.RecordingLaws.{one_recording}
use Rattle.settings.specs.Configuration.{Configuration}
use Rattle.settings.specs.declared.gateway_conf.GatewayConf.{GatewayConf}
use Rattle.signatures.proofs.Reading.{has_one_signature}
use Rattle.signing.specs.declared.spec.SignSpec.{SignSpec}
use Rattle.verdicts.specs.Choice.{policy_of}
use Rattle.verdicts.specs.Parameters.{nonce_of}
use Rattle.verdicts.specs.Verdicts.{Accepts}
use Rattle.verdicts.specs.declared.outcome.Verdict.{Verdict}
use Rattle.verdicts.specs.declared.outcome.Verdict.TheVariants.{Ok as Accepted}
use Rattle.gateway.specs.Accepted.{AreRefused, IsFirstAccepted, verification_seen}
use Rattle.gateway.specs.Arrivals.{Arrival}
use Rattle.gateway.specs.Forwarded.{IsHeldFor, IsOwnSpec, IsPassed}
use Rattle.gateway.specs.Laws.{HasOneListOfRecords, IsServedInOneWay}
use Rattle.gateway.specs.Records.{GatewayState, IsLetIn, IsLetOn, IsRecordOf, IsStopped}
use Rattle.gateway.specs.Seen.{IsAdvanced, IsEntryOf, Remembers}
use Rattle.gateway.specs.Streams.{AddsRecord, LeadTo, MeetsBody, MeetsItem, RelatedRequest, StreamState, stream_begin}
use Rattle.gateway.specs.declared.gateway_record.GatewayRecord.{GatewayRecord}
use Rattle.gateway.specs.declared.gateway_record.GatewayRecord.TheVariants.{Pass, Stop, Held, Bad}
use Rattle.gateway.proofs.Counting.{Distinct, as_many, distinct_more, distinct_same, many, more_same, none_many}
use Rattle.gateway.proofs.RecordLaws.{one_book, one_record}
use Rattle.gateway.proofs.Remembering.{entry_or_not, new_nonce}
use Rattle.gateway.proofs.SameBooks.{AllLive, AreSame, advanced_same, all_live, distinct_too, same_verdict, same_verdict_back}
use Rattle.gateway.proofs.SomeRecords.{some_after}

-- ---- a message, by two books with the same entries

module _ (settings : GatewayConf) (conf : Configuration) (count : ℕ) (arrival : Arrival) (one other : Book) (same : AreSame one other) (live : AllLive one) where
  abbrev state : Book → GatewayState
  state book = record { conf = conf; seen = book; count = count }

  refused_too : (context : MessageContext) (labels : List (List ℕ)) → AreRefused (verification_seen conf one context) labels → AreRefused (verification_seen conf other context) labels
  refused_too context labels refused = λ k d lt keyid accepts. refused k d lt keyid (same_verdict_back conf one other same context _ (Accepted keyid) accepts)

  first_too : (context : MessageContext) (labels : List (List ℕ)) (label keyid : List ℕ) → IsFirstAccepted (verification_seen conf one context) labels label keyid
      → IsFirstAccepted (verification_seen conf other context) labels label keyid
  first_too context labels label keyid first = record {
    index = first.index;
    is = record {
      label = first.is.label;
      there = first.is.there;
      accepts = same_verdict conf one other same context first.is.label (Accepted keyid) first.is.accepts;
      before = refused_too context (take first.index labels) first.is.before;
    };
    label_is = first.label_is;
  }

  let_in_too : (context : MessageContext) (label keyid : List ℕ) (params : SigParams) → IsLetIn settings (state one) context label keyid params → IsLetIn settings (state other) context label keyid params
  let_in_too context label keyid params let_in = record {
    labels = let_in.labels;
    asked = let_in.asked;
    accepted = first_too context let_in.labels label keyid let_in.accepted;
    tag = let_in.tag;
    signature = let_in.signature;
  }

  stopped_too : (context : MessageContext) (label : List ℕ) (verdict : Verdict) → IsStopped settings (state one) context label verdict → IsStopped settings (state other) context label verdict
  stopped_too context label verdict stopped = record {
    labels = stopped.labels;
    asked = stopped.asked;
    refusal = record {
      first = stopped.refusal.first;
      none = refused_too context stopped.labels stopped.refusal.none;
      is = same_verdict conf one other same context label verdict stopped.refusal.is;
    };
  }

  -- the entry of an accepted signature isn't there yet
  put_distinct : (context : MessageContext) (label keyid : List ℕ) (params : SigParams) → IsLetIn settings (state one) context label keyid params → (entry : Entry) → IsEntryOf conf params keyid entry
      → Distinct (entry ∷ one.entries)
  put_distinct context label keyid params let_in entry is =
      let accepts = subst (λ (l : List ℕ). Accepts (verification_seen conf one context l) keyid) let_in.accepted.label_is let_in.accepted.is.accepts in
      let params_are = (has_one_signature context.message label accepts.params params accepts.tag let_in.tag accepts.signature let_in.signature).0 in
      let new = new_nonce (verification_seen conf one context label) keyid accepts is.policy entry.nonce (ap (λ (p : SigParams). policy_of conf p) params_are ∙ is.chosen) is.asks (ap (λ (p : SigParams). nonce_of p) params_are ∙ is.nonce) in
      let none : many (is_of keyid entry.nonce) one.entries ≡ 0 = live (is_of keyid entry.nonce) ∙ none_many (is_of keyid entry.nonce) (live_entries one.moment one.entries) new.1 in
      distinct_more entry one.entries same.distinct (subst (λ (k : List ℕ). many (is_of k entry.nonce) one.entries ≡ 0) (sym is.keyid_is) none)

  remembers_same : (context : MessageContext) (label keyid : List ℕ) (params : SigParams) (after another : Book) → IsLetIn settings (state one) context label keyid params → Remembers conf params keyid one after
      → Remembers conf params keyid other another → AreSame after another
  remembers_same context label keyid params after another let_in first second = elim (entry_or_not conf params keyid) [
    | inr none ↦
        subst (λ (b : Book). AreSame b another) (sym (first.none none)) (subst (λ (b : Book). AreSame one b) (sym (second.none none)) same)
    | inl entry ↦
        let a = first.one entry.0 entry.1 in
        let b = second.one entry.0 entry.1 in
        let distinct = put_distinct context label keyid params let_in entry.0 entry.1 in
        let left = as_many (entry.0 ∷ one.entries) after.entries distinct a.entries_are in
        let also = distinct_same (entry.0 ∷ one.entries) (entry.0 ∷ other.entries) (λ p. more_same p entry.0 one.entries other.entries (same.entries p)) distinct in
        let right = as_many (entry.0 ∷ other.entries) another.entries also b.entries_are in
        record {
          entries = λ p. left p ∙ (more_same p entry.0 one.entries other.entries (same.entries p) ∙ sym (right p));
          distinct = distinct_same (entry.0 ∷ one.entries) after.entries (λ p. sym (left p)) distinct;
          capacity = a.capacity ∙ (same.capacity ∙ sym b.capacity);
          window = a.window ∙ (same.window ∙ sym b.window);
          moment = a.moment ∙ (same.moment ∙ sym b.moment);
        }
  ]

  let_on_too : (Outcome : MessageContext → SigParams → SignSpec → Type 0) (context : MessageContext) (label : List ℕ) (after : Book) → IsLetOn settings (state one) context label Outcome after
      → (another : Book) × IsLetOn settings (state other) context label Outcome another × AreSame after another
  let_on_too Outcome context label after on =
      let next = some_after conf on.params on.keyid other in (
        next.0,
        record {
          keyid = on.keyid;
          params = on.params;
          let_in = let_in_too context label on.keyid on.params on.let_in;
          forwarded = on.forwarded;
          steps = on.steps;
          spec = on.spec;
          spec_is = subst (λ n. IsOwnSpec conf n on.forwarded on.spec) same.moment on.spec_is;
          outcome = on.outcome;
          remembers = next.1;
        },
        remembers_same context label on.keyid on.params after next.0 on.let_in on.remembers next.1,
      )

  -- the message has the same record by the other book
  abbrev Moved : GatewayRecord → Book → Type 0
  Moved record_ after = (another : Book) × IsRecordOf settings (state other) arrival record_ another × AreSame after another

  moved : (record_ : GatewayRecord) (after : Book) → IsRecordOf settings (state one) arrival record_ after → Moved record_ after
  moved (Bad index fault) after is = (other, (is.0, is.1, refl), subst (λ (b : Book). AreSame b other) (sym is.2) same)
  moved (Stop index label verdict) after is = (other, (is.0, refl, is.2, is.3, stopped_too is.2 label verdict is.4), subst (λ (b : Book). AreSame b other) (sym is.1) same)
  moved (Held index fault) after is =
      let on = let_on_too (λ made params spec. IsHeldFor made params spec fault) is.1 is.3 after is.4 in
      (on.0, (is.0, is.1, is.2, is.3, on.1), on.2)
  moved (Pass index label text) after is =
      let on = let_on_too (λ made params spec. IsPassed made params spec text) is.1 label after is.3 in
      (on.0, (is.0, is.1, is.2, on.1), on.2)

  one_answer : (record_ another : GatewayRecord) (after last : Book) → IsRecordOf settings (state one) arrival record_ after → IsRecordOf settings (state other) arrival another last
      → (record_ ≡ another) × AreSame after last
  one_answer record_ another after last a b =
      let m = moved record_ after a in
      let is = one_record settings (state other) arrival record_ another m.0 last m.1 b in
      let book = one_book settings (state other) arrival record_ m.0 last m.1 (subst (λ (r : GatewayRecord). IsRecordOf settings (state other) arrival r last) (sym is) b) in
      let its : HaveSameEntries last.entries m.0.entries =
      record { members = λ entry. let own = book.entries_are.members entry in (own.1, own.0); length = sym book.entries_are.length } in
      let also = as_many m.0.entries last.entries (distinct_too after m.0 m.2) its in (
        is,
        record {
          entries = λ p. m.2.entries p ∙ sym (also p);
          distinct = m.2.distinct;
          capacity = m.2.capacity ∙ book.capacity;
          window = m.2.window ∙ book.window;
          moment = m.2.moment ∙ book.moment;
        },
      )

-- ---- items

-- both say the same of the next message
record SameStates (one other : StreamState) : Type 0 where
  moment : one.moment ≡ other.moment
  related : one.related ≡ other.related
  records : one.records ≡ other.records
  seen : AreSame one.seen other.seen

module _ (conf : Configuration) (settings : GatewayConf) where
  adds_same : (before other after another : StreamState) (arrival : Arrival) → SameStates before other → AddsRecord conf settings before arrival after → AddsRecord conf settings other arrival another
      → SameStates after another
  adds_same before other after another arrival same a b =
      let advanced = subst (λ n. IsAdvanced n other.seen b.answers.seen) (sym same.moment) b.answers.advanced in
      let answers = subst (λ (rs : List GatewayRecord). IsRecordOf settings (record { conf = conf; seen = b.answers.seen; count = length rs }) arrival b.record_ another.seen) (sym same.records) b.answers.is in
      let books = advanced_same before.moment before.seen other.seen a.answers.seen b.answers.seen same.seen a.answers.advanced advanced in
      let live = all_live before.moment before.seen a.answers.seen same.seen.distinct a.answers.advanced in
      let one = one_answer settings conf (length before.records) arrival a.answers.seen b.answers.seen books live a.record_ b.record_ after.seen another.seen a.answers.is answers in
      record {
        moment = a.moment ∙ (same.moment ∙ sym b.moment);
        related = a.related ∙ sym b.related;
        records = a.records ∙ ((λ i. same.records i ++ one.0 i ∷ []) ∙ sym b.records);
        seen = one.1;
      }

  -- equal ones are the same as equal ones
  both_are : (one other after another : StreamState) → after ≡ one → another ≡ other → SameStates one other → SameStates after another
  both_are one other after another a b same =
      subst (λ (s : StreamState). SameStates s another) (sym a) (subst (λ (s : StreamState). SameStates one s) (sym b) same)

  body_same : (before other after another : StreamState) (related : Option RelatedRequest) (offset : ℕ) (body : Body) → SameStates before other → MeetsBody conf settings before related offset body after
      → MeetsBody conf settings other related offset body another → SameStates after another
  body_same before other after another None offset (moment seconds) same a b =
      both_are (record before { moment = seconds }) (record other { moment = seconds }) after another a b
      (record { moment = refl; related = same.related; records = same.records; seen = same.seen })
  body_same before other after another None offset (stored (message Related) text) same a b =
      let request = Some (record { offset = offset; text = text }) in
      both_are (record before { related = request }) (record other { related = request }) after another a b
      (record { moment = same.moment; related = refl; records = same.records; seen = same.seen })
  body_same before other after another None offset (stored (message Request) text) same a b =
      adds_same before other after another (record { role = Request; text = text; related = None }) same a b
  body_same before other after another None offset (stored (message Response) text) same a b =
      adds_same before other after another (record { role = Response; text = text; related = None }) same a b
  body_same before other after another (Some request) offset (stored (message Response) text) same a b =
      adds_same before other after another (record { role = Response; text = text; related = Some request.text }) same a b
  body_same before other after another related offset body same a b = absurd a

  lead_same : (items : List PlacedItem) (before other after another : StreamState) → SameStates before other
      → FoldsTo (λ before item after. MeetsItem conf settings before item after) before items after
      → FoldsTo (λ before item after. MeetsItem conf settings before item after) other items another → SameStates after another
  lead_same [] before other after another same a b = both_are before other after another (sym a) (sym b) same
  lead_same (item ∷ items) before other after another same a b =
      let here = subst (λ (r : Option RelatedRequest). MeetsBody conf settings other r item.offset item.body b.0) (sym same.related) b.1 in
      let next = body_same before other a.0 b.0 before.related item.offset item.body same a.1 here in
      lead_same items a.0 b.0 after another next a.2 b.2

  begins_same : SameStates (stream_begin conf) (stream_begin conf)
  begins_same = record {
    moment = refl;
    related = refl;
    records = refl;
    seen = record { entries = λ p. refl; distinct = λ keyid nonce. omega arith; capacity = refl; window = refl; moment = refl };
  }

pub one_list_of_records : HasOneListOfRecords
one_list_of_records conf settings items one other a b = (lead_same conf settings items (stream_begin conf) (stream_begin conf) one other (begins_same conf settings) a b).records

pub served_in_one_way : IsServedInOneWay
served_in_one_way conf settings text records others a b =
    let items = one_recording text a.items b.items a.spells b.spells in
    let leads = subst (λ (list : List PlacedItem). LeadTo conf settings list a.state) items a.leads in
    sym a.records_are ∙ (one_list_of_records conf settings b.items a.state b.state leads b.leads ∙ b.records_are)
