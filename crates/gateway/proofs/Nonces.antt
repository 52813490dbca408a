-- What is remembered stays so until its last moment: no nonce is accepted twice.
use Rattle.std.proofs.Common.{◌≡◌, ◌≤◌, ℕ, zero, suc, true, false, nat_le, Option, Some, None, List, [], ◌∷◌, ◌++◌, length, refl, sym, ap, subst, ◌∙◌, inl, inr, arith, le_trans}
use Rattle.std.specs.List.{Contains}
use Rattle.std.specs.List.Sorted.{IsNonDecreasing}
use Rattle.std.proofs.lemmas.Bool.{cases_Bool, false≢true, le-leb, leb-false, leb-true, or_right}
use Rattle.std.proofs.lemmas.List.Elements.{Contains-append_right}
use Rattle.std.proofs.lemmas.List.Sorted.{IsNonDecreasingBy-drop}
use Rattle.std.proofs.lemmas.Slice.Eq.{bytes_eq-Decides}
use Rattle.nonces.specs.Books.{Book, Entry, is_live, is_of, is_seen, live_entries}
use Rattle.recording.specs.Items.{Body, PlacedItem, message, moment, moment_in, script, stored}
use Rattle.recording.specs.Recordings.{bodies, moments}
use Rattle.recording.specs.declared.item.Role.TheVariants.{Request, Response, Related}
use Rattle.settings.specs.Configuration.{Configuration}
use Rattle.settings.specs.declared.gateway_conf.GatewayConf.{GatewayConf}
use Rattle.signatures.specs.Signatures.{HasSignature}
use Rattle.signatures.proofs.Reading.{has_one_signature}
use Rattle.verdicts.specs.Choice.{policy_of}
use Rattle.verdicts.specs.Parameters.{nonce_of}
use Rattle.verdicts.specs.Verdicts.{Accepts}
use Rattle.gateway.specs.Accepted.{verification_seen}
use Rattle.gateway.specs.Arrivals.{Arrival}
use Rattle.gateway.specs.Laws.{AcceptsEntry, IsNoNonceTwice}
use Rattle.gateway.specs.Records.{GatewayState, IsRecordOf}
use Rattle.gateway.specs.Seen.{IsAdvanced}
use Rattle.gateway.specs.Streams.{AddsRecord, LeadOn, MeetsBody, RelatedRequest, StreamState, stream_begin}
use Rattle.gateway.specs.declared.gateway_record.GatewayRecord.{GatewayRecord}
use Rattle.gateway.specs.declared.gateway_record.GatewayRecord.TheVariants.{Pass, Stop, Held, Bad}
use Rattle.gateway.proofs.Remembering.{new_nonce, remembered_stay}

-- ---- entries of a book

still_live : (now : ℕ) (xs : List Entry) (e : Entry) → now ≤ e.until → Contains xs e → Contains (live_entries now xs) e
still_live now [] e lives there = there
still_live now (x ∷ xs) e lives (zero, lt, is) = rw (is, le-leb now e.until lives) (0, omega arith, refl)
still_live now (x ∷ xs) e lives (suc k, lt, is) =
    let later = still_live now xs e lives (k, omega (arith, lt), is) in
    elim (cases_Bool (is_live now x)) [
      | inl passes ↦ rw passes (Contains-append_right (x ∷ []) (live_entries now xs) e later)
      | inr fails ↦ rw fails later
    ]

own_entry : (e : Entry) → is_of e.keyid e.nonce e ≡ true
own_entry e = rw ((bytes_eq-Decides e.keyid e.keyid).1 refl, (bytes_eq-Decides e.nonce e.nonce).1 refl) refl

seen_there : (xs : List Entry) (e : Entry) → Contains xs e → is_seen e.keyid e.nonce xs ≡ true
seen_there [] e (k, lt, is) = absurd (omega (arith, lt))
seen_there (x ∷ xs) e (zero, lt, is) = rw (is, own_entry e) refl
seen_there (x ∷ xs) e (suc k, lt, is) =
    or_right (is_of e.keyid e.nonce x) (is_seen e.keyid e.nonce xs) (seen_there xs e (k, omega (arith, lt), is))

advanced_stay : (now : ℕ) (before after : Book) (e : Entry) → IsAdvanced now before after → now ≤ e.until → Contains before.entries e → Contains after.entries e
advanced_stay now before after e advanced lives there = (advanced.entries_are.members e).1 (still_live now before.entries e lives there)

-- ---- moments in order

tail_ordered : (a : ℕ) (xs : List ℕ) → IsNonDecreasing (a ∷ xs) → IsNonDecreasing xs
tail_ordered a xs order = IsNonDecreasingBy-drop (λ (x : ℕ). x) 1 (a ∷ xs) order

head_ordered : (a b : ℕ) (xs : List ℕ) → IsNonDecreasing (a ∷ b ∷ xs) → a ≤ b
head_ordered a b xs order = order 0 1 0 (omega arith) (omega arith)

from_zero : (xs : List ℕ) → IsNonDecreasing xs → IsNonDecreasing (0 ∷ xs)
from_zero xs order zero j d below within = omega arith
from_zero xs order (suc i) zero d below within = absurd (omega (arith, below))
from_zero xs order (suc i) (suc j) d below within = order i j d (omega (arith, below)) (omega (arith, within))

-- ---- over a stream

module _ (conf : Configuration) (settings : GatewayConf) where
  -- the moment doesn't fall, and those after it are in order
  abbrev GoesOn : StreamState → StreamState → List ℕ → Type 0
  GoesOn before after later = (before.moment ≤ after.moment) × IsNonDecreasing (after.moment ∷ later)

  same_goes_on : (before after : StreamState) (later : List ℕ) → after.moment ≡ before.moment → IsNonDecreasing (before.moment ∷ later) → GoesOn before after later
  same_goes_on before after later same order =
      (omega (arith, same), subst (λ (n : ℕ). IsNonDecreasing (n ∷ later)) (sym same) order)

  goes_on : (before after : StreamState) (related : Option RelatedRequest) (offset : ℕ) (body : Body) (later : List ℕ) → MeetsBody conf settings before related offset body after
      → IsNonDecreasing (before.moment ∷ (moment_in body ++ later)) → GoesOn before after later
  goes_on before after None offset (moment seconds) later meets order =
      let is : after.moment ≡ seconds = ap (λ (s : StreamState). s.moment) meets in (
        omega (arith, is, head_ordered before.moment seconds later order),
        subst (λ (n : ℕ). IsNonDecreasing (n ∷ later)) (sym is) (tail_ordered before.moment (seconds ∷ later) order),
      )
  goes_on before after None offset (stored (message Related) text) later meets order =
      same_goes_on before after later (ap (λ (s : StreamState). s.moment) meets) order
  goes_on before after None offset (stored (message Request) text) later meets order = same_goes_on before after later meets.moment order
  goes_on before after None offset (stored (message Response) text) later meets order = same_goes_on before after later meets.moment order
  goes_on before after None offset (stored script text) later meets order = absurd meets
  goes_on before after (Some request) offset (moment seconds) later meets order = absurd meets
  goes_on before after (Some request) offset (stored (message Related) text) later meets order = absurd meets
  goes_on before after (Some request) offset (stored (message Request) text) later meets order = absurd meets
  goes_on before after (Some request) offset (stored (message Response) text) later meets order = same_goes_on before after later meets.moment order
  goes_on before after (Some request) offset (stored script text) later meets order = absurd meets

  all_go_on : (before : StreamState) (items : List PlacedItem) (after : StreamState) (more : List PlacedItem) → LeadOn conf settings before items after
      → IsNonDecreasing (before.moment ∷ moments (bodies (items ++ more))) → IsNonDecreasing (after.moment ∷ moments (bodies more))
  all_go_on before [] after more same order = subst (λ (s : StreamState). IsNonDecreasing (s.moment ∷ moments (bodies more))) same order
  all_go_on before (item ∷ items) after more (mid, meets, leads) order =
      all_go_on mid items after more leads (goes_on before mid before.related item.offset item.body (moments (bodies (items ++ more))) meets order).1

  module _ (entry : Entry) where
    abbrev IsKept : Book → Type 0
    IsKept book = Contains book.entries entry

    record_keeps : (state : GatewayState) (arrival : Arrival) (answer : GatewayRecord) (after : Book) → IsRecordOf settings state arrival answer after → IsKept state.seen → IsKept after
    record_keeps state arrival (Bad index fault) after is there = subst IsKept (sym is.2) there
    record_keeps state arrival (Stop index label verdict) after is there = subst IsKept (sym is.1) there
    record_keeps state arrival (Held index fault) after is there =
        remembered_stay state.conf is.4.params is.4.keyid state.seen after entry is.4.remembers there
    record_keeps state arrival (Pass index label text) after is there =
        remembered_stay state.conf is.3.params is.3.keyid state.seen after entry is.3.remembers there

    message_keeps : (before : StreamState) (arrival : Arrival) (after : StreamState) → AddsRecord conf settings before arrival after → before.moment ≤ entry.until
        → IsKept before.seen → IsKept after.seen
    message_keeps before arrival after adds lives there =
        let answers = adds.answers in
        record_keeps (record { conf = conf; seen = answers.seen; count = length before.records }) arrival adds.record_ after.seen answers.is
        (advanced_stay before.moment before.seen answers.seen entry answers.advanced lives there)

    item_keeps : (before after : StreamState) (related : Option RelatedRequest) (offset : ℕ) (body : Body) → MeetsBody conf settings before related offset body after
        → before.moment ≤ entry.until → IsKept before.seen → IsKept after.seen
    item_keeps before after None offset (moment seconds) meets lives there = subst (λ (s : StreamState). IsKept s.seen) (sym meets) there
    item_keeps before after None offset (stored (message Related) text) meets lives there = subst (λ (s : StreamState). IsKept s.seen) (sym meets) there
    item_keeps before after None offset (stored (message Request) text) meets lives there = message_keeps before _ after meets lives there
    item_keeps before after None offset (stored (message Response) text) meets lives there = message_keeps before _ after meets lives there
    item_keeps before after None offset (stored script text) meets lives there = absurd meets
    item_keeps before after (Some request) offset (moment seconds) meets lives there = absurd meets
    item_keeps before after (Some request) offset (stored (message Related) text) meets lives there = absurd meets
    item_keeps before after (Some request) offset (stored (message Request) text) meets lives there = absurd meets
    item_keeps before after (Some request) offset (stored (message Response) text) meets lives there = message_keeps before _ after meets lives there
    item_keeps before after (Some request) offset (stored script text) meets lives there = absurd meets

    -- where it still lives after the items, it lived before each of them
    all_keep : (before : StreamState) (items : List PlacedItem) (after : StreamState) → LeadOn conf settings before items after
        → IsNonDecreasing (before.moment ∷ moments (bodies items)) → (before.moment ≤ entry.until → IsKept before.seen) → after.moment ≤ entry.until → IsKept after.seen
    all_keep before [] after same order kept = subst (λ (s : StreamState). s.moment ≤ entry.until → IsKept s.seen) same kept
    all_keep before (item ∷ items) after (mid, meets, leads) order kept =
        let goes = goes_on before mid before.related item.offset item.body (moments (bodies items)) meets order in
        all_keep mid items after leads goes.1 (λ lives.
        let lived : before.moment ≤ entry.until = le_trans goes.0 lives in
        item_keeps before mid before.related item.offset item.body meets lived (kept lived))

  -- the nonce of an accepted message isn't seen where it comes
  new_entry : (before : StreamState) (item : PlacedItem) (after : StreamState) (other : Entry) (is : AcceptsEntry conf settings before item after other)
      → is_seen other.keyid other.nonce (live_entries before.moment is.adds.answers.seen.entries) ≡ false
  new_entry before item after other is =
      let seen = is.adds.answers.seen in
      let first = is.let_in.accepted in
      let v = verification_seen conf seen is.context first.is.label in
      let a : Accepts v is.keyid = first.is.accepts in
      let has : HasSignature is.context.message first.is.label is.params is.let_in.tag =
      subst (λ (l : List ℕ). HasSignature is.context.message l is.params is.let_in.tag) (sym first.label_is) is.let_in.signature in
      let one : a.params ≡ is.params = (has_one_signature is.context.message first.is.label a.params is.params a.tag is.let_in.tag a.signature has).0 in
      let new = (new_nonce v is.keyid a is.entry_is.policy other.nonce (ap (policy_of conf) one ∙ is.entry_is.chosen) is.entry_is.asks (ap nonce_of one ∙ is.entry_is.nonce)).1 in
      ap (λ (k : List ℕ). is_seen k other.nonce (live_entries before.moment seen.entries)) is.entry_is.keyid_is
      ∙ (ap (λ (n : ℕ). is_seen is.keyid other.nonce (live_entries n seen.entries)) (sym is.adds.answers.advanced.moment)
      ∙ new)

  -- it is remembered after its message
  first_kept : (before : StreamState) (item : PlacedItem) (after : StreamState) (entry : Entry) → AcceptsEntry conf settings before item after entry → Contains after.seen.entries entry
  first_kept before item after entry is =
      ((is.remembers.one entry is.entry_is).entries_are.members entry).1 (0, omega arith, refl)

pub is_no_nonce_twice : IsNoNonceTwice
is_no_nonce_twice conf settings items between item later before after next last entry other order leads first goes second keyids nonces =
    elim (cases_Bool (nat_le next.moment entry.until)) [
      | inr over ↦ omega (arith, leb-false next.moment entry.until over)
      | inl lives_yet ↦
          let lives : next.moment ≤ entry.until = leb-true next.moment entry.until lives_yet in
          let seen = second.adds.answers.seen in
          let from_first = all_go_on conf settings (stream_begin conf) items before (item ∷ between) leads (from_zero (moments (bodies (items ++ item ∷ between))) order) in
          let from_after = goes_on conf settings before after before.related item.offset item.body (moments (bodies between)) first.meets from_first in
          let kept = all_keep conf settings entry after between next goes from_after.1 (λ _. first_kept conf settings before item after entry first) lives in
          let there = still_live next.moment seen.entries entry lives (advanced_stay next.moment next.seen seen entry second.adds.answers.advanced lives kept) in
          let again : is_seen entry.keyid entry.nonce (live_entries next.moment seen.entries) ≡ true = seen_there (live_entries next.moment seen.entries) entry there in
          let same : is_seen entry.keyid entry.nonce (live_entries next.moment seen.entries) ≡ is_seen other.keyid other.nonce (live_entries next.moment seen.entries) =
          ap (λ (k : List ℕ). is_seen k entry.nonce (live_entries next.moment seen.entries)) keyids
          ∙ ap (λ (n : List ℕ). is_seen other.keyid n (live_entries next.moment seen.entries)) nonces in
          absurd (false≢true (sym (new_entry conf settings next later last other second) ∙ (sym same ∙ again)))
    ]
