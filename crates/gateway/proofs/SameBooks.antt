-- Books with the same entries, in whatever order: a label has the same verdict by both.
use Rattle.std.proofs.Common.{◌≡◌, ℕ, true, nat_le, Option, Some, None, IfSome, IsTrue, List, length, sym, subst, ◌∙◌}
use Rattle.std.specs.Option.{IsSomeAnd}
use Rattle.byte_grammar.proofs.Indices.{some_and, some_and_parts}
use Rattle.component_ids.specs.declared.params.SigParams.{SigParams}
use Rattle.component_values.specs.Context.{MessageContext}
use Rattle.nonces.specs.Books.{Book, is_live, is_of, live_entries}
use Rattle.settings.specs.Configuration.{Configuration}
use Rattle.settings.specs.declared.policy.Policy.{Policy}
use Rattle.signatures.specs.declared.place.Place.{Place}
use Rattle.signatures.specs.declared.rule.Rule.{Rule}
use Rattle.signatures.specs.declared.rule.Rule.TheVariants.{MacMismatch, NonceRepeated, NoncesFull}
use Rattle.verdicts.specs.Parameters.{keyid_of, nonce_of}
use Rattle.verdicts.specs.Policies.{AcceptsByPolicy, IsNewNonce, IsReplay, LacksRoom, asks_new, is_full_at, is_replay}
use Rattle.verdicts.specs.Rules.{Fails}
use Rattle.verdicts.specs.Verdicts.{Accepts, IsVerdict}
use Rattle.verdicts.specs.Choice.{policy_of}
use Rattle.verdicts.specs.Verification.{Verification}
use Rattle.verdicts.specs.declared.outcome.Verdict.{Verdict}
use Rattle.verdicts.specs.declared.outcome.Verdict.TheVariants.{Ok as Accepted, Rule as Refused}
use Rattle.rewrites.specs.Laws.{verification_over}
use Rattle.gateway.specs.Accepted.{verification_seen}
use Rattle.gateway.specs.Seen.{IsAdvanced}
use Rattle.gateway.proofs.Counting.{Distinct, SameMany, any_same, as_many, distinct_filter, distinct_same, filter_same, filter_twice, length_many}

-- both have the same entries, each once
pub record AreSame (one other : Book) : Type 0 where
  pub entries : SameMany one.entries other.entries
  pub distinct : Distinct one.entries
  pub capacity : one.capacity ≡ other.capacity
  pub window : one.window ≡ other.window
  pub moment : one.moment ≡ other.moment

pub distinct_too : (one other : Book) → AreSame one other → Distinct other.entries
distinct_too one other same = distinct_same one.entries other.entries same.entries same.distinct

-- all entries live
abbrev pub AllLive : Book → Type 0
AllLive book = SameMany book.entries (live_entries book.moment book.entries)

module _ (now : ℕ) (before after : Book) (distinct : Distinct before.entries) (advanced : IsAdvanced now before after) where
  advanced_many : SameMany after.entries (live_entries now before.entries)
  advanced_many = as_many (live_entries now before.entries) after.entries (distinct_filter (is_live now) before.entries distinct) advanced.entries_are

  pub all_live : AllLive after
  all_live =
      let same : SameMany after.entries (live_entries now after.entries) =
      λ p. advanced_many p ∙ (sym (filter_twice p (is_live now) before.entries) ∙ sym (filter_same (is_live now) after.entries (live_entries now before.entries) advanced_many p)) in
      subst (λ n. SameMany after.entries (live_entries n after.entries)) (sym advanced.moment) same

-- what goes on to a moment stays the same
pub advanced_same : (now : ℕ) (one other first second : Book) → AreSame one other → IsAdvanced now one first → IsAdvanced now other second → AreSame first second
advanced_same now one other first second same a b =
    let left = advanced_many now one first same.distinct a in
    let right = advanced_many now other second (distinct_too one other same) b in
    record {
      entries = λ p. left p ∙ (filter_same (is_live now) one.entries other.entries same.entries p ∙ sym (right p));
      distinct = distinct_same (live_entries now one.entries) first.entries (λ p. sym (left p)) (distinct_filter (is_live now) one.entries same.distinct);
      capacity = a.capacity ∙ (same.capacity ∙ sym b.capacity);
      window = a.window ∙ (same.window ∙ sym b.window);
      moment = a.moment ∙ sym b.moment;
    }

-- ---- verdicts

-- the value that is there has another fact, where each that has the one has the other
some_has : {X : Type 0} (P Q : X → Type 0) (o : Option X) → ((x : X) → P x → Q x) → IsSomeAnd o P → IsSomeAnd o Q
some_has P Q (Some x) so has = so x has
some_has P Q None so has = absurd has

module _ (context : MessageContext) (label : List ℕ) (conf : Configuration) (now : ℕ) (one other : Book) (replays : (keyid nonce : List ℕ) → is_replay (Some one) now keyid nonce ≡ is_replay (Some other) now keyid nonce)
    (full : is_full_at now (Some one) ≡ is_full_at now (Some other)) where
  abbrev here : Verification
  here = verification_over context label conf now (Some one)

  abbrev there : Verification
  there = verification_over context label conf now (Some other)

  replay_too : (params : SigParams) (nonce : List ℕ) → IsReplay here params nonce → IsReplay there params nonce
  replay_too params nonce is =
      let own = some_and_parts (λ (keyid : List ℕ). IsTrue (is_replay (Some one) now keyid nonce)) (keyid_of params) is in
      some_and (λ (keyid : List ℕ). IsTrue (is_replay (Some other) now keyid nonce)) (keyid_of params) own.0 own.1 (sym (replays own.0 nonce) ∙ own.2)

  no_replay : (params : SigParams) (nonce : List ℕ) → ¬ IsReplay here params nonce → ¬ IsReplay there params nonce
  no_replay params nonce new is =
      let own = some_and_parts (λ (keyid : List ℕ). IsTrue (is_replay (Some other) now keyid nonce)) (keyid_of params) is in
      new (some_and (λ (keyid : List ℕ). IsTrue (is_replay (Some one) now keyid nonce)) (keyid_of params) own.0 own.1 (replays own.0 nonce ∙ own.2))

  new_too : (params : SigParams) (o : Option (List ℕ)) → IfSome o (IsNewNonce here params) → IfSome o (IsNewNonce there params)
  new_too params (Some nonce) new = record { new = no_replay params nonce new.new; short = new.short }
  new_too params None new = tt

  repeated_too : (params : SigParams) (o : Option (List ℕ)) → IsSomeAnd o (IsReplay here params) → IsSomeAnd o (IsReplay there params)
  repeated_too params (Some nonce) is = replay_too params nonce is
  repeated_too params None is = is

  lacks_too : (policy : Policy) (params : SigParams) → LacksRoom now (Some one) policy params → LacksRoom now (Some other) policy params
  lacks_too policy params lacks = record { asks = lacks.asks; nonce = lacks.nonce; full = sym full ∙ lacks.full }

  fails_too : (rule : Rule) (place : Place) → Fails here rule place → Fails there rule place
  fails_too NonceRepeated place fails =
      let params = fails.1.0 in
      let repeats : Verification → Policy → Type 0 = λ v policy. IsTrue (asks_new policy.nonce) × IsSomeAnd (nonce_of params) (IsReplay v params) in
      (fails.0, (params, fails.1.1, fails.1.2, some_has (repeats here) (repeats there) (policy_of conf params) (λ policy both. (both.0, repeated_too params (nonce_of params) both.1)) fails.1.3))
  fails_too NoncesFull place fails =
      let params = fails.1.0 in
      (fails.0, (params, fails.1.1, fails.1.2, some_has (λ policy. LacksRoom now (Some one) policy params) (λ policy. LacksRoom now (Some other) policy params) (policy_of conf params) (λ policy. lacks_too policy params) fails.1.3))
  fails_too MacMismatch place fails =
      let wrong = fails.1.3 in (
        fails.0,
        (
          fails.1.0,
          fails.1.1,
          fails.1.2,
          record { keyid = wrong.keyid; keyid_is = wrong.keyid_is; key = wrong.key; key_is = wrong.key_is; values = wrong.values; have = wrong.have; other = wrong.other },
        ),
      )
  fails_too rule place fails = fails

  policy_too : (policy : Policy) (params : SigParams) → AcceptsByPolicy here policy params → AcceptsByPolicy there policy params
  policy_too policy params accepts = record {
    covered = accepts.covered;
    created = accepts.created;
    has_expires = accepts.has_expires;
    unexpired = accepts.unexpired;
    tag = accepts.tag;
    has_nonce = accepts.has_nonce;
    nonce = λ asks. new_too params (nonce_of params) (accepts.nonce asks);
  }

  accepts_too : (keyid : List ℕ) → Accepts here keyid → Accepts there keyid
  accepts_too keyid accepts = record {
    params = accepts.params;
    tag = accepts.tag;
    signature = accepts.signature;
    alg = accepts.alg;
    keyid_is = accepts.keyid_is;
    key = accepts.key;
    key_is = accepts.key_is;
    policy = accepts.policy;
    chosen = accepts.chosen;
    accepted = policy_too accepts.policy accepts.params accepts.accepted;
    values = accepts.values;
    have = accepts.have;
    mac = accepts.mac;
    digest = accepts.digest;
    room = λ asks nonce. sym full ∙ accepts.room asks nonce;
  }

verdict_too : (context : MessageContext) (label : List ℕ) (conf : Configuration) (now : ℕ) (one other : Book) → ((keyid nonce : List ℕ) → is_replay (Some one) now keyid nonce ≡ is_replay (Some other) now keyid nonce)
    → is_full_at now (Some one) ≡ is_full_at now (Some other) → (verdict : Verdict) → IsVerdict (verification_over context label conf now (Some one)) verdict
    → IsVerdict (verification_over context label conf now (Some other)) verdict
verdict_too context label conf now one other replays full (Accepted keyid) accepts = accepts_too context label conf now one other replays full keyid accepts
verdict_too context label conf now one other replays full (Refused rule place) first = record {
  holds = fails_too context label conf now one other replays full rule place first.holds;
  none_before = λ failure lt fails.
      first.none_before failure lt (fails_too context label conf now other one (λ keyid nonce. sym (replays keyid nonce)) (sym full) failure.rule failure.place fails);
}

module _ (conf : Configuration) (one other : Book) (same : AreSame one other) where
  replays_same : (now : ℕ) (keyid nonce : List ℕ) → is_replay (Some one) now keyid nonce ≡ is_replay (Some other) now keyid nonce
  replays_same now keyid nonce =
      any_same (is_of keyid nonce) (live_entries now one.entries) (live_entries now other.entries) (filter_same (is_live now) one.entries other.entries same.entries)

  full_same : (now : ℕ) → is_full_at now (Some one) ≡ is_full_at now (Some other)
  full_same now =
      let own = live_entries now one.entries in
      let its = live_entries now other.entries in
      let long : length own ≡ length its = length_many own ∙ (filter_same (is_live now) one.entries other.entries same.entries (λ e. true) ∙ sym (length_many its)) in
      λ i. nat_le (same.capacity i) (long i)

  -- the verdict on a label is the same by both
  pub same_verdict : (context : MessageContext) (label : List ℕ) (verdict : Verdict) → IsVerdict (verification_seen conf one context label) verdict → IsVerdict (verification_seen conf other context label) verdict
  same_verdict context label verdict is =
      subst (λ n. IsVerdict (verification_over context label conf n (Some other)) verdict) same.moment
      (verdict_too context label conf one.moment one other (replays_same one.moment) (full_same one.moment) verdict is)

  pub same_verdict_back : (context : MessageContext) (label : List ℕ) (verdict : Verdict) → IsVerdict (verification_seen conf other context label) verdict → IsVerdict (verification_seen conf one context label) verdict
  same_verdict_back context label verdict is =
      subst (λ n. IsVerdict (verification_over context label conf n (Some one)) verdict) (sym same.moment)
      (verdict_too context label conf other.moment other one (λ keyid nonce. sym (replays_same other.moment keyid nonce)) (sym (full_same other.moment)) verdict is)
