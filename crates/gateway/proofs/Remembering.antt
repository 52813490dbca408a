-- What a book of nonces remembers of an accepted signature.
use Rattle.std.proofs.Common.{◌≡◌, ◌≤◌, ◌+◌, ◌*◌, ℕ, ℤ, pos, negsuc, ◌+ℤ◌, ◌≤ℤ◌, unsigned_abs, true, false, ◌&&◌, nat_le, IsTrue, Option, Some, None, IfSome, List, [], ◌∷◌, length, refl, sym, ap, subst, ◌∙◌, inl, inr, ◌⊎◌, arith}
use Rattle.std.specs.List.{Contains, list_all}
use Rattle.std.proofs.lemmas.Bool.{and_parts, cases_Bool, false≢true, false_from_ne_true, leb-true}
use Rattle.std.proofs.lemmas.Int.{ints}
use Rattle.std.proofs.lemmas.List.Elements.{Contains-append_right}
use Rattle.byte_grammar.proofs.Indices.{some_and, some_and_at}
use Rattle.sfv_text.specs.Range.{is_string_byte}
use Rattle.component_ids.specs.declared.params.SigParams.{SigParams}
use Rattle.settings.specs.Configuration.{Configuration}
use Rattle.settings.specs.Valid.{IsValid}
use Rattle.settings.specs.ValidSections.{IsValidPolicy}
use Rattle.settings.specs.declared.limits.TheConstants.{MAX_SKEW}
use Rattle.settings.specs.declared.policy.Policy.{Policy}
use Rattle.settings.proofs.ChosenLaws.{chosen_is_one}
use Rattle.nonces.specs.Books.{Book, Entry, HaveSameEntries, IsBook, is_full, is_seen}
use Rattle.nonces.specs.declared.limits.TheConstants.{MAX_KEYID_BYTES, MAX_MOMENT, MAX_NONCE_BYTES}
use Rattle.nonces.proofs.Held.{live_of_book}
use Rattle.signatures.proofs.Reading.{has_one_signature}
use Rattle.verdicts.specs.Choice.{policy_of, window_of}
use Rattle.verdicts.specs.Parameters.{created_of, keyid_of, nonce_of, tag_param_of}
use Rattle.verdicts.specs.Policies.{IsFresh, IsNewNonce, asks_new, is_full_at, is_replay}
use Rattle.verdicts.specs.Verdicts.{Accepts}
use Rattle.verdicts.specs.Verification.{Verification}
use Rattle.verdicts.proofs.PolicyFailures.{full_where}
use Rattle.verdicts.proofs.Windows.{covers_each_policy}
use Rattle.gateway.specs.Seen.{IsEntryOf, Remembers}
use Rattle.gateway.specs.declared.accepted.AcceptedLabel.{AcceptedLabel}
use Rattle.gateway.specs.tools.Judged.{IsAcceptedNow}

if_some_at : {X : Type 0} (P : X → Type 0) (o : Option X) (x : X) → o ≡ Some x → IfSome o P → P x
if_some_at P o x is here = rw is at here

-- ---- what is accepted

-- one policy is chosen
one_policy : (o : Option Policy) (policy other : Policy) → o ≡ Some policy → o ≡ Some other → policy ≡ other
one_policy o policy other a b = let e : Some policy ≡ Some other = sym a ∙ b in cc

-- the nonce of an accepted signature is short, and isn't remembered
pub new_nonce : (v : Verification) (keyid : List ℕ) (a : Accepts v keyid) (policy : Policy) (nonce : List ℕ) → policy_of v.conf a.params ≡ Some policy → asks_new policy.nonce ≡ true
    → nonce_of a.params ≡ Some nonce → (length nonce ≤ MAX_NONCE_BYTES) × (is_replay v.seen v.now keyid nonce ≡ false)
new_nonce v keyid a policy nonce chosen asks is =
    let asks_a : asks_new a.policy.nonce ≡ true = ap (λ (p : Policy). asks_new p.nonce) (one_policy (policy_of v.conf a.params) a.policy policy a.chosen chosen) ∙ asks in
    let new : IsNewNonce v a.params nonce = if_some_at (IsNewNonce v a.params) (nonce_of a.params) nonce is (a.accepted.nonce asks_a) in (
      new.short,
      false_from_ne_true (is_replay v.seen v.now keyid nonce)
          (λ again. new.new (some_and (λ (id : List ℕ). IsTrue (is_replay v.seen v.now id nonce)) (keyid_of a.params) keyid a.keyid_is again)),
    )

-- the signature of an accepted label can be put into a book
pub record CanBePut (policy : Policy) (seen : Book) (keyid nonce : List ℕ) (created : ℤ) : Type 0 where
  pub keyid_short : length keyid ≤ MAX_KEYID_BYTES
  pub nonce_short : length nonce ≤ MAX_NONCE_BYTES
  pub new : is_seen keyid nonce seen.entries ≡ false
  pub room : is_full seen ≡ false
  pub fresh : IsFresh policy seen.moment created

module _ (conf : Configuration) (seen : Book) (accepted : AcceptedLabel) (now : IsAcceptedNow conf seen accepted) where
  abbrev v : Verification
  v = now.0

  abbrev a : Accepts v accepted.keyid
  a = now.1

  one_params : a.params ≡ accepted.params
  one_params = (has_one_signature v.context.message v.label a.params accepted.params a.tag now.2.tag a.signature now.2.signature).0

  pub has_created : ¬ (created_of accepted.params ≡ None)
  has_created none =
      let of_a : created_of a.params ≡ None = ap created_of one_params ∙ none in
      rw of_a at a.accepted.created

  pub has_policy : ¬ (policy_of conf accepted.params ≡ None)
  has_policy none =
      let own : policy_of conf accepted.params ≡ Some a.policy = (λ i. policy_of (sym now.3 i) (sym one_params i)) ∙ a.chosen in
      let e : Some a.policy ≡ None = sym own ∙ none in
      absurd cc

  short_keyid : IsValid conf → length accepted.keyid ≤ MAX_KEYID_BYTES
  short_keyid valid =
      let valid_v : IsValid v.conf = subst IsValid (sym now.3) valid in
      let parts = and_parts (nat_le 1 (length accepted.keyid) && nat_le (length accepted.keyid) MAX_KEYID_BYTES) (list_all is_string_byte accepted.keyid) (valid_v.keyids accepted.keyid a.key a.key_is) in
      leb-true (length accepted.keyid) MAX_KEYID_BYTES (and_parts (nat_le 1 (length accepted.keyid)) (nat_le (length accepted.keyid) MAX_KEYID_BYTES) parts.0).1

  pub can_be_put : IsValid conf → IsBook seen → (policy : Policy) (nonce : List ℕ) (created : ℤ) → policy_of conf accepted.params ≡ Some policy → asks_new policy.nonce ≡ true
      → nonce_of accepted.params ≡ Some nonce → created_of accepted.params ≡ Some created → CanBePut policy seen accepted.keyid nonce created
  can_be_put valid book policy nonce created chosen asks nonce_is created_is =
      let chosen_v : policy_of v.conf a.params ≡ Some policy = (λ i. policy_of (now.3 i) (one_params i)) ∙ chosen in
      let one : a.policy ≡ policy = one_policy (policy_of v.conf a.params) a.policy policy a.chosen chosen_v in
      let asks_a : asks_new a.policy.nonce ≡ true = ap (λ (p : Policy). asks_new p.nonce) one ∙ asks in
      let own : nonce_of a.params ≡ Some nonce = ap nonce_of one_params ∙ nonce_is in
      let new = new_nonce v accepted.keyid a policy nonce chosen_v asks own in
      let replay : is_replay (Some seen) seen.moment accepted.keyid nonce ≡ false =
      sym (ap (λ (b : Option Book). is_replay b v.now accepted.keyid nonce) now.5 ∙ ap (λ (n : ℕ). is_replay (Some seen) n accepted.keyid nonce) now.4) ∙ new.1 in
      let free : is_full_at v.now v.seen ≡ false = a.room asks_a (rw own refl) in
      let room : is_full_at seen.moment (Some seen) ≡ false =
      sym (ap (λ (b : Option Book). is_full_at v.now b) now.5 ∙ ap (λ (n : ℕ). is_full_at n (Some seen)) now.4) ∙ free in
      let fresh : IsFresh a.policy v.now created = some_and_at (IsFresh a.policy v.now) (created_of a.params) created (ap created_of one_params ∙ created_is) a.accepted.created in
      record {
        keyid_short = short_keyid valid;
        nonce_short = new.0;
        new = sym (ap (λ (es : List Entry). is_seen accepted.keyid nonce es) (live_of_book seen book)) ∙ replay;
        room = full_where seen book ∙ room;
        fresh = subst (λ (n : ℕ). IsFresh policy n created) now.4 (subst (λ (p : Policy). IsFresh p v.now created) one fresh);
      }

-- its last moment is one that the book can hold
pub early_enough : (policy : Policy) (seen : Book) (created : ℤ) → IsValidPolicy policy → IsBook seen → IsFresh policy seen.moment created → created ≤ℤ pos (MAX_MOMENT + MAX_SKEW)
early_enough policy seen created valid book fresh = omega (arith, ints, fresh.begun, book.early, valid.most_skew)

pub not_before_zero : (policy : Policy) (now : ℕ) (created : ℤ) → IsFresh policy now created → pos 0 ≤ℤ (created +ℤ pos policy.max_age)
not_before_zero policy now created fresh = omega (arith, ints, fresh.recent)

pub lives_now : (policy : Policy) (now until : ℕ) (created : ℤ) → IsFresh policy now created → pos until ≡ created +ℤ pos policy.max_age → now ≤ until
lives_now policy now until created fresh is = omega (arith, ints, fresh.recent, is)

pub dies_soon : (conf : Configuration) (policy : Policy) (params : SigParams) (now window until : ℕ) (created : ℤ) → policy_of conf params ≡ Some policy → IsFresh policy now created
    → pos until ≡ created +ℤ pos policy.max_age → window ≡ window_of conf → until ≤ now + window
dies_soon conf policy params now window until created chosen fresh is size =
    let within = covers_each_policy conf policy (chosen_is_one conf.policies (tag_param_of params) policy chosen) in
    let bound : policy.max_age + 2 * policy.skew ≤ window = subst (λ (n : ℕ). policy.max_age + 2 * policy.skew ≤ n) (sym size) within in
    omega (arith, ints, fresh.begun, is, bound)

-- ---- what is remembered

module _ (conf : Configuration) (params : SigParams) (keyid : List ℕ) where
  -- it stays as it is, where there is no entry
  pub remembers_none : (book : Book) → ((entry : Entry) → ¬ IsEntryOf conf params keyid entry) → Remembers conf params keyid book book
  remembers_none book none = record { one = λ entry is. absurd (none entry is); none = λ _. refl }

  pub no_entry_ignored : (policy : Policy) → policy_of conf params ≡ Some policy → asks_new policy.nonce ≡ false → (entry : Entry) → ¬ IsEntryOf conf params keyid entry
  no_entry_ignored policy chosen ignored entry is =
      false≢true (sym ignored ∙ (ap (λ (p : Policy). asks_new p.nonce) (one_policy (policy_of conf params) policy is.policy chosen is.chosen) ∙ is.asks))

  pub no_entry_without : nonce_of params ≡ None → (entry : Entry) → ¬ IsEntryOf conf params keyid entry
  no_entry_without none entry is = let e = sym none ∙ is.nonce in absurd cc

  abbrev entry_until : List ℕ → ℕ → Entry
  entry_until nonce until = record { keyid = keyid; nonce = nonce; until = until }

  module _ (policy : Policy) (chosen : policy_of conf params ≡ Some policy) where
    abbrev IsUntil : ℤ → ℕ → Type 0
    IsUntil created until = pos until ≡ created +ℤ pos policy.max_age

    is_entry : (nonce : List ℕ) (created : ℤ) (until : ℕ) → asks_new policy.nonce ≡ true → nonce_of params ≡ Some nonce → created_of params ≡ Some created → IsUntil created until
        → IsEntryOf conf params keyid (entry_until nonce until)
    is_entry nonce created until asks nonce_is created_is until_is = record {
      policy = policy;
      chosen = chosen;
      asks = asks;
      nonce = nonce_is;
      keyid_is = refl;
      until = some_and (λ (z : ℤ). IsUntil z until) (created_of params) created created_is until_is;
    }

    own_until : (created : ℤ) (entry : Entry) → created_of params ≡ Some created → IsEntryOf conf params keyid entry → IsUntil created entry.until
    own_until created entry created_is is =
        let own = some_and_at (λ (z : ℤ). pos entry.until ≡ z +ℤ pos is.policy.max_age) (created_of params) created created_is is.until in
        subst (λ (p : Policy). pos entry.until ≡ created +ℤ pos p.max_age) (one_policy (policy_of conf params) is.policy policy is.chosen chosen) own

    one_entry : (nonce : List ℕ) (created : ℤ) (until : ℕ) → nonce_of params ≡ Some nonce → created_of params ≡ Some created → IsUntil created until → (entry : Entry) → IsEntryOf conf params keyid entry
        → entry_until nonce until ≡ entry
    one_entry nonce created until nonce_is created_is until_is entry is =
        let nonces : Some nonce ≡ Some entry.nonce = sym nonce_is ∙ is.nonce in
        let same_nonce : nonce ≡ entry.nonce = cc in
        let same_until : until ≡ entry.until = ap unsigned_abs (until_is ∙ sym (own_until created entry created_is is)) in
        λ i. record { keyid = sym is.keyid_is i; nonce = same_nonce i; until = same_until i }

    -- the entry is put into the book
    pub remembers_one : (before after : Book) (nonce : List ℕ) (created : ℤ) (until : ℕ) → asks_new policy.nonce ≡ true → nonce_of params ≡ Some nonce → created_of params ≡ Some created
        → IsUntil created until → HaveSameEntries after.entries (entry_until nonce until ∷ before.entries) → after.moment ≡ before.moment
        → after.capacity ≡ before.capacity → after.window ≡ before.window → Remembers conf params keyid before after
    remembers_one before after nonce created until asks nonce_is created_is until_is same moment capacity window = record {
      one = λ entry is. record {
        entries_are =
            subst (λ (e : Entry). HaveSameEntries after.entries (e ∷ before.entries)) (one_entry nonce created until nonce_is created_is until_is entry is) same;
        moment = moment;
        capacity = capacity;
        window = window;
      };
      none = λ none. absurd (none (entry_until nonce until) (is_entry nonce created until asks nonce_is created_is until_is));
    }

  abbrev HasEntryOrNone : Type 0
  HasEntryOrNone = ((entry : Entry) × IsEntryOf conf params keyid entry) ⊎ ((entry : Entry) → ¬ IsEntryOf conf params keyid entry)

  module _ (policy : Policy) (chosen : policy_of conf params ≡ Some policy) (asks : asks_new policy.nonce ≡ true) where
    by_until : (nonce : List ℕ) (created z : ℤ) → nonce_of params ≡ Some nonce → created_of params ≡ Some created → z ≡ created +ℤ pos policy.max_age → HasEntryOrNone
    by_until nonce created (pos until) nonce_is created_is until_is = inl (entry_until nonce until, is_entry policy chosen nonce created until asks nonce_is created_is until_is)
    by_until nonce created (negsuc n) nonce_is created_is until_is =
        inr (λ entry is.
        let clash : negsuc n ≡ pos entry.until = until_is ∙ sym (own_until policy chosen created entry created_is is) in
        absurd cc)

    by_created : (nonce : List ℕ) (o : Option ℤ) → nonce_of params ≡ Some nonce → created_of params ≡ o → HasEntryOrNone
    by_created nonce None nonce_is none = inr (λ entry is. rw none at is.until)
    by_created nonce (Some created) nonce_is created_is = by_until nonce created (created +ℤ pos policy.max_age) nonce_is created_is refl

    by_nonce : (o : Option (List ℕ)) → nonce_of params ≡ o → HasEntryOrNone
    by_nonce None none = inr (no_entry_without none)
    by_nonce (Some nonce) is = by_created nonce (created_of params) is refl

  by_choice : (o : Option Policy) → policy_of conf params ≡ o → HasEntryOrNone
  by_choice None none = inr (λ entry is. let e = sym none ∙ is.chosen in absurd cc)
  by_choice (Some policy) chosen = elim (cases_Bool (asks_new policy.nonce)) [
    | inr ignored ↦ inr (no_entry_ignored policy chosen ignored)
    | inl asks ↦ by_nonce policy chosen asks (nonce_of params) refl
  ]

  -- a signature has an entry, or none
  pub entry_or_not : ((entry : Entry) × IsEntryOf conf params keyid entry) ⊎ ((entry : Entry) → ¬ IsEntryOf conf params keyid entry)
  entry_or_not = by_choice (policy_of conf params) refl

  -- what is in the book stays there
  pub remembered_stay : (before after : Book) (entry : Entry) → Remembers conf params keyid before after → Contains before.entries entry → Contains after.entries entry
  remembered_stay before after entry r there = elim entry_or_not [
    | inl one ↦ ((r.one one.0 one.1).entries_are.members entry).1 (Contains-append_right (one.0 ∷ []) before.entries entry there)
    | inr none ↦ subst (λ (b : Book). Contains b.entries entry) (sym (r.none none)) there
  ]
