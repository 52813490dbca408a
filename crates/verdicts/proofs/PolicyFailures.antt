-- Rules 17 to 26, and room for the nonce: rule 34.
use Rattle.std.proofs.Common.{◌≡◌, ◌⊎◌, ◌<◌, ◌≤◌, ◌+◌, ◌==◌, nat_le, is_some, ℕ, ℤ, pos, ◌+ℤ◌, ◌≤ℤ◌, ◌<ℤ◌, Bool, true, false, IsTrue, IsFalse, Option, Some, None, IsSome, IfSome, List, ◌∷◌, [], length, refl, sym, ap, ◌∙◌, arith, inl, inr}
use Rattle.std.specs.List.{All}
use Rattle.std.specs.Option.{IsSomeAnd}
use Rattle.std.specs.Str.{bytes_eq}
use Rattle.std.specs.Int.Signed.{clash_ℤ}
use Rattle.std.proofs.lemmas.Bool.{cases_Bool, cases_lt, false≢true, le-leb}
use Rattle.std.proofs.lemmas.Int.{by_lt_z}
use Rattle.std.proofs.lemmas.List.Elements.{All-head, All-tail, All-weaker}
use Rattle.std.proofs.lemmas.Slice.Eq.{bytes_eq-Decides}
use Rattle.byte_grammar.proofs.Indices.{some_and, some_and_at}
use Rattle.component_ids.specs.declared.id.ComponentId.{ComponentId}
use Rattle.component_ids.specs.declared.params.SigParams.{SigParams}
use Rattle.settings.specs.declared.policy.Policy.{Policy}
use Rattle.settings.specs.declared.policy.NonceUse.{NonceUse}
use Rattle.settings.specs.declared.policy.NonceUse.TheVariants.{Ignore, Check, Require}
use Rattle.nonces.specs.Books.{Book, Entry, IsBook, IsHeldAt, is_full, is_seen, live_entries}
use Rattle.nonces.specs.declared.limits.TheConstants.{MAX_NONCE_BYTES}
use Rattle.signatures.specs.declared.place.Place.{Place}
use Rattle.signatures.specs.declared.place.Place.TheVariants.{None as Nowhere, Identifier}
use Rattle.signatures.specs.declared.rule.Rule.{Rule}
use Rattle.signatures.specs.declared.rule.Rule.TheVariants.{ComponentRequired, CreatedAbsent, CreatedAhead, TooOld, ExpiresAbsent, Expired, TagWrong, NonceAbsent, NonceRepeated, NonceLong}
use Rattle.signatures.specs.Signatures.{HasSignature}
use Rattle.signatures.specs.Rules.{IsFirstFailure}
use Rattle.verdicts.specs.Parameters.{created_of, expires_of, nonce_of, keyid_of, tag_param_of}
use Rattle.verdicts.specs.Policies.{required_of, IsCovered, IsFirstUncovered, IsAhead, IsTooOld, IsFresh, asks_new, is_replay, IsReplay, IsNewNonce, AcceptsByPolicy, is_full_at, LacksRoom, HasRoom}
use Rattle.verdicts.specs.Choice.{policy_of}
use Rattle.verdicts.specs.Rules.{IsWrongTag, OfPolicy, Fails}
use Rattle.verdicts.specs.Verification.{Verification, IsAt}
use Rattle.verdicts.specs.tools.Judged.{AcceptsBy, NoneBelow, FailsByChoice, FailsByCoverage, FailsByCreated, PassesExpires, FailsByExpires, PassesTagParam, FailsByTagParam, PassesNonce, FailsByNonce, moment_of}
use Rattle.verdicts.proofs.OfSignature.{on_none, on_policy, on_signature, of_policy}
use Rattle.verdicts.proofs.RuleOrder.{nor, first_failure}
use Rattle.verdicts.proofs.Uncovered.{all_or_first, has_first}

-- ---- what can't hold of one value

not_none : {X : Type 0} (P : X → Type 0) (o : Option X) → IsSomeAnd o P → ¬ (o ≡ None)
not_none P (Some x) here e = absurd cc
not_none P None here e = absurd here

clash_some : {X : Type 0} (P Q : X → Type 0) (o : Option X) → ((x : X) → P x → ¬ Q x) → IsSomeAnd o P → ¬ IsSomeAnd o Q
clash_some P Q (Some x) apart p q = apart x p q
clash_some P Q None apart p q = absurd p

clash_if : {X : Type 0} (P Q : X → Type 0) (o : Option X) → ((x : X) → P x → ¬ Q x) → IfSome o P → ¬ IsSomeAnd o Q
clash_if P Q (Some x) apart p q = apart x p q
clash_if P Q None apart p q = absurd q

not_absent : {X : Type 0} (o : Option X) → IsSome o → ¬ (o ≡ None)
not_absent (Some x) there e = absurd cc
not_absent None there e = absurd cc

weaker_some : {X : Type 0} (P Q : X → Type 0) (o : Option X) → ((x : X) → P x → Q x) → IsSomeAnd o P → IsSomeAnd o Q
weaker_some P Q (Some x) so p = so x p
weaker_some P Q None so p = absurd p

weaker_if : {X : Type 0} (P Q : X → Type 0) (o : Option X) → ((x : X) → P x → Q x) → IfSome o P → IfSome o Q
weaker_if P Q (Some x) so p = so x p
weaker_if P Q None so p = tt

-- ---- the policy that is for a tag

abbrev AsksOther : Option (List ℕ) → Policy → Type 0
AsksOther own policy = IsSomeAnd policy.tag (λ text. ¬ (own ≡ Some text))

wrong_by : (o : Option Policy) (policy : Policy) (own : Option (List ℕ)) → o ≡ Some policy → AsksOther own policy → IsWrongTag o own
wrong_by o policy own is other = rw is other

wrong_at : (o : Option Policy) (policy : Policy) (own : Option (List ℕ)) → o ≡ Some policy → IsWrongTag o own → AsksOther own policy
wrong_at o policy own is wrong = rw is at wrong

wrong_without : (o : Option Policy) (own : Option (List ℕ)) → o ≡ None → IsWrongTag o own
wrong_without o own none = rw none tt

-- ---- where there is none, rule 23 is the first that fails from rule 17 on

module _ (v : Verification) (params : SigParams) (tag : List ℕ) (has : HasSignature v.context.message v.label params tag) where
  pub fails_without : policy_of v.conf params ≡ None → Fails v TagWrong Nowhere
  fails_without none = (refl, (params, tag, has, wrong_without (policy_of v.conf params) (tag_param_of params) none))

  pub choice_fails : NoneBelow (Fails v) 17 → (rule : Rule) (place : Place) → FailsByChoice (policy_of v.conf params) rule place → IsFirstFailure (Fails v) rule place
  choice_fails below rule place fails =
      let without = on_none v params tag has fails.2 in
      let below_19 = nor (Fails v) CreatedAbsent (nor (Fails v) ComponentRequired below (λ at. without (λ asked p. (id : ComponentId) × (at ≡ Identifier id) × IsFirstUncovered p.ids (required_of v asked) id))) (λ at x. without (λ asked p. created_of p ≡ None) x.1) in
      let below_21 = nor (Fails v) TooOld (nor (Fails v) CreatedAhead below_19 (λ at x. without (λ asked p. IsSomeAnd (created_of p) (IsAhead asked v.now)) x.1)) (λ at x. without (λ asked p. IsSomeAnd (created_of p) (IsTooOld asked v.now)) x.1) in
      let below_23 = nor (Fails v) Expired (nor (Fails v) ExpiresAbsent below_21 (λ at x. without (λ asked p. IsTrue asked.expires × (expires_of p ≡ None)) x.1)) (λ at x. without (λ asked p. IsSomeAnd (expires_of p) (λ z. z <ℤ pos v.now)) x.1) in
      rw (fails.0, fails.1) (first_failure (Fails v) TagWrong Nowhere below_23 (fails_without fails.2))

-- ---- one rule after another, and the first that fails

module _ (v : Verification) (params : SigParams) (tag : List ℕ) (has : HasSignature v.context.message v.label params tag) (policy : Policy) (chosen : policy_of v.conf params ≡ Some policy) (below : NoneBelow (Fails v) 17) where
  -- what is so of the policy and of the parameters isn't so of the label's
  so_not : (Fact : Policy → SigParams → Type 0) → ¬ Fact policy params → ¬ OfPolicy v Fact
  so_not Fact none fails = none (on_policy v params tag has policy chosen Fact fails)

  -- and what is so of them is so of the label's
  so : (Fact : Policy → SigParams → Type 0) → Fact policy params → OfPolicy v Fact
  so = of_policy v params tag has policy chosen

  abbrev IsUncovered : Place → Policy → SigParams → Type 0
  IsUncovered place asked p = (id : ComponentId) × (place ≡ Identifier id) × IsFirstUncovered p.ids (required_of v asked) id

  pub coverage_fails : (rule : Rule) (place : Place) → FailsByCoverage params.ids (required_of v policy) rule place → IsFirstFailure (Fails v) rule place
  coverage_fails rule place fails = rw fails.0 (first_failure (Fails v) ComponentRequired place below (so (IsUncovered place) (fails.1, fails.2, fails.3)))

  module _ (covered : All (IsCovered params.ids) (required_of v policy)) where
    below_18 : NoneBelow (Fails v) 18
    below_18 = nor (Fails v) ComponentRequired below (λ place. so_not (IsUncovered place) (λ x. all_or_first params.ids (required_of v policy) x.0 covered x.2))

    below_19 : (P : ℤ → Type 0) → IsSomeAnd (created_of params) P → NoneBelow (Fails v) 19
    below_19 P there =
        nor (Fails v) CreatedAbsent below_18 (λ place fails. so_not (λ _ p. created_of p ≡ None) (not_none P (created_of params) there) fails.1)

    below_20 : IsSomeAnd (created_of params) (λ z. z ≤ℤ pos (v.now + policy.skew)) → NoneBelow (Fails v) 20
    below_20 begun =
        nor (Fails v) CreatedAhead (below_19 (λ z. z ≤ℤ pos (v.now + policy.skew)) begun)
        (λ place fails.
        so_not (λ asked p. IsSomeAnd (created_of p) (IsAhead asked v.now))
        (clash_some (λ z. z ≤ℤ pos (v.now + policy.skew)) (IsAhead policy v.now) (created_of params) (λ z le late. clash_ℤ late le) begun) fails.1)

    abbrev IsOld : ℤ → Type 0
    IsOld z = (z ≤ℤ pos (v.now + policy.skew)) × IsTooOld policy v.now z

    pub created_fails : (rule : Rule) (place : Place) → FailsByCreated policy v.now (created_of params) rule place → IsFirstFailure (Fails v) rule place
    created_fails CreatedAbsent place fails = first_failure (Fails v) CreatedAbsent place below_18 (fails.0, so (λ _ p. created_of p ≡ None) fails.1)
    created_fails CreatedAhead place fails =
        first_failure (Fails v) CreatedAhead place (below_19 (IsAhead policy v.now) fails.1) (fails.0, so (λ asked p. IsSomeAnd (created_of p) (IsAhead asked v.now)) fails.1)
    created_fails TooOld place fails =
        first_failure (Fails v) TooOld place
        (below_20 (weaker_some IsOld (λ z. z ≤ℤ pos (v.now + policy.skew)) (created_of params) (λ z both. both.0) fails.1))
        (fails.0, so (λ asked p. IsSomeAnd (created_of p) (IsTooOld asked v.now)) (weaker_some IsOld (IsTooOld policy v.now) (created_of params) (λ z both. both.1) fails.1))
    created_fails rule place fails = absurd fails

    module _ (created : IsSomeAnd (created_of params) (IsFresh policy v.now)) where
      below_21 : NoneBelow (Fails v) 21
      below_21 =
          nor (Fails v) TooOld
          (below_20 (weaker_some (IsFresh policy v.now) (λ z. z ≤ℤ pos (v.now + policy.skew)) (created_of params) (λ z fresh. fresh.begun) created))
          (λ place fails.
          so_not (λ asked p. IsSomeAnd (created_of p) (IsTooOld asked v.now))
          (clash_some (IsFresh policy v.now) (IsTooOld policy v.now) (created_of params) (λ z fresh old. clash_ℤ old fresh.recent) created) fails.1)

      abbrev IsWithout : Policy → SigParams → Type 0
      IsWithout asked p = IsTrue asked.expires × (expires_of p ≡ None)

      abbrev IsOver : ℤ → Type 0
      IsOver z = z <ℤ pos v.now

      pub expires_fails : (rule : Rule) (place : Place) → FailsByExpires policy v.now (expires_of params) rule place → IsFirstFailure (Fails v) rule place
      expires_fails ExpiresAbsent place fails = first_failure (Fails v) ExpiresAbsent place below_21 (fails.0, so IsWithout (fails.1, fails.2))
      expires_fails Expired place fails =
          first_failure (Fails v) Expired place
          (nor (Fails v) ExpiresAbsent below_21 (λ _ absent. so_not IsWithout (λ x. not_none IsOver (expires_of params) fails.1 x.1) absent.1))
          (fails.0, so (λ _ p. IsSomeAnd (expires_of p) IsOver) fails.1)
      expires_fails rule place fails = absurd fails

      module _ (expires : PassesExpires policy v.now (expires_of params)) where
        below_23 : NoneBelow (Fails v) 23
        below_23 =
            nor (Fails v) Expired
            (nor (Fails v) ExpiresAbsent below_21 (λ _ absent. so_not IsWithout (λ x. not_absent (expires_of params) (expires.there x.0) x.1) absent.1))
            (λ _ over.
            so_not (λ _ p. IsSomeAnd (expires_of p) IsOver)
            (clash_if (λ z. pos v.now ≤ℤ z) IsOver (expires_of params) (λ z later is. clash_ℤ is later) expires.later) over.1)

        pub tag_fails : (rule : Rule) (place : Place) → FailsByTagParam policy.tag (tag_param_of params) rule place → IsFirstFailure (Fails v) rule place
        tag_fails rule place fails = rw fails.0 (first_failure (Fails v) TagWrong place below_23 (fails.1, (params, tag, has, wrong_by (policy_of v.conf params) policy (tag_param_of params) chosen fails.2)))

        module _ (same_tag : PassesTagParam policy.tag (tag_param_of params)) where
          below_24 : NoneBelow (Fails v) 24
          below_24 =
              nor (Fails v) TagWrong below_23
              (λ _ wrong.
              clash_if (λ text. tag_param_of params ≡ Some text) (λ text. ¬ (tag_param_of params ≡ Some text)) policy.tag (λ text same other. other same) same_tag
              (wrong_at (policy_of v.conf params) policy (tag_param_of params) chosen (on_signature v params tag has (λ p _. IsWrongTag (policy_of v.conf p) (tag_param_of p)) wrong.1)))

          abbrev LacksNonce : Policy → SigParams → Type 0
          LacksNonce asked p = (asked.nonce ≡ Require) × (nonce_of p ≡ None)

          abbrev Repeats : Policy → SigParams → Type 0
          Repeats asked p = IsTrue (asks_new asked.nonce) × IsSomeAnd (nonce_of p) (IsReplay v p)

          abbrev HasLong : Policy → SigParams → Type 0
          HasLong asked p = IsTrue (asks_new asked.nonce) × IsSomeAnd (nonce_of p) (λ nonce. MAX_NONCE_BYTES < length nonce)

          module _ (test : List ℕ → Bool) (answers : (nonce : List ℕ) → (IsReplay v params nonce → test nonce ≡ true) × (test nonce ≡ true → IsReplay v params nonce)) where
            below_25 : (P : List ℕ → Type 0) → IsSomeAnd (nonce_of params) P → NoneBelow (Fails v) 25
            below_25 P there = nor (Fails v) NonceAbsent below_24 (λ _ absent. so_not LacksNonce (λ x. not_none P (nonce_of params) there x.1) absent.1)

            abbrev IsLong : List ℕ → Type 0
            IsLong nonce = IsFalse (test nonce) × (MAX_NONCE_BYTES < length nonce)

            pub nonce_fails : (rule : Rule) (place : Place) → FailsByNonce policy.nonce test (nonce_of params) rule place → IsFirstFailure (Fails v) rule place
            nonce_fails NonceAbsent place fails = first_failure (Fails v) NonceAbsent place below_24 (fails.0, so LacksNonce (fails.1, fails.2))
            nonce_fails NonceRepeated place fails =
                let seen = weaker_some (λ nonce. IsTrue (test nonce)) (IsReplay v params) (nonce_of params) (λ nonce yes. (answers nonce).1 yes) fails.2 in
                first_failure (Fails v) NonceRepeated place (below_25 (IsReplay v params) seen) (fails.0, so Repeats (fails.1, seen))
            nonce_fails NonceLong place fails =
                first_failure (Fails v) NonceLong place
                (nor (Fails v) NonceRepeated (below_25 IsLong fails.2)
                (λ _ again.
                so_not Repeats
                (λ x. clash_some IsLong (IsReplay v params) (nonce_of params) (λ nonce long seen. false≢true (sym long.0 ∙ (answers nonce).0 seen)) fails.2 x.1) again.1))
                (fails.0, so HasLong (fails.1, weaker_some IsLong (λ nonce. MAX_NONCE_BYTES < length nonce) (nonce_of params) (λ nonce long. long.1) fails.2))
            nonce_fails rule place fails = absurd fails

            pub accepted : PassesNonce policy.nonce test (nonce_of params) → AcceptsByPolicy v policy params
            accepted nonce = record {
              covered = covered;
              created = created;
              has_expires = expires.there;
              unexpired = expires.later;
              tag = same_tag;
              has_nonce = nonce.there;
              nonce = λ asks.
                  weaker_if (λ text. IsFalse (test text) × (length text ≤ MAX_NONCE_BYTES)) (IsNewNonce v params) (nonce_of params)
                  (λ text is. record { new = λ again. false≢true (sym is.0 ∙ (answers text).0 again); short = is.1 }) (nonce.new asks);
            }

  -- where the policy accepts the signature, none of them fails
  pub none_below_27 : AcceptsByPolicy v policy params → NoneBelow (Fails v) 27
  none_below_27 a =
      let expires : PassesExpires policy v.now (expires_of params) = record { there = a.has_expires; later = a.unexpired } in
      nor (Fails v) NonceLong
      (nor (Fails v) NonceRepeated
      (nor (Fails v) NonceAbsent (below_24 a.covered a.created expires a.tag)
      (λ _ absent. so_not (λ asked p. (asked.nonce ≡ Require) × (nonce_of p ≡ None)) (λ x. not_absent (nonce_of params) (a.has_nonce x.0) x.1) absent.1))
      (λ _ again.
      so_not (λ asked p. IsTrue (asks_new asked.nonce) × IsSomeAnd (nonce_of p) (IsReplay v p))
      (λ x. clash_if (IsNewNonce v params) (IsReplay v params) (nonce_of params) (λ nonce is seen. is.new seen) (a.nonce x.0) x.1) again.1))
      (λ _ long.
      so_not (λ asked p. IsTrue (asks_new asked.nonce) × IsSomeAnd (nonce_of p) (λ nonce. MAX_NONCE_BYTES < length nonce))
      (λ x.
      clash_if (IsNewNonce v params) (λ nonce. MAX_NONCE_BYTES < length nonce) (nonce_of params)
      (λ nonce is over. absurd (let short = is.short in omega (arith, short, over))) (a.nonce x.0) x.1) long.1)

-- ---- the policy accepts the signature, or a rule is the first that fails

created_or : (policy : Policy) (now : ℕ) (o : Option ℤ) → IsSomeAnd o (IsFresh policy now) ⊎ ((rule : Rule) × (place : Place) × FailsByCreated policy now o rule place)
created_or policy now None = inr (CreatedAbsent, Nowhere, (refl, refl))
created_or policy now (Some z) =
    by_lt_z (pos (now + policy.skew)) z (λ late. inr (CreatedAhead, Nowhere, (refl, late)))
    (λ begun. by_lt_z (z +ℤ pos policy.max_age) (pos now) (λ old. inr (TooOld, Nowhere, (refl, (begun, old)))) (λ recent. inl (record { begun = begun; recent = recent })))

expires_or : (policy : Policy) (now : ℕ) (o : Option ℤ) → PassesExpires policy now o ⊎ ((rule : Rule) × (place : Place) × FailsByExpires policy now o rule place)
expires_or policy now None = elim (cases_Bool policy.expires) [
  | inl asked ↦ inr (ExpiresAbsent, Nowhere, (refl, asked, refl))
  | inr not_asked ↦ inl (record { there = λ asked. absurd (false≢true (sym not_asked ∙ asked)); later = tt })
]
expires_or policy now (Some z) = by_lt_z z (pos now) (λ over. inr (Expired, Nowhere, (refl, over))) (λ later. inl (record { there = λ asked. refl; later = later }))

tag_or : (asked own : Option (List ℕ)) → PassesTagParam asked own ⊎ ((rule : Rule) × (place : Place) × FailsByTagParam asked own rule place)
tag_or None own = inl tt
tag_or (Some text) None = inr (TagWrong, Nowhere, (refl, refl, λ e. absurd cc))
tag_or (Some text) (Some own) = elim (cases_Bool (bytes_eq own text)) [
  | inl same ↦ inl (ap (λ (t : List ℕ). Some t) ((bytes_eq-Decides own text).0 same))
  | inr other ↦ inr (TagWrong, Nowhere, (refl, refl, λ e. let same : own ≡ text = cc in false≢true (sym other ∙ (bytes_eq-Decides own text).1 same)))
]

nonce_there_or : (use_of : NonceUse) (test : List ℕ → Bool) (nonce : List ℕ) → asks_new use_of ≡ true → PassesNonce use_of test (Some nonce) ⊎ ((rule : Rule) × (place : Place) × FailsByNonce use_of test (Some nonce) rule place)
nonce_there_or use_of test nonce asks = elim (cases_Bool (test nonce)) [
  | inl seen ↦ inr (NonceRepeated, Nowhere, (refl, asks, seen))
  | inr new ↦ elim (cases_lt MAX_NONCE_BYTES (length nonce)) [
    | inl long ↦ inr (NonceLong, Nowhere, (refl, asks, (new, long)))
    | inr short ↦ inl (record { there = λ _. refl; new = λ _. (new, short) })
  ]
]

nonce_or : (use_of : NonceUse) (test : List ℕ → Bool) (o : Option (List ℕ)) → PassesNonce use_of test o ⊎ ((rule : Rule) × (place : Place) × FailsByNonce use_of test o rule place)
nonce_or Ignore test o = inl (record { there = λ e. absurd cc; new = λ asks. absurd (false≢true asks) })
nonce_or Check test None = inl (record { there = λ e. absurd cc; new = λ asks. tt })
nonce_or Require test None = inr (NonceAbsent, Nowhere, (refl, refl, refl))
nonce_or Check test (Some nonce) = nonce_there_or Check test nonce refl
nonce_or Require test (Some nonce) = nonce_there_or Require test nonce refl

-- whether the nonce was seen under the keyid
abbrev replays : Verification → Option (List ℕ) → List ℕ → Bool
replays v None nonce = false
replays v (Some keyid) nonce = is_replay v.seen v.now keyid nonce

replays_where : (v : Verification) (o : Option (List ℕ)) (nonce : List ℕ)
    → (IsSomeAnd o (λ keyid. IsTrue (is_replay v.seen v.now keyid nonce)) → replays v o nonce ≡ true)
    × (replays v o nonce ≡ true → IsSomeAnd o (λ keyid. IsTrue (is_replay v.seen v.now keyid nonce)))
replays_where v None nonce = (λ is. absurd is, λ yes. absurd (false≢true yes))
replays_where v (Some keyid) nonce = (λ is. is, λ yes. yes)

module _ (v : Verification) (params : SigParams) (tag : List ℕ) (has : HasSignature v.context.message v.label params tag) (below : NoneBelow (Fails v) 17) where
  abbrev PolicyAnswer : Type 0
  PolicyAnswer = ((policy : Policy) × AcceptsBy v params policy) ⊎ ((rule : Rule) × (place : Place) × IsFirstFailure (Fails v) rule place)

  by_policy : (policy : Policy) → policy_of v.conf params ≡ Some policy → PolicyAnswer
  by_policy policy chosen = elim (has_first params.ids (required_of v policy)) [
    | inr none ↦ inr (ComponentRequired, Identifier none.0, coverage_fails v params tag has policy chosen below ComponentRequired (Identifier none.0) (refl, none.0, refl, none.1))
    | inl covered ↦ elim (created_or policy v.now (created_of params)) [
      | inr fails ↦ inr (fails.0, fails.1, created_fails v params tag has policy chosen below covered fails.0 fails.1 fails.2)
      | inl created ↦ elim (expires_or policy v.now (expires_of params)) [
        | inr fails ↦ inr (fails.0, fails.1, expires_fails v params tag has policy chosen below covered created fails.0 fails.1 fails.2)
        | inl expires ↦ elim (tag_or policy.tag (tag_param_of params)) [
          | inr fails ↦ inr (fails.0, fails.1, tag_fails v params tag has policy chosen below covered created expires fails.0 fails.1 fails.2)
          | inl same_tag ↦
              let test : List ℕ → Bool = λ nonce. replays v (keyid_of params) nonce in
              let answers = replays_where v (keyid_of params) in
              elim (nonce_or policy.nonce test (nonce_of params)) [
                | inr fails ↦ inr (fails.0, fails.1, nonce_fails v params tag has policy chosen below covered created expires same_tag test answers fails.0 fails.1 fails.2)
                | inl nonce ↦ inl (policy, record { chosen = chosen; accepted = accepted v params tag has policy chosen below covered created expires same_tag test answers nonce })
              ]
        ]
      ]
    ]
  ]

  by_choice : (o : Option Policy) → policy_of v.conf params ≡ o → PolicyAnswer
  by_choice (Some policy) chosen = by_policy policy chosen
  by_choice None none = inr (TagWrong, Nowhere, choice_fails v params tag has below TagWrong Nowhere (refl, refl, none))

  pub has_policy_answer : ((policy : Policy) × AcceptsBy v params policy) ⊎ ((rule : Rule) × (place : Place) × IsFirstFailure (Fails v) rule place)
  has_policy_answer = by_choice (policy_of v.conf params) refl

-- ---- room

pub not_full_with_room : (now : ℕ) (seen : Option Book) (policy : Policy) (params : SigParams) → HasRoom now seen policy params → ¬ LacksRoom now seen policy params
not_full_with_room now seen policy params room lacks = false≢true (sym (room lacks.asks lacks.nonce) ∙ lacks.full)

pub room_or_not : (now : ℕ) (seen : Option Book) (policy : Policy) (params : SigParams) → HasRoom now seen policy params ⊎ LacksRoom now seen policy params
room_or_not now seen policy params = elim (cases_Bool (is_full_at now seen)) [
  | inr free ↦ inl (λ asks nonce. free)
  | inl full ↦ elim (cases_Bool (asks_new policy.nonce)) [
    | inr ignored ↦ inl (λ asks nonce. absurd (false≢true (sym ignored ∙ asks)))
    | inl asks ↦ elim (cases_Bool (is_some (nonce_of params))) [
      | inr none ↦ inl (λ _ nonce. absurd (false≢true (sym none ∙ nonce)))
      | inl nonce ↦ inr (record { asks = asks; nonce = nonce; full = full })
    ]
  ]
]

-- ---- at the moment of a book

replay_at : (now : ℕ) (seen : Option Book) (keyid nonce : List ℕ) → IsAt now seen → is_replay seen (moment_of seen) keyid nonce ≡ is_replay seen now keyid nonce
replay_at now None keyid nonce at = refl
replay_at now (Some book) keyid nonce at = ap (λ (n : ℕ). is_seen keyid nonce (live_entries n book.entries)) at

-- the test that the code makes
pub replay_where : (v : Verification) (params : SigParams) (keyid : List ℕ) → keyid_of params ≡ Some keyid → IsAt v.now v.seen → (nonce : List ℕ)
    → (IsReplay v params nonce → is_replay v.seen (moment_of v.seen) keyid nonce ≡ true) × (is_replay v.seen (moment_of v.seen) keyid nonce ≡ true → IsReplay v params nonce)
replay_where v params keyid is at nonce =
    let same = replay_at v.now v.seen keyid nonce at in (
      λ again. same ∙ some_and_at (λ (id : List ℕ). IsTrue (is_replay v.seen v.now id nonce)) (keyid_of params) keyid is again,
      λ yes. some_and (λ (id : List ℕ). IsTrue (is_replay v.seen v.now id nonce)) (keyid_of params) keyid is (sym same ∙ yes),
    )

-- a book at its moment holds entries that live
live_all : (now : ℕ) (entries : List Entry) → All (λ e. now ≤ e.until) entries → live_entries now entries ≡ entries
live_all now [] each = refl
live_all now (x ∷ xs) each =
    rw (le-leb now x.until (All-head (λ e. now ≤ e.until) x xs each))
    (ap (λ ys. x ∷ ys) (live_all now xs (All-tail (λ e. now ≤ e.until) x xs each)))

pub full_where : (book : Book) → IsBook book → is_full book ≡ nat_le book.capacity (length (live_entries book.moment book.entries))
full_where book is =
    let live = live_all book.moment book.entries (All-weaker (IsHeldAt book.moment book.window) (λ e. book.moment ≤ e.until) (λ e held. held.live) book.entries is.each) in
    by_count (length book.entries) book.capacity is.within ∙ sym (ap (λ (es : List Entry). nat_le book.capacity (length es)) live)
  where
    by_count : (n m : ℕ) → n ≤ m → (n == m) ≡ nat_le m n
    by_count n m le = grind (arith, le)
