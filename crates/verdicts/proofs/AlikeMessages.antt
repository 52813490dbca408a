-- The verdict is the same over messages that are alike for it, or for the label's signature.
use Rattle.std.proofs.Common.{◌≡◌, ◌↔◌, ℕ, Bool, IsTrue, Option, Some, None, IfSome, List, sym, ap, subst, inl, inr}
use Rattle.std.specs.List.{All}
use Rattle.std.specs.Option.{IsSomeAnd}
use Rattle.msg_body.specs.Messages.{Message}
use Rattle.msg_body.specs.Views.{message_content}
use Rattle.framing.specs.Framings.{is_request}
use Rattle.msg_head.specs.Starts.{StartLine}
use Rattle.sfv_read.specs.Laws.{ReadAlike}
use Rattle.sfv_read.specs.Reads.{ReadsDict}
use Rattle.component_ids.specs.declared.id.ComponentId.{ComponentId}
use Rattle.component_ids.specs.declared.params.SigParams.{SigParams}
use Rattle.derived_values.specs.declared.lack.Lack.{Lack}
use Rattle.derived_values.specs.declared.lack.Lack.TheVariants as lack
use Rattle.component_values.specs.Alike.{ComesToSame}
use Rattle.component_values.specs.Values.{HaveValues, IsFirstLack}
use Rattle.component_values.proofs.SameLists.{have_same_list, have_same_first_lack}
use Rattle.content_digest.specs.Digests.{DigestHolds}
use Rattle.content_digest.specs.Faults.{IsDigestFault}
use Rattle.content_digest.proofs.SameDicts.{depends_on_its_dict}
use Rattle.settings.specs.declared.policy.Policy.{Policy}
use Rattle.signatures.specs.declared.place.DigestReason.{DigestReason}
use Rattle.signatures.specs.declared.place.Place.{Place}
use Rattle.signatures.specs.declared.place.Place.TheVariants.{Identifier}
use Rattle.signatures.specs.declared.rule.Rule.{Rule}
use Rattle.signatures.specs.declared.rule.Rule.TheVariants.{InputAbsent, InputMalformed, SignatureAbsent, SignatureMalformed, LabelNotInInput, LabelNotInSignature, InputNotList, SignatureNotBytes, ComponentsMany, ComponentBad, ComponentRepeated, ParameterBad, AlgRefused, AlgUnknown, KeyidAbsent, KeyUnknown, ComponentRequired, CreatedAbsent, CreatedAhead, TooOld, ExpiresAbsent, Expired, TagWrong, NonceAbsent, NonceRepeated, NonceLong, Absent, Ambiguous, Underivable, Unreadable, NotAscii, MacMismatch, Digest, NoncesFull}
use Rattle.signatures.specs.Rules.{FailsToRead}
use Rattle.signatures.specs.Signatures.{HasSignature}
use Rattle.signatures.proofs.Reading.{has_no_failure_where_read, has_one_signature}
use Rattle.signatures.proofs.SameFields.{have_same_signature, fail_to_read_the_same, same_fields_back}
use Rattle.verdicts.specs.ContentDigest.{HasDigest, LacksDigest, asks_digest, covers_digest, digest_text}
use Rattle.verdicts.specs.Laws.{AreAlikeForVerdict, AreAlikeWhereSigned, DependsOnItsSignature, DependsOnSignature, verification_with}
use Rattle.verdicts.specs.Parameters.{nonce_of}
use Rattle.verdicts.specs.Policies.{AcceptsByPolicy, IsCovered, IsFirstUncovered, IsNewNonce, required_ids, required_of}
use Rattle.verdicts.specs.Rules.{Fails, FailsByLack, IsNoMac, asks_digest_of}
use Rattle.verdicts.specs.Verdicts.{Accepts, IsVerdict}
use Rattle.verdicts.specs.Choice.{policy_of}
use Rattle.verdicts.specs.Verification.{Verification}
use Rattle.verdicts.specs.declared.outcome.Verdict.{Verdict}
use Rattle.verdicts.specs.declared.outcome.Verdict.TheVariants.{Ok as Accepted, Rule as Refused}

new_nonce : (v : Verification) (other : Message) (params : SigParams) (o : Option (List ℕ)) → IfSome o (IsNewNonce v params) → IfSome o (IsNewNonce (verification_with v other) params)
new_nonce v other params (Some text) new = record { new = new.new; short = new.short }
new_nonce v other params None new = tt

-- the value that is there has another fact, where each that has the one has the other
some_has : {X : Type 0} (P Q : X → Type 0) (o : Option X) → ((x : X) → P x → Q x) → IsSomeAnd o P → IsSomeAnd o Q
some_has P Q (Some x) so has = so x has
some_has P Q None so has = absurd has

-- the component of the place is the first that the policy requires and the signature doesn't cover
abbrev IsUncovered : Verification → SigParams → Place → Policy → Type 0
IsUncovered v params place policy = (id : ComponentId) × (place ≡ Identifier id) × IsFirstUncovered params.ids (required_of v policy) id

-- what a verdict rests on is kept by the other message
record Keeps (v : Verification) (other : Message) : Type 0 where
  has_same : (params : SigParams) (tag : List ℕ) → HasSignature v.context.message v.label params tag → HasSignature other v.label params tag
  reading_fails : (rule : Rule) (place : Place) → FailsToRead v.context.message v.label rule place → FailsToRead other v.label rule place
  kind : is_request other.head.start ≡ is_request v.context.message.head.start
  content : message_content other ≡ message_content v.context.message
  components : (params : SigParams) (tag : List ℕ) → HasSignature v.context.message v.label params tag → All (ComesToSame v.context other) params.ids
  digest : (params : SigParams) (tag : List ℕ) → HasSignature v.context.message v.label params tag → IsTrue (covers_digest params.ids) → ReadAlike (digest_text v.context.message) (digest_text other)

module _ (v : Verification) (other : Message) (alike : Keeps v other) where
  abbrev moved : Verification
  moved = verification_with v other

  has_same : (params : SigParams) (tag : List ℕ) → HasSignature v.context.message v.label params tag → HasSignature other v.label params tag
  has_same params tag has = alike.has_same params tag has

  have_same : (params : SigParams) (tag : List ℕ) (values : List (List ℕ)) → HasSignature v.context.message v.label params tag → HaveValues v.context params.ids values
      → HaveValues moved.context params.ids values
  have_same params tag values has have = (have_same_list v.context other params.ids values (alike.components params tag has)).0 have

  lack_same : (params : SigParams) (tag : List ℕ) (index : ℕ) (how : Lack) → HasSignature v.context.message v.label params tag → IsFirstLack v.context params.ids index how
      → IsFirstLack moved.context params.ids index how
  lack_same params tag index how has first = (have_same_first_lack v.context other params.ids index how (alike.components params tag has)).0 first

  required_same : (policy : Policy) → required_of v policy ≡ required_of moved policy
  required_same policy = ap (λ (request : Bool). required_ids policy request) (sym alike.kind)

  -- ---- the digest

  asks_same : (policy : Policy) → IsTrue (asks_digest_of v policy) → IsTrue (asks_digest_of moved policy)
  asks_same policy asks = subst (λ (content : List ℕ). IsTrue (asks_digest policy.digest content)) (sym alike.content) asks

  asked_same : (policy : Policy) → IsTrue (asks_digest_of moved policy) → IsTrue (asks_digest_of v policy)
  asked_same policy asks = subst (λ (content : List ℕ). IsTrue (asks_digest policy.digest content)) alike.content asks

  has_digest : (params : SigParams) (tag : List ℕ) → HasSignature v.context.message v.label params tag → HasDigest v.context.message params.ids → HasDigest other params.ids
  has_digest params tag has digest = record {
    covered = digest.covered;
    holds =
        subst (λ (content : List ℕ). DigestHolds (digest_text other) content) (sym alike.content)
        ((depends_on_its_dict.holds (digest_text v.context.message) (digest_text other) (message_content v.context.message) (alike.digest params tag has digest.covered)).0 digest.holds);
  }

  lacks_digest : (params : SigParams) (tag : List ℕ) (reason : DigestReason) → HasSignature v.context.message v.label params tag → LacksDigest v.context.message params.ids reason
      → LacksDigest other params.ids reason
  lacks_digest params tag reason has (inl uncovered) = inl uncovered
  lacks_digest params tag reason has (inr fault) =
      inr (
        fault.0,
        fault.1,
        fault.2,
        subst (λ (content : List ℕ). IsDigestFault (digest_text other) content fault.1) (sym alike.content)
            (depends_on_its_dict.fault (digest_text v.context.message) (digest_text other) (message_content v.context.message) fault.1 (alike.digest params tag has fault.0) fault.3),
      )

  -- ---- the rules

  lack_fails : (how : Lack) (place : Place) → FailsByLack v how place → FailsByLack moved how place
  lack_fails how place fails =
      (fails.0, fails.1, has_same fails.0 fails.1 fails.2, (fails.3.0, lack_same fails.0 fails.1 fails.3.0 how fails.2 fails.3.1, fails.3.2))

  no_mac : (params : SigParams) (tag : List ℕ) → HasSignature v.context.message v.label params tag → IsNoMac v params tag → IsNoMac moved params tag
  no_mac params tag has wrong = record {
    keyid = wrong.keyid;
    keyid_is = wrong.keyid_is;
    key = wrong.key;
    key_is = wrong.key_is;
    values = wrong.values;
    have = have_same params tag wrong.values has wrong.have;
    other = wrong.other;
  }

  reading_fails : (rule : Rule) (place : Place) → FailsToRead v.context.message v.label rule place → FailsToRead other v.label rule place
  reading_fails rule place fails = alike.reading_fails rule place fails

  fails_same : (rule : Rule) (place : Place) → Fails v rule place → Fails moved rule place
  fails_same InputAbsent place fails = reading_fails InputAbsent place fails
  fails_same InputMalformed place fails = reading_fails InputMalformed place fails
  fails_same SignatureAbsent place fails = reading_fails SignatureAbsent place fails
  fails_same SignatureMalformed place fails = reading_fails SignatureMalformed place fails
  fails_same LabelNotInInput place fails = reading_fails LabelNotInInput place fails
  fails_same LabelNotInSignature place fails = reading_fails LabelNotInSignature place fails
  fails_same InputNotList place fails = reading_fails InputNotList place fails
  fails_same SignatureNotBytes place fails = reading_fails SignatureNotBytes place fails
  fails_same ComponentsMany place fails = reading_fails ComponentsMany place fails
  fails_same ComponentBad place fails = reading_fails ComponentBad place fails
  fails_same ComponentRepeated place fails = reading_fails ComponentRepeated place fails
  fails_same ParameterBad place fails = reading_fails ParameterBad place fails
  fails_same AlgRefused place fails = (fails.0, fails.1, has_same fails.0 fails.1 fails.2, fails.3)
  fails_same AlgUnknown place fails = (fails.0, fails.1, has_same fails.0 fails.1 fails.2, fails.3)
  fails_same KeyidAbsent place fails = (fails.0, (fails.1.0, fails.1.1, has_same fails.1.0 fails.1.1 fails.1.2, fails.1.3))
  fails_same KeyUnknown place fails = (fails.0, (fails.1.0, fails.1.1, has_same fails.1.0 fails.1.1 fails.1.2, fails.1.3))
  fails_same ComponentRequired place fails = (
    fails.0,
    fails.1,
    has_same fails.0 fails.1 fails.2,
    some_has (IsUncovered v fails.0 place) (IsUncovered moved fails.0 place) (policy_of v.conf fails.0)
        (λ policy found. (
          found.0,
          found.1,
          subst (λ (ids : List ComponentId). IsFirstUncovered fails.0.ids ids found.0) (required_same policy) found.2,
        )) fails.3,
  )
  fails_same CreatedAbsent place fails = (fails.0, (fails.1.0, fails.1.1, has_same fails.1.0 fails.1.1 fails.1.2, fails.1.3))
  fails_same CreatedAhead place fails = (fails.0, (fails.1.0, fails.1.1, has_same fails.1.0 fails.1.1 fails.1.2, fails.1.3))
  fails_same TooOld place fails = (fails.0, (fails.1.0, fails.1.1, has_same fails.1.0 fails.1.1 fails.1.2, fails.1.3))
  fails_same ExpiresAbsent place fails = (fails.0, (fails.1.0, fails.1.1, has_same fails.1.0 fails.1.1 fails.1.2, fails.1.3))
  fails_same Expired place fails = (fails.0, (fails.1.0, fails.1.1, has_same fails.1.0 fails.1.1 fails.1.2, fails.1.3))
  fails_same TagWrong place fails = (fails.0, (fails.1.0, fails.1.1, has_same fails.1.0 fails.1.1 fails.1.2, fails.1.3))
  fails_same NonceAbsent place fails = (fails.0, (fails.1.0, fails.1.1, has_same fails.1.0 fails.1.1 fails.1.2, fails.1.3))
  fails_same NonceRepeated place fails = (fails.0, (fails.1.0, fails.1.1, has_same fails.1.0 fails.1.1 fails.1.2, fails.1.3))
  fails_same NonceLong place fails = (fails.0, (fails.1.0, fails.1.1, has_same fails.1.0 fails.1.1 fails.1.2, fails.1.3))
  fails_same Absent place fails = lack_fails lack.Absent place fails
  fails_same Ambiguous place fails = lack_fails lack.Ambiguous place fails
  fails_same Underivable place fails = lack_fails lack.Underivable place fails
  fails_same Unreadable place fails = lack_fails lack.Unreadable place fails
  fails_same NotAscii place fails = lack_fails lack.NotAscii place fails
  fails_same MacMismatch place fails = (fails.0, (fails.1.0, fails.1.1, has_same fails.1.0 fails.1.1 fails.1.2, no_mac fails.1.0 fails.1.1 fails.1.2 fails.1.3))
  fails_same Digest place fails = (
    fails.0,
    fails.1,
    (
      fails.2.0,
      fails.2.1,
      has_same fails.2.0 fails.2.1 fails.2.2,
      some_has (λ policy. IsTrue (asks_digest_of v policy) × LacksDigest v.context.message fails.2.0.ids fails.0)
          (λ policy. IsTrue (asks_digest_of moved policy) × LacksDigest other fails.2.0.ids fails.0) (policy_of v.conf fails.2.0)
          (λ policy both. (asks_same policy both.0, lacks_digest fails.2.0 fails.2.1 fails.0 fails.2.2 both.1)) fails.2.3,
    ),
  )
  fails_same NoncesFull place fails = (fails.0, (fails.1.0, fails.1.1, has_same fails.1.0 fails.1.1 fails.1.2, fails.1.3))

  -- ---- the verdict

  policy_same : (policy : Policy) (params : SigParams) → AcceptsByPolicy v policy params → AcceptsByPolicy moved policy params
  policy_same policy params accepts = record {
    covered = subst (λ (ids : List ComponentId). All (IsCovered params.ids) ids) (required_same policy) accepts.covered;
    created = accepts.created;
    has_expires = accepts.has_expires;
    unexpired = accepts.unexpired;
    tag = accepts.tag;
    has_nonce = accepts.has_nonce;
    nonce = λ asks. new_nonce v other params (nonce_of params) (accepts.nonce asks);
  }

  accepts_same : (keyid : List ℕ) → Accepts v keyid → Accepts moved keyid
  accepts_same keyid accepts = record {
    params = accepts.params;
    tag = accepts.tag;
    signature = has_same accepts.params accepts.tag accepts.signature;
    alg = accepts.alg;
    keyid_is = accepts.keyid_is;
    key = accepts.key;
    key_is = accepts.key_is;
    policy = accepts.policy;
    chosen = accepts.chosen;
    accepted = policy_same accepts.policy accepts.params accepts.accepted;
    values = accepts.values;
    have = have_same accepts.params accepts.tag accepts.values accepts.signature accepts.have;
    mac = accepts.mac;
    digest = λ asks. has_digest accepts.params accepts.tag accepts.signature (accepts.digest (asked_same accepts.policy asks));
    room = accepts.room;
  }

verdict_same : (v : Verification) (other : Message) (verdict : Verdict) → Keeps v other → Keeps (verification_with v other) v.context.message → IsVerdict v verdict
    → IsVerdict (verification_with v other) verdict
verdict_same v other (Accepted keyid) there back accepts = accepts_same v other there keyid accepts
verdict_same v other (Refused rule place) there back first = record {
  holds = fails_same v other there rule place first.holds;
  none_before = λ failure lt fails. first.none_before failure lt (fails_same (verification_with v other) v.context.message back failure.rule failure.place fails);
}

both_same : (v : Verification) (other : Message) (verdict : Verdict) → Keeps v other → Keeps (verification_with v other) v.context.message
    → IsVerdict v verdict ↔ IsVerdict (verification_with v other) verdict
both_same v other verdict there back = (verdict_same v other verdict there back, verdict_same (verification_with v other) v.context.message verdict back there)

-- ---- messages that are alike for the verdict

same_reading : (text same : List ℕ) → same ≡ text → ReadAlike text same
same_reading text same e dict = subst (λ (t : List ℕ). ReadsDict text dict ↔ ReadsDict t dict) (sym e) ((λ h. h), (λ h. h))

keeps_where_alike : (v : Verification) (other : Message) → AreAlikeForVerdict v other → Keeps v other
keeps_where_alike v other alike = record {
  has_same = λ params tag has. (have_same_signature v.context.message other v.label params tag alike.fields).0 has;
  reading_fails = λ rule place fails. (fail_to_read_the_same v.context.message other v.label rule place alike.fields).0 fails;
  kind = ap (λ (start : StartLine). is_request start) alike.start;
  content = alike.content;
  components = alike.components;
  digest = λ params tag has covered. same_reading (digest_text v.context.message) (digest_text other) (alike.digest params tag has covered);
}

-- what is alike is so in both directions
alike_back : (v : Verification) (other : Message) → AreAlikeForVerdict v other → AreAlikeForVerdict (verification_with v other) v.context.message
alike_back v other alike =
    let had = λ (params : SigParams) (tag : List ℕ). (have_same_signature v.context.message other v.label params tag alike.fields).1 in
    record {
      start = sym alike.start;
      content = sym alike.content;
      fields = same_fields_back v.context.message other alike.fields;
      components = λ params tag has k id lt result. let same = alike.components params tag (had params tag has) k id lt result in (same.1, same.0);
      digest = λ params tag has covered. sym (alike.digest params tag (had params tag has) covered);
    }

pub depends_on_its_signature : DependsOnItsSignature
depends_on_its_signature v other verdict alike =
    both_same v other verdict (keeps_where_alike v other alike) (keeps_where_alike (verification_with v other) v.context.message (alike_back v other alike))

-- ---- messages that are alike for a signature

keeps_where_signed : (v : Verification) (params : SigParams) (tag : List ℕ) (other : Message) → AreAlikeWhereSigned v params tag other → Keeps v other
keeps_where_signed v params tag other alike =
    let one = λ (p : SigParams) (t : List ℕ) (has : HasSignature v.context.message v.label p t). has_one_signature v.context.message v.label params p tag t alike.signature has in
    record {
      has_same = λ p t has.
          subst (λ (x : List ℕ). HasSignature other v.label p x) (one p t has).1 (subst (λ (x : SigParams). HasSignature other v.label x tag) (one p t has).0 alike.other_signature);
      reading_fails = λ rule place fails. absurd (has_no_failure_where_read v.context.message v.label params tag rule place alike.signature fails);
      kind = alike.kind;
      content = alike.content;
      components = λ p t has. subst (λ (x : SigParams). All (ComesToSame v.context other) x.ids) (one p t has).0 alike.components;
      digest = λ p t has covered. alike.digests (subst (λ (x : SigParams). IsTrue (covers_digest x.ids)) (sym (one p t has).0) covered);
    }

signed_back : (v : Verification) (params : SigParams) (tag : List ℕ) (other : Message) → AreAlikeWhereSigned v params tag other
    → AreAlikeWhereSigned (verification_with v other) params tag v.context.message
signed_back v params tag other alike = record {
  signature = alike.other_signature;
  other_signature = alike.signature;
  kind = sym alike.kind;
  content = sym alike.content;
  components = λ k id lt result. let same = alike.components k id lt result in (same.1, same.0);
  digests = λ covered dict. let same = alike.digests covered dict in (same.1, same.0);
}

pub depends_on_signature : DependsOnSignature
depends_on_signature v params tag other verdict alike =
    both_same v other verdict (keeps_where_signed v params tag other alike) (keeps_where_signed (verification_with v other) params tag v.context.message (signed_back v params tag other alike))
