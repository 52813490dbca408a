-- Laws of verdicts.
use Rattle.std.specs.Prelude.{◌≡◌, ◌≤◌, ◌+◌, ◌*◌, ◌↔◌, ◌⊎◌, ℕ, Bool, ◌&&◌, ◌||◌, nat_le, IsTrue, IsFalse, Some, None, List}
use Rattle.std.specs.List.{All, Contains}
use Rattle.sfv_read.specs.Laws.{ReadAlike}
use Rattle.framing.specs.Framings.{is_request}
use Rattle.msg_body.specs.Messages.{Message}
use Rattle.msg_body.specs.Views.{message_content}
use Rattle.component_ids.specs.declared.params.SigParams.{SigParams}
use Rattle.component_values.specs.Alike.{ComesToSame}
use Rattle.component_values.specs.Context.{context_with}
use Rattle.component_values.specs.Laws.{HasMessages}
use Rattle.component_values.specs.Values.{HaveValues}
use Rattle.signatures.specs.SignatureBase.{signature_base}
use Rattle.hmac_sha256.specs.Hmac.{hmac}
use Rattle.settings.specs.Configuration.{Configuration}
use Rattle.settings.specs.declared.policy.Policy.{Policy}
use Rattle.signatures.specs.declared.place.Place.{Place}
use Rattle.signatures.specs.declared.place.Place.TheVariants.{None as Nowhere}
use Rattle.signatures.specs.declared.rule.Rule.{Rule}
use Rattle.signatures.specs.declared.rule.Rule.TheVariants.{TagWrong}
use Rattle.signatures.specs.Laws.{HaveSameFields}
use Rattle.signatures.specs.Signatures.{HasSignature}
use Rattle.signatures.specs.Words.{rule_number}
use Rattle.verdicts.specs.declared.outcome.Verdict.{Verdict}
use Rattle.verdicts.specs.declared.outcome.Verdict.TheVariants.{Rule as Refused}
use Rattle.verdicts.specs.Choice.{policy_of, window_of}
use Rattle.verdicts.specs.Verification.{Verification}
use Rattle.verdicts.specs.ContentDigest.{covers_digest, digest_text}
use Rattle.verdicts.specs.Parameters.{keyid_of}
use Rattle.verdicts.specs.Rules.{Fails, key_in}
use Rattle.verdicts.specs.Verdicts.{Accepts, IsVerdict}

-- a label has a verdict
abbrev pub HasVerdict : Type 0
HasVerdict = (v : Verification) → (verdict : Verdict) × IsVerdict v verdict

-- a label has at most one verdict
abbrev pub HasOneVerdict : Type 0
HasOneVerdict =
    (v : Verification) (verdict other : Verdict)
    → IsVerdict v verdict → IsVerdict v other → verdict ≡ other

-- a label is accepted exactly where no rule fails
abbrev pub IsAcceptedWhereNoRuleFails : Type 0
IsAcceptedWhereNoRuleFails =
    (v : Verification)
    → ((keyid : List ℕ) × Accepts v keyid) ↔ ((rule : Rule) (place : Place) → ¬ Fails v rule place)

-- ---- labels without a policy

-- rules 17 to 22, 24 to 26, 33 and 34, by which a policy alone is asked
abbrev pub is_rule_of_policies : Rule → Bool
is_rule_of_policies rule =
    (nat_le 17 (rule_number rule) && nat_le (rule_number rule) 22)
    || ((nat_le 24 (rule_number rule) && nat_le (rule_number rule) 26)
    || nat_le 33 (rule_number rule))

-- the message has the label's signature, and there is no policy for signatures with its parameter
-- `tag`, or with none
pub record HasNoPolicy (v : Verification) : Type 0 where
  pub params : SigParams
  pub tag : List ℕ
  pub signature : HasSignature v.context.message v.label params tag
  pub none : policy_of v.conf params ≡ None

-- rule 23 fails of such a label
abbrev pub FailsByItsTag : Type 0
FailsByItsTag = (v : Verification) → HasNoPolicy v → Fails v TagWrong Nowhere

-- no other rule by which a policy is asked fails of it
abbrev pub HoldsOtherRulesOfPolicies : Type 0
HoldsOtherRulesOfPolicies =
    (v : Verification) (rule : Rule) (place : Place) → HasNoPolicy v
    → IsTrue (is_rule_of_policies rule) → ¬ Fails v rule place

-- so rule 23 is its verdict, where rules 1 to 16 hold: those of its signature, algorithm and key
abbrev pub HasVerdictOfItsTag : Type 0
HasVerdictOfItsTag =
    (v : Verification) → HasNoPolicy v
    → ((rule : Rule) (place : Place) → rule_number rule ≤ 16 → ¬ Fails v rule place)
    → IsVerdict v (Refused TagWrong Nowhere)

-- ---- how long nonces are remembered

-- of no policy is the window greater than that of the configuration
abbrev pub CoversEachPolicy : Type 0
CoversEachPolicy =
    (conf : Configuration) (policy : Policy) → Contains conf.policies policy
    → policy.max_age + 2 * policy.skew ≤ window_of conf

-- ---- signed messages

-- rules 1 to 12, by which a signature is read, and 27 to 32, by which its components have values
-- and its tag is right
abbrev pub is_rule_of_signing : Rule → Bool
is_rule_of_signing rule =
    nat_le (rule_number rule) 12 || (nat_le 27 (rule_number rule) && nat_le (rule_number rule) 32)

-- The message has the label's signature with the values of its components, and its tag is the HMAC
-- under the key that is configured for its `keyid`. So is what a signer with that key writes.
pub record IsRightlySigned (v : Verification) (keyid : List ℕ) : Type 0 where
  pub params : SigParams
  pub tag : List ℕ
  pub signature : HasSignature v.context.message v.label params tag
  pub keyid_is : keyid_of params ≡ Some keyid
  pub key : List ℕ
  pub key_is : key_in v.conf keyid ≡ Some key
  pub values : List (List ℕ)
  pub have : HaveValues v.context params.ids values
  pub mac : tag ≡ hmac key (signature_base params values)

-- of a label that is signed so, no rule of signing fails
abbrev pub HoldsRulesOfSigning : Type 0
HoldsRulesOfSigning =
    (v : Verification) (keyid : List ℕ) (rule : Rule) (place : Place) → IsRightlySigned v keyid
    → IsTrue (is_rule_of_signing rule) → ¬ Fails v rule place

-- it is accepted where none of the other rules fails
abbrev pub IsAcceptedByOtherRules : Type 0
IsAcceptedByOtherRules =
    (v : Verification) (keyid : List ℕ) → IsRightlySigned v keyid
    → ((rule : Rule) (place : Place) → IsFalse (is_rule_of_signing rule) → ¬ Fails v rule place)
    → Accepts v keyid

-- ---- what a verdict rests on

-- What the verdict on the label rests on is the same over the other message: the start line, the
-- content, the fields of signatures, and where the label has a signature, what its components come
-- to, and the field of the digests where it is covered.
pub record AreAlikeForVerdict (v : Verification) (other : Message) : Type 0 where
  pub start : other.head.start ≡ v.context.message.head.start
  pub content : message_content other ≡ message_content v.context.message
  pub fields : HaveSameFields v.context.message other
  pub components : (params : SigParams) (tag : List ℕ)
      → HasSignature v.context.message v.label params tag
      → All (ComesToSame v.context other) params.ids
  pub digest : (params : SigParams) (tag : List ℕ)
      → HasSignature v.context.message v.label params tag → IsTrue (covers_digest params.ids)
      → digest_text other ≡ digest_text v.context.message

-- the verification, this message in place of its own
abbrev pub verification_with : Verification → Message → Verification
verification_with v message = record v { context = context_with v.context message }

-- over messages that are alike for it the label has the same verdict
abbrev pub DependsOnItsSignature : Type 0
DependsOnItsSignature =
    (v : Verification) (other : Message) (verdict : Verdict) → AreAlikeForVerdict v other
    → IsVerdict v verdict ↔ IsVerdict (verification_with v other) verdict

-- What the verdict on a label that has this signature rests on is the same over the other message:
-- the signature, the kind of the message, the content, what the components come to, and what the
-- field of the digests reads as, where it is covered.
pub record AreAlikeWhereSigned (v : Verification) (params : SigParams) (tag : List ℕ)
    (other : Message) : Type 0 where
  pub signature : HasSignature v.context.message v.label params tag
  pub other_signature : HasSignature other v.label params tag
  pub kind : is_request other.head.start ≡ is_request v.context.message.head.start
  pub content : message_content other ≡ message_content v.context.message
  pub components : All (ComesToSame v.context other) params.ids
  pub digests : IsTrue (covers_digest params.ids)
      → ReadAlike (digest_text v.context.message) (digest_text other)

-- over messages that are alike for its signature the label has the same verdict
abbrev pub DependsOnSignature : Type 0
DependsOnSignature =
    (v : Verification) (params : SigParams) (tag : List ℕ) (other : Message) (verdict : Verdict)
    → AreAlikeWhereSigned v params tag other
    → IsVerdict v verdict ↔ IsVerdict (verification_with v other) verdict

-- ---- one tag

-- the signature base of an accepted label
abbrev pub base_of : {v : Verification} {keyid : List ℕ} → Accepts v keyid → List ℕ
base_of accepted = signature_base accepted.params accepted.values

-- Of two messages a label each is accepted, with one tag and one key. The labels, the related
-- requests, the schemes, the types, the configurations, the moments and the nonces that were seen
-- are any.
pub record HaveOneTag {v w : Verification} {keyid another : List ℕ} (one : Accepts v keyid)
    (other : Accepts w another) : Type 0 where
  pub message : HasMessages v.context
  pub other_message : HasMessages w.context
  pub tag : one.tag ≡ other.tag
  pub key : one.key ≡ other.key

-- both have the same signature parameters, and so cover the same components, and all values that
-- are covered are equal
abbrev pub Agree : {v w : Verification} {keyid another : List ℕ} → Accepts v keyid
    → Accepts w another → Type 0
Agree one other = (one.params ≡ other.params) × (one.values ≡ other.values)

-- the tag is the HMAC of two different texts under the key
pub record IsTagOfTwo (key tag base other : List ℕ) : Type 0 where
  pub differ : ¬ (base ≡ other)
  pub mac : tag ≡ hmac key base
  pub same : tag ≡ hmac key other

-- Two accepted labels with one tag under one key agree, or the tag is the HMAC of their two bases,
-- which differ (RFC 9421 section 7.5.5).
abbrev pub OneTagAgrees : Type 0
OneTagAgrees =
    (v w : Verification) (keyid another : List ℕ) (one : Accepts v keyid)
    (other : Accepts w another) → HaveOneTag one other
    → Agree one other ⊎ IsTagOfTwo one.key one.tag (base_of one) (base_of other)

-- no other text than this has the tag under the key
abbrev pub IsAlone : List ℕ → List ℕ → List ℕ → Type 0
IsAlone key tag base = (text : List ℕ) → tag ≡ hmac key text → text ≡ base

-- So they agree where no other text than the base of one has the tag under the key.
abbrev pub OneTagAgreesWhereAlone : Type 0
OneTagAgreesWhereAlone =
    (v w : Verification) (keyid another : List ℕ) (one : Accepts v keyid)
    (other : Accepts w another) → HaveOneTag one other
    → IsAlone one.key one.tag (base_of one) → Agree one other
