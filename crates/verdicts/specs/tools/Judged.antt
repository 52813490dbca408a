-- What the parts of a verdict answer. No public clause cites this module.
use Rattle.std.specs.Prelude.{◌≡◌, ◌⊎◌, ◌<◌, ◌≤◌, ◌+◌, ⊤, ℕ, pos, ℤ, ◌≤ℤ◌, ◌<ℤ◌, Bool, IsTrue, IsFalse, Option, Some, None, IsSome, IfSome, IsSomeAnd, List, ◌∷◌, length, slice_get, Result}
use Rattle.std.specs.Borrow.{Bor}
use Rattle.std.specs.List.{list_any}
use Rattle.sfv_text.specs.Strict.{string_text}
use Rattle.component_ids.specs.Table.{is_listed}
use Rattle.component_ids.specs.declared.id.ComponentId.{ComponentId}
use Rattle.component_ids.specs.declared.params.SigParams.{SigParams}
use Rattle.derived_values.specs.declared.lack.Lack.{Lack}
use Rattle.derived_values.specs.declared.lack.Lack.TheVariants as lack
use Rattle.component_values.specs.Context.{MessageContext}
use Rattle.component_values.specs.Values.{HaveValues, IsFirstLack}
use Rattle.component_values.specs.declared.fault.ValueFault.{ValueFault}
use Rattle.component_values.specs.declared.fault.ValueFault.TheVariants as value
use Rattle.signatures.specs.SignatureBase.{signature_base}
use Rattle.hmac_sha256.specs.Hmac.{hmac}
use Rattle.settings.specs.declared.policy.Policy.{Policy}
use Rattle.settings.specs.declared.policy.NonceUse.{NonceUse}
use Rattle.settings.specs.declared.policy.NonceUse.TheVariants.{Require}
use Rattle.nonces.specs.declared.limits.TheConstants.{MAX_NONCE_BYTES}
use Rattle.nonces.specs.Books.{Book}
use Rattle.component_ids.specs.Sameness.{is_same}
use Rattle.verdicts.specs.Parameters.{alg_of, keyid_of}
use Rattle.verdicts.specs.Policies.{IsFirstUncovered, IsAhead, IsTooOld, asks_new, AcceptsByPolicy, HasRoom, LacksRoom}
use Rattle.verdicts.specs.Choice.{policy_of}
use Rattle.verdicts.specs.Verification.{Verification}
use Rattle.msg_body.specs.Messages.{Message}
use Rattle.verdicts.specs.ContentDigest.{HasDigest, LacksDigest}
use Rattle.signatures.specs.ContentDigests.{IsDigestAnswer}
use Rattle.signatures.specs.declared.place.DigestReason.{DigestReason}
use Rattle.signatures.specs.declared.label.LabelFault.{LabelFault}
use Rattle.signatures.specs.declared.label.LabelFault.TheVariants.{Memory, Rule as Refused}
use Rattle.signatures.specs.declared.place.Place.{Place}
use Rattle.signatures.specs.declared.place.Place.TheVariants.{None as Nowhere, Name, Identifier, Digest as DigestPlace}
use Rattle.signatures.specs.declared.rule.Rule.{Rule}
use Rattle.signatures.specs.declared.rule.Rule.TheVariants.{AlgRefused, AlgUnknown, KeyidAbsent, KeyUnknown, ComponentRequired, CreatedAbsent, CreatedAhead, TooOld, ExpiresAbsent, Expired, TagWrong, NonceAbsent, NonceRepeated, NonceLong, Absent, Ambiguous, Underivable, Unreadable, NotAscii, MacMismatch, Digest, NoncesFull}
use Rattle.signatures.specs.Words.{rule_number}
use Rattle.signatures.specs.Signatures.{HasSignature}
use Rattle.signatures.specs.Rules.{IsFirstFailure}
use Rattle.signatures.specs.Algorithms.{supported_algorithm, refused_algorithms}
use Rattle.verdicts.specs.Rules.{key_in, asks_digest_of, Fails}
use Rattle.verdicts.specs.Verdicts.{Accepts, is_place_in_range}
use Rattle.signatures.specs.tools.Answered.{Explains}

-- rule 13 or 14 fails
abbrev pub FailsByAlgorithm : SigParams → Rule → Place → Type 0
FailsByAlgorithm params AlgRefused place =
    IsSomeAnd (alg_of params) (λ alg.
    IsTrue (is_listed refused_algorithms alg) × (place ≡ Name alg))
FailsByAlgorithm params AlgUnknown place =
    IsSomeAnd (alg_of params) (λ alg.
    IsFalse (is_listed (supported_algorithm ∷ refused_algorithms) alg)
    × (place ≡ Name (string_text alg)))
FailsByAlgorithm params rule place = ⊥

abbrev pub ExplainsAlgorithm : SigParams → Result Unit LabelFault → Type 0
ExplainsAlgorithm params result =
    Explains (λ _. IfSome (alg_of params) (λ alg. alg ≡ supported_algorithm))
    (FailsByAlgorithm params) result

-- rule 15 fails
abbrev pub FailsByKeyid : SigParams → Rule → Place → Type 0
FailsByKeyid params rule place =
    (rule ≡ KeyidAbsent) × (place ≡ Nowhere) × (keyid_of params ≡ None)

-- rule 16 fails
abbrev pub FailsByKey : Option (List ℕ) → Rule → Place → Type 0
FailsByKey key rule place = (rule ≡ KeyUnknown) × (place ≡ Nowhere) × (key ≡ None)

-- the rule of a component that lacks a value so
abbrev pub rule_of_lack : Lack → Rule
rule_of_lack lack.Absent = Absent
rule_of_lack lack.Ambiguous = Ambiguous
rule_of_lack lack.Underivable = Underivable
rule_of_lack lack.Unreadable = Unreadable
rule_of_lack lack.NotAscii = NotAscii

-- the rule and the place say so of the component at the index
abbrev pub SaysLack : List ComponentId → ℕ → Lack → Rule → Place → Type 0
SaysLack ids index lack rule place =
    (rule ≡ rule_of_lack lack) × IsSomeAnd (slice_get ids index) (λ id. place ≡ Identifier id)

-- the fault says so, or that memory ran out
abbrev pub SaysFault : List ComponentId → ValueFault → LabelFault → Type 0
SaysFault ids fault Memory = ⊤
SaysFault ids value.Memory (Refused rule place) = ⊥
SaysFault ids (value.Lacks index lack) (Refused rule place) = SaysLack ids index lack rule place

-- the tag is that of the values under the key
abbrev pub IsTagOf : SigParams → List (List ℕ) → List ℕ → List ℕ → Type 0
IsTagOf params values key tag = tag ≡ hmac key (signature_base params values)

-- rule 32 fails
abbrev pub FailsByTag : SigParams → List (List ℕ) → List ℕ → List ℕ → Rule → Place → Type 0
FailsByTag params values key tag rule place =
    (rule ≡ MacMismatch) × (place ≡ Nowhere) × ¬ IsTagOf params values key tag

-- a rule from 27 to 32 fails
abbrev pub FailsByMac : MessageContext → SigParams → List ℕ → List ℕ → Rule → Place → Type 0
FailsByMac context params tag key rule place =
    ((index : ℕ) × (lack : Lack) × IsFirstLack context params.ids index lack
    × SaysLack params.ids index lack rule place)
    ⊎ ((rule ≡ MacMismatch) × (place ≡ Nowhere) × (values : List (List ℕ))
    × HaveValues context params.ids values
    × ¬ (tag ≡ hmac key (signature_base params values)))

abbrev pub ExplainsMac : MessageContext → SigParams → List ℕ → List ℕ → Result Unit LabelFault
    → Type 0
ExplainsMac context params tag key result =
    Explains (λ _. (values : List (List ℕ)) × HaveValues context params.ids values
    × (tag ≡ hmac key (signature_base params values))) (FailsByMac context params tag key) result

-- ---- rules 17 to 26

-- a test that answers whether the component is covered
abbrev pub is_covered : List ComponentId → ComponentId → Bool
is_covered covered id = list_any (λ own. is_same own id) covered

-- rule 17 fails
abbrev pub FailsByCoverage : List ComponentId → List ComponentId → Rule → Place → Type 0
FailsByCoverage covered required rule place =
    (rule ≡ ComponentRequired) × (id : ComponentId) × (place ≡ Identifier id)
    × IsFirstUncovered covered required id

-- a rule from 18 to 20 fails
abbrev pub FailsByCreated : Policy → ℕ → Option ℤ → Rule → Place → Type 0
FailsByCreated policy now created CreatedAbsent place = (place ≡ Nowhere) × (created ≡ None)
FailsByCreated policy now created CreatedAhead place =
    (place ≡ Nowhere) × IsSomeAnd created (IsAhead policy now)
FailsByCreated policy now created TooOld place =
    (place ≡ Nowhere) × IsSomeAnd created (λ z.
    (z ≤ℤ pos (now + policy.skew)) × IsTooOld policy now z)
FailsByCreated policy now created rule place = ⊥

pub record PassesExpires (policy : Policy) (now : ℕ) (expires : Option ℤ) : Type 0 where
  pub there : IsTrue policy.expires → IsSome expires
  pub later : IfSome expires (λ z. pos now ≤ℤ z)

-- rule 21 or 22 fails
abbrev pub FailsByExpires : Policy → ℕ → Option ℤ → Rule → Place → Type 0
FailsByExpires policy now expires ExpiresAbsent place =
    (place ≡ Nowhere) × IsTrue policy.expires × (expires ≡ None)
FailsByExpires policy now expires Expired place =
    (place ≡ Nowhere) × IsSomeAnd expires (λ z. z <ℤ pos now)
FailsByExpires policy now expires rule place = ⊥

abbrev pub PassesTagParam : Option (List ℕ) → Option (List ℕ) → Type 0
PassesTagParam asked tag = IfSome asked (λ text. tag ≡ Some text)

-- rule 23 fails
abbrev pub FailsByTagParam : Option (List ℕ) → Option (List ℕ) → Rule → Place → Type 0
FailsByTagParam asked tag rule place =
    (rule ≡ TagWrong) × (place ≡ Nowhere) × IsSomeAnd asked (λ text. ¬ (tag ≡ Some text))

-- the moment of the book
abbrev pub moment_of : Option Book → ℕ
moment_of None = 0
moment_of (Some book) = book.moment

-- of a nonce that is judged, by whether it was seen
pub record PassesNonce (asked : NonceUse) (is_seen : List ℕ → Bool) (nonce : Option (List ℕ))
    : Type 0 where
  pub there : asked ≡ Require → IsSome nonce
  pub new : IsTrue (asks_new asked)
      → IfSome nonce (λ text. IsFalse (is_seen text) × (length text ≤ MAX_NONCE_BYTES))

-- a rule from 24 to 26 fails
abbrev pub FailsByNonce : NonceUse → (List ℕ → Bool) → Option (List ℕ) → Rule → Place → Type 0
FailsByNonce asked is_seen own NonceAbsent place =
    (place ≡ Nowhere) × (asked ≡ Require) × (own ≡ None)
FailsByNonce asked is_seen own NonceRepeated place =
    (place ≡ Nowhere) × IsTrue (asks_new asked) × IsSomeAnd own (λ text. IsTrue (is_seen text))
FailsByNonce asked is_seen own NonceLong place =
    (place ≡ Nowhere) × IsTrue (asks_new asked) × IsSomeAnd own (λ text.
    IsFalse (is_seen text) × (MAX_NONCE_BYTES < length text))
FailsByNonce asked is_seen own rule place = ⊥

-- the rule of a nonce that isn't there
abbrev pub IsAbsentNonce : NonceUse → Rule → Place → Type 0
IsAbsentNonce asked rule place =
    (rule ≡ NonceAbsent) × (place ≡ Nowhere) × (asked ≡ Require)

-- no rule of a lesser number fails
abbrev pub NoneBelow : (Rule → Place → Type 0) → ℕ → Type 0
NoneBelow Table n = (rule : Rule) (place : Place) → rule_number rule < n → ¬ Table rule place

-- no policy is chosen, so that rule 23 fails
abbrev pub FailsByChoice : Option Policy → Rule → Place → Type 0
FailsByChoice chosen rule place = (rule ≡ TagWrong) × (place ≡ Nowhere) × (chosen ≡ None)

-- the policy is chosen, and accepts the signature
pub record AcceptsBy (v : Verification) (params : SigParams) (policy : Policy) : Type 0 where
  pub chosen : policy_of v.conf params ≡ Some policy
  pub accepted : AcceptsByPolicy v policy params

-- the policy that accepts, where no rule up to 16 fails
abbrev pub ExplainsPolicy : Verification → SigParams → Result (Bor Policy) LabelFault → Type 0
ExplainsPolicy v params result =
    (tag : List ℕ) → HasSignature v.context.message v.label params tag → NoneBelow (Fails v) 17
    → Explains (λ policy. AcceptsBy v params policy.now) (IsFirstFailure (Fails v)) result

-- ---- rules 13 to 26

-- rules up to 15 hold, with this `keyid`
pub record HasKeyid (v : Verification) (params : SigParams) (tag keyid : List ℕ) : Type 0 where
  pub signature : HasSignature v.context.message v.label params tag
  pub alg : IfSome (alg_of params) (λ alg. alg ≡ supported_algorithm)
  pub is : keyid_of params ≡ Some keyid

-- rules up to 26 hold, with this key of the `keyid` and by this policy
pub record HasKey (v : Verification) (params : SigParams) (tag keyid key : List ℕ)
    (policy : Policy) : Type 0 where
  pub under : HasKeyid v params tag keyid
  pub is : key_in v.conf keyid ≡ Some key
  pub by : AcceptsBy v params policy

-- ---- rules 33 and 34

-- the field's digests have a fault
abbrev pub FailsByField : Message → Rule → Place → Type 0
FailsByField message rule place =
    (rule ≡ Digest) × (reason : DigestReason) × (place ≡ DigestPlace reason)
    × IsDigestAnswer message (Some reason)

-- rule 33 fails
abbrev pub FailsByDigest : Bool → Message → List ComponentId → Rule → Place → Type 0
FailsByDigest asked message ids rule place =
    (rule ≡ Digest) × IsTrue asked × (reason : DigestReason) × (place ≡ DigestPlace reason)
    × LacksDigest message ids reason

-- rule 34 fails
abbrev pub FailsByRoom : ℕ → Option Book → Policy → SigParams → Rule → Place → Type 0
FailsByRoom now seen policy params rule place =
    (rule ≡ NoncesFull) × (place ≡ Nowhere) × LacksRoom now seen policy params

-- the first rule that fails, at a component that can stand in a structured field
abbrev pub IsJudged : Verification → Rule → Place → Type 0
IsJudged v rule place = IsFirstFailure (Fails v) rule place × IsTrue (is_place_in_range place)

-- the `keyid` of an accepted label, or the first rule that fails
abbrev pub ExplainsJudged : Verification → Result (List ℕ) LabelFault → Type 0
ExplainsJudged v result = Explains (Accepts v) (IsJudged v) result

-- ---- rules 27 to 34

-- they hold, with this key and by this policy
pub record AcceptsContent (v : Verification) (params : SigParams) (tag key : List ℕ)
    (policy : Policy) : Type 0 where
  pub values : List (List ℕ)
  pub have : HaveValues v.context params.ids values
  pub mac : tag ≡ hmac key (signature_base params values)
  pub digest : IsTrue (asks_digest_of v policy) → HasDigest v.context.message params.ids
  pub room : HasRoom v.now v.seen policy params
