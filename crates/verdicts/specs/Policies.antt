-- What a policy asks of a signature by its parameters (RFC 9421 sections 2.3, 3.2 and 7.2).
use Rattle.std.specs.Prelude.{◌≡◌, ◌≤◌, ◌+◌, ℕ, pos, ℤ, ◌+ℤ◌, ◌≤ℤ◌, ◌<ℤ◌, Bool, true, false, nat_le, IsTrue, IsFalse, Option, Some, None, IsSome, IsSomeAnd, IfSome, List, length, take, slice_get, if◌then◌else◌}
use Rattle.std.specs.List.{All, Any}
use Rattle.framing.specs.Framings.{is_request}
use Rattle.component_ids.specs.declared.id.ComponentId.{ComponentId}
use Rattle.component_ids.specs.declared.params.SigParams.{SigParams}
use Rattle.component_ids.specs.Identifiers.{IsSameId}
use Rattle.settings.specs.declared.policy.Policy.{Policy}
use Rattle.settings.specs.declared.policy.NonceUse.{NonceUse}
use Rattle.settings.specs.declared.policy.NonceUse.TheVariants.{Ignore, Check, Require}
use Rattle.nonces.specs.declared.limits.TheConstants.{MAX_NONCE_BYTES}
use Rattle.nonces.specs.Books.{Book, is_seen, live_entries}
use Rattle.verdicts.specs.Parameters.{created_of, expires_of, nonce_of, keyid_of, tag_param_of}
use Rattle.verdicts.specs.Verification.{Verification}

-- ---- coverage (section 7.2.1)

-- the components that a signature of the message has to cover
abbrev pub required_ids : Policy → Bool → List ComponentId
required_ids policy is_request =
    if is_request then policy.require_request else policy.require_response

-- the components that the message of this verification has to have covered
abbrev pub required_of : Verification → Policy → List ComponentId
required_of v policy = required_ids policy (is_request v.context.message.head.start)

-- the component is the same as a covered one
abbrev pub IsCovered : List ComponentId → ComponentId → Type 0
IsCovered covered id = Any (λ own. IsSameId own id) covered

-- the first required component that isn't covered
pub record IsFirstUncovered (covered required : List ComponentId) (id : ComponentId)
    : Type 0 where
  pub index : ℕ
  pub before : All (IsCovered covered) (take index required)
  pub there : slice_get required index ≡ Some id
  pub uncovered : ¬ IsCovered covered id

-- ---- moments (section 2.3)

-- it was created later than now, by more than clocks may be apart
abbrev pub IsAhead : Policy → ℕ → ℤ → Type 0
IsAhead policy now created = pos (now + policy.skew) <ℤ created

-- it was created longer ago than a signature is taken for
abbrev pub IsTooOld : Policy → ℕ → ℤ → Type 0
IsTooOld policy now created = (created +ℤ pos policy.max_age) <ℤ pos now

-- the signature was made neither ahead of now nor too long ago
pub record IsFresh (policy : Policy) (now : ℕ) (created : ℤ) : Type 0 where
  pub begun : created ≤ℤ pos (now + policy.skew)
  pub recent : pos now ≤ℤ (created +ℤ pos policy.max_age)

-- ---- nonces (section 7.2.2)

-- a nonce that is there has to be new
abbrev pub asks_new : NonceUse → Bool
asks_new Ignore = false
asks_new Check = true
asks_new Require = true

-- a signature with this keyid and this nonce was accepted, and would still be taken
abbrev pub is_replay : Option Book → ℕ → List ℕ → List ℕ → Bool
is_replay None now keyid nonce = false
is_replay (Some book) now keyid nonce = is_seen keyid nonce (live_entries now book.entries)

-- the nonce comes again under the signature's own keyid
abbrev pub IsReplay : Verification → SigParams → List ℕ → Type 0
IsReplay v params nonce =
    IsSomeAnd (keyid_of params) (λ keyid. IsTrue (is_replay v.seen v.now keyid nonce))

-- the nonce isn't remembered, and can be
pub record IsNewNonce (v : Verification) (params : SigParams) (nonce : List ℕ) : Type 0 where
  pub new : ¬ IsReplay v params nonce
  pub short : length nonce ≤ MAX_NONCE_BYTES

-- ---- what is accepted

-- The policy accepts the signature: it covers what is required, was created a short time ago, isn't
-- expired, has the parameter `tag` that is asked for, and its nonce is new.
pub record AcceptsByPolicy (v : Verification) (policy : Policy) (params : SigParams)
    : Type 0 where
  pub covered : All (IsCovered params.ids) (required_of v policy)
  pub created : IsSomeAnd (created_of params) (IsFresh policy v.now)
  pub has_expires : IsTrue policy.expires → IsSome (expires_of params)
  pub unexpired : IfSome (expires_of params) (λ expires. pos v.now ≤ℤ expires)
  pub tag : IfSome policy.tag (λ tag. tag_param_of params ≡ Some tag)
  pub has_nonce : policy.nonce ≡ Require → IsSome (nonce_of params)
  pub nonce : IsTrue (asks_new policy.nonce) → IfSome (nonce_of params) (IsNewNonce v params)

-- ---- room for the nonce (section 7.2.2)

-- the book holds as many live entries as it can
abbrev pub is_full_at : ℕ → Option Book → Bool
is_full_at now None = false
is_full_at now (Some book) = nat_le book.capacity (length (live_entries now book.entries))

-- the signature's nonce has to be remembered, and can't be
pub record LacksRoom (now : ℕ) (seen : Option Book) (policy : Policy) (params : SigParams)
    : Type 0 where
  pub asks : IsTrue (asks_new policy.nonce)
  pub nonce : IsSome (nonce_of params)
  pub full : IsTrue (is_full_at now seen)

-- the nonce can be remembered, where it has to be
abbrev pub HasRoom : ℕ → Option Book → Policy → SigParams → Type 0
HasRoom now seen policy params =
    IsTrue (asks_new policy.nonce) → IsSome (nonce_of params) → IsFalse (is_full_at now seen)
