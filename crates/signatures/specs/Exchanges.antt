-- What a contract sees of an exchange (RFC 9421 section 1.1: the context of a signature).
use Rattle.std.specs.Prelude.{◌≡◌, Option, Some, None}
use Rattle.component_values.specs.Context.{MessageContext}
use Rattle.signatures.specs.declared.place.DigestReason.{DigestReason}

-- what the values of components are drawn from; and of the digests of the content (RFC 9530 section
-- 2), once they were asked for, why they don't hold, or that they do
pub record ExchangeState : Type 0 where
  pub context : MessageContext
  pub digest : Option (Option DigestReason)

-- the digests weren't asked for
abbrev pub unread : MessageContext → ExchangeState
unread context = record { context = context; digest = None }

-- what was known of the digests is known still
abbrev pub StillKnows : ExchangeState → ExchangeState → Type 0
StillKnows old new =
    (answer : Option DigestReason) → old.digest ≡ Some answer → new.digest ≡ Some answer
