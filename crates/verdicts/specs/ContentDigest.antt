-- Whether a signature covers the digest of the content (RFC 9530 section 2).
use Rattle.std.specs.Prelude.{◌≡◌, ◌⊎◌, ℕ, Bool, true, false, ◌&&◌, nat_lt, IsTrue, IsFalse, Some, List, [], ◌∷◌, length, codes}
use Rattle.std.specs.List.{list_all, list_any}
use Rattle.std.specs.Str.{bytes_eq}
use Rattle.msg_body.specs.Messages.{Message}
use Rattle.msg_body.specs.Views.{message_content}
use Rattle.sfv_text.specs.declared.pair.Pair.{Pair}
use Rattle.sfv_text.specs.declared.value.BareItem.{BareItem}
use Rattle.component_ids.specs.Table.{is_listed}
use Rattle.component_ids.specs.declared.id.ComponentId.{ComponentId}
use Rattle.settings.specs.declared.policy.DigestUse.{DigestUse}
use Rattle.settings.specs.declared.policy.DigestUse.TheVariants.{Ignore, Content, Always}
use Rattle.content_digest.specs.Digests.{DigestHolds}
use Rattle.content_digest.specs.Faults.{IsDigestFault}
use Rattle.content_digest.specs.declared.fault.DigestFault.{DigestFault}
use Rattle.signatures.specs.declared.place.DigestReason.{DigestReason}
use Rattle.signatures.specs.declared.place.DigestReason.TheVariants.{Uncovered}
pub use Rattle.content_digest.specs.Digests.{digest_name}
pub use Rattle.signatures.specs.ContentDigests.{digest_text, digest_reason}

-- the digest has to be covered: always, or where the content has a byte
abbrev pub asks_digest : DigestUse → List ℕ → Bool
asks_digest Ignore content = false
asks_digest Content content = nat_lt 0 (length content)
asks_digest Always content = true

-- a component with the parameter is still a whole header field: in its strict form or line by
-- line, but no member alone, nor a field of the trailer section or of the request
abbrev pub keeps_whole : Pair BareItem → Bool
keeps_whole param = is_listed (codes "sf" ∷ codes "bs" ∷ []) param.key

-- the component is the whole field `Content-Digest` of the header
abbrev pub is_whole_digest : ComponentId → Bool
is_whole_digest id = bytes_eq id.name digest_name && list_all keeps_whole id.params

-- a covered component is the field of the digests
abbrev pub covers_digest : List ComponentId → Bool
covers_digest ids = list_any is_whole_digest ids

-- the field of the digests is covered, and they are those of the content
pub record HasDigest (message : Message) (ids : List ComponentId) : Type 0 where
  pub covered : IsTrue (covers_digest ids)
  pub holds : DigestHolds (digest_text message) (message_content message)

-- the field isn't covered, or it is and its digests have a fault for this reason
abbrev pub LacksDigest : Message → List ComponentId → DigestReason → Type 0
LacksDigest message ids reason =
    ((reason ≡ Uncovered) × IsFalse (covers_digest ids))
    ⊎ (IsTrue (covers_digest ids) × (f : DigestFault) × (digest_reason f ≡ Some reason)
    × IsDigestFault (digest_text message) (message_content message) f)
