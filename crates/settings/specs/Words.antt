-- The words for which a configuration has a meaning.
use Rattle.std.specs.Prelude.{ℕ, Bool, true, false, Option, Some, None, List, codes, if◌then◌else◌}
use Rattle.std.specs.Str.{bytes_eq}
use Rattle.component_ids.specs.declared.scheme.Scheme.{Scheme}
use Rattle.component_ids.specs.declared.scheme.Scheme.TheVariants.{Http, Https}
use Rattle.component_ids.specs.declared.types.FieldKind.{FieldKind}
use Rattle.component_ids.specs.declared.types.FieldKind.TheVariants.{Item, List as ListKind, Dictionary}
use Rattle.settings.specs.declared.policy.NonceUse.{NonceUse}
use Rattle.settings.specs.declared.policy.NonceUse.TheVariants as nonce
use Rattle.settings.specs.declared.policy.DigestUse.{DigestUse}
use Rattle.settings.specs.declared.policy.DigestUse.TheVariants as digest
use Rattle.settings.specs.declared.sign_conf.SignDigest.{SignDigest}
use Rattle.settings.specs.declared.sign_conf.SignDigest.TheVariants.{No, Sha256, Sha512}

-- a scheme (RFC 9421 section 2.2.4)
abbrev pub scheme_of_word : List ℕ → Option Scheme
scheme_of_word word =
    if bytes_eq word (codes "http") then Some Http
    else if bytes_eq word (codes "https") then Some Https
    else None

-- the kind of a structured field (RFC 9651 section 3)
abbrev pub kind_of_word : List ℕ → Option FieldKind
kind_of_word word =
    if bytes_eq word (codes "item") then Some Item
    else if bytes_eq word (codes "list") then Some ListKind
    else if bytes_eq word (codes "dictionary") then Some Dictionary
    else None

-- whether a policy requires the parameter `expires` (RFC 9421 section 2.3)
abbrev pub expires_of_word : List ℕ → Option Bool
expires_of_word word =
    if bytes_eq word (codes "optional") then Some false
    else if bytes_eq word (codes "require") then Some true
    else None

-- what a policy asks of the parameter `nonce` (RFC 9421 section 2.3)
abbrev pub nonce_use_of_word : List ℕ → Option NonceUse
nonce_use_of_word word =
    if bytes_eq word (codes "ignore") then Some nonce.Ignore
    else if bytes_eq word (codes "check") then Some nonce.Check
    else if bytes_eq word (codes "require") then Some nonce.Require
    else None

-- when a policy asks for a digest of the content (RFC 9530 section 2)
abbrev pub digest_use_of_word : List ℕ → Option DigestUse
digest_use_of_word word =
    if bytes_eq word (codes "ignore") then Some digest.Ignore
    else if bytes_eq word (codes "content") then Some digest.Content
    else if bytes_eq word (codes "always") then Some digest.Always
    else None

-- the digest that is added to a message (RFC 9530 section 2)
abbrev pub sign_digest_of_word : List ℕ → Option SignDigest
sign_digest_of_word word =
    if bytes_eq word (codes "none") then Some No
    else if bytes_eq word (codes "sha-256") then Some Sha256
    else if bytes_eq word (codes "sha-512") then Some Sha512
    else None
