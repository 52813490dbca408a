-- What is found of a request. No public clause cites this module.
use Rattle.std.specs.Prelude.{◌≡◌, ℕ, Option, Some, option_map, unwrap_or, List, []}
use Rattle.std.specs.Str.{str_to_ascii_lowercase}
use Rattle.derived_values.specs.Authorities.{AuthorityParts}
use Rattle.derived_values.specs.Targets.{TargetParts, query_of}
use Rattle.derived_values.specs.Derived.{scheme_text}
use Rattle.component_values.specs.Context.{MessageContext}
use Rattle.msg_body.specs.Messages.{Message}
use Rattle.whole_rewrites.specs.Permitted.{HasOneHost}
use Rattle.whole_rewrites.specs.Targets.{AreOneAuthority, OfTarget}

-- the target has a query, or room for one, and this is what is between `?` and its end
abbrev pub IsQueryIn : List ℕ → TargetParts → Type 0
IsQueryIn text parts =
    (query : Option (List ℕ)) × (query_of parts ≡ Some query) × (text ≡ unwrap_or query [])

-- the message is a request whose target has this query
abbrev pub HasQuery : Message → List ℕ → Type 0
HasQuery message text = OfTarget message (IsQueryIn text)

-- the scheme of a request whose target has these parts (RFC 9421 section 2.2.4)
abbrev pub scheme_in : MessageContext → TargetParts → List ℕ
scheme_in context parts =
    unwrap_or (option_map str_to_ascii_lowercase parts.scheme) (scheme_text context.scheme)

-- the authorities have one value: one host, whatever its case, and one port that is kept
abbrev pub HaveOneValue : AuthorityParts → AuthorityParts → Type 0
HaveOneValue one other =
    (str_to_ascii_lowercase one.host ≡ str_to_ascii_lowercase other.host)
    × (one.port ≡ other.port)

-- the scheme is the configured one, and the authority that of the one line `Host`
pub record NamesOwn (context : MessageContext) (scheme authority : List ℕ) : Type 0 where
  pub host : List ℕ
  pub one_host : HasOneHost context.message host
  pub same_scheme : str_to_ascii_lowercase scheme ≡ scheme_text context.scheme
  pub same : AreOneAuthority (scheme_text context.scheme) host authority
