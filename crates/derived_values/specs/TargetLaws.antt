-- Laws of targets and authorities.
use Rattle.std.specs.Prelude.{◌≡◌, ◌⊎◌, ℕ, IsTrue, List, Option, IfSome}
use Rattle.std.specs.List.{list_all}
use Rattle.byte_grammar.specs.Classes.{is_visible}
use Rattle.derived_values.specs.UriBytes.{is_authority_byte}
use Rattle.msg_head.specs.Starts.{RequestLine, StartLine}
use Rattle.derived_values.specs.Targets.{IsRequestOf, TargetParts, SpellsTarget}
use Rattle.derived_values.specs.Authorities.{AuthorityParts, IsAuthority, IsAuthorityFor, IsAuthorityValue, authority_text}
use Rattle.std.specs.Str.{str_to_ascii_lowercase}

-- A method and a target spell at most one target's parts.
abbrev pub OneTarget : Type 0
OneTarget =
    (method target : List ℕ) (one other : TargetParts) →
    SpellsTarget method target one → SpellsTarget method target other → one ≡ other

-- A text is an authority of at most one host and port.
abbrev pub OneAuthority : Type 0
OneAuthority =
    (text host other : List ℕ) (port last : Option (List ℕ)) →
    IsAuthority text host port → IsAuthority text other last → (host ≡ other) × (port ≡ last)

-- Under a scheme a text has at most one value as an authority.
abbrev pub OneAuthorityValue : Type 0
OneAuthorityValue =
    (scheme text one other : List ℕ) →
    IsAuthorityValue scheme text one → IsAuthorityValue scheme text other → one ≡ other

-- In whatever case the scheme is written, the same port is kept.
abbrev pub SchemeInAnyCase : Type 0
SchemeInAnyCase =
    (scheme text : List ℕ) (parts : AuthorityParts) → IsAuthorityFor scheme text parts
    → IsAuthorityFor (str_to_ascii_lowercase scheme) text parts

-- ---- the value of an authority

-- The value of an authority is itself an authority, of that value.
abbrev pub HasItselfForValue : Type 0
HasItselfForValue =
    (scheme text value : List ℕ) →
    IsAuthorityValue scheme text value → IsAuthorityValue scheme value value

-- The value is an authority of the host in lower case and of the port that is kept.
abbrev pub HasPartsInValue : Type 0
HasPartsInValue =
    (scheme text : List ℕ) (parts : AuthorityParts) → IsAuthorityFor scheme text parts
    → IsAuthority (authority_text parts) (str_to_ascii_lowercase parts.host) parts.port

-- The value of an authority can be the authority in a target (RFC 3986 section 3.2).
abbrev pub IsAuthorityInTarget : Type 0
IsAuthorityInTarget =
    (scheme text value : List ℕ) →
    IsAuthorityValue scheme text value → IsTrue (list_all is_authority_byte value)

-- ---- each text is of the form or isn't

-- A method and a target spell some target's parts, or none.
abbrev pub TargetIsDecided : Type 0
TargetIsDecided =
    (method target : List ℕ) → ((parts : TargetParts) × SpellsTarget method target parts)
    ⊎ ((parts : TargetParts) → ¬ SpellsTarget method target parts)

-- Under a scheme a text has some value as an authority, or none.
abbrev pub AuthorityIsDecided : Type 0
AuthorityIsDecided =
    (scheme text : List ℕ) → ((value : List ℕ) × IsAuthorityValue scheme text value)
    ⊎ ((value : List ℕ) → ¬ IsAuthorityValue scheme text value)

-- ---- start lines

-- A start line is at most one request line, of one target's parts.
abbrev pub IsOneRequest : Type 0
IsOneRequest =
    (start : StartLine) (line other : RequestLine) (parts others : TargetParts)
    → IsRequestOf start line parts → IsRequestOf start other others
    → (line ≡ other) × (parts ≡ others)

-- A start line is a request line of some target's parts, or isn't.
abbrev pub IsRequestOrNot : Type 0
IsRequestOrNot =
    (start : StartLine)
    → ((line : RequestLine) × (parts : TargetParts) × IsRequestOf start line parts)
    ⊎ ((line : RequestLine) (parts : TargetParts) → ¬ IsRequestOf start line parts)

-- ---- no value breaks a line

-- the parts have visible bytes alone
pub record AreVisible (parts : TargetParts) : Type 0 where
  pub scheme : IfSome parts.scheme (λ text. IsTrue (list_all is_visible text))
  pub authority : IfSome parts.authority (λ text. IsTrue (list_all is_visible text))
  pub path : IsTrue (list_all is_visible parts.path)
  pub query : IfSome parts.query (λ text. IsTrue (list_all is_visible text))

-- A target that has visible bytes alone has such parts.
abbrev pub HasVisibleParts : Type 0
HasVisibleParts =
    (method target : List ℕ) (parts : TargetParts) →
    SpellsTarget method target parts → IsTrue (list_all is_visible target) → AreVisible parts

-- An authority has visible bytes alone.
abbrev pub HasVisibleText : Type 0
HasVisibleText =
    (text host : List ℕ) (port : Option (List ℕ)) →
    IsAuthority text host port → IsTrue (list_all is_visible text)

-- The value of an authority has visible bytes alone.
abbrev pub HasVisibleValue : Type 0
HasVisibleValue =
    (scheme text value : List ℕ) →
    IsAuthorityValue scheme text value → IsTrue (list_all is_visible value)
