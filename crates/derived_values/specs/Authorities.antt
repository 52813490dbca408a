-- Authorities: RFC 3986 section 3.2, without userinfo, and their values: RFC 9421 section 2.2.3.
use Rattle.std.specs.Prelude.{◌≡◌, ◌⊎◌, ℕ, ◌<◌, Bool, IsTrue, ◌&&◌, ◌||◌, ◌==◌, nat_lt, List, ◌∷◌, ◌++◌, length, codes, Option, Some, None, IfSome, if◌then◌else◌}
use Rattle.std.specs.List.{list_all}
use Rattle.std.specs.Str.{byte, bytes_eq, str_eq_ignore_ascii_case, str_to_ascii_lowercase}
use Rattle.byte_grammar.specs.Classes.{is_digit}
use Rattle.derived_values.specs.UriBytes.{is_host_byte, is_literal_byte}
use Rattle.derived_values.specs.Marks.{marked_text}

-- reg-name, and an address of four numbers as well; not empty (RFC 3986 section 3.2.2, RFC 9110
-- section 4.2.1)
abbrev pub is_reg_name : List ℕ → Bool
is_reg_name host = nat_lt 0 (length host) && list_all is_host_byte host

-- IP-literal, in brackets (RFC 3986 section 3.2.2)
pub record IsLiteral (host : List ℕ) : Type 0 where
  pub inner : List ℕ
  pub some : 0 < length inner
  pub each : IsTrue (list_all is_literal_byte inner)
  pub joined : host ≡ byte "[" ∷ (inner ++ codes "]")

-- host: an IP-literal, a reg-name or an address of four numbers (RFC 3986 section 3.2.2)
abbrev pub IsHost : List ℕ → Type 0
IsHost host = IsLiteral host ⊎ IsTrue (is_reg_name host)

-- a colon and the port, or nothing
abbrev pub port_text : Option (List ℕ) → List ℕ
port_text port = marked_text (byte ":") port

-- a host, and then nothing, or a colon and digits, of which there may be none
pub record IsAuthority (text host : List ℕ) (port : Option (List ℕ)) : Type 0 where
  pub is_host : IsHost host
  pub is_port : IfSome port (λ digits. IsTrue (list_all is_digit digits))
  pub joined : text ≡ host ++ port_text port

-- the default port of the scheme, in whatever case that is written (RFC 9110 sections 4.2.1 and
-- 4.2.2)
abbrev pub is_default_port : List ℕ → List ℕ → Bool
is_default_port scheme port =
    (str_eq_ignore_ascii_case scheme (codes "http") && bytes_eq port (codes "80"))
    || (str_eq_ignore_ascii_case scheme (codes "https") && bytes_eq port (codes "443"))

-- the port where it is neither empty nor the default one (RFC 9421 section 2.2.3)
abbrev pub kept_port : List ℕ → Option (List ℕ) → Option (List ℕ)
kept_port scheme None = None
kept_port scheme (Some port) =
    if (length port == 0) || is_default_port scheme port then None else Some port

-- a host, and the port that is kept
pub record AuthorityParts : Type 0 where
  pub host : List ℕ
  pub port : Option (List ℕ)

-- the text is an authority of this host, and under the scheme this port is kept
abbrev pub IsAuthorityFor : List ℕ → List ℕ → AuthorityParts → Type 0
IsAuthorityFor scheme text parts = (port : Option (List ℕ))
    × IsAuthority text parts.host port × (parts.port ≡ kept_port scheme port)

-- the host in lower case, and the port that is kept (RFC 9421 section 2.2.3)
abbrev pub authority_text : AuthorityParts → List ℕ
authority_text parts = str_to_ascii_lowercase parts.host ++ port_text parts.port

-- under the scheme the text is an authority of that value
abbrev pub IsAuthorityValue : List ℕ → List ℕ → List ℕ → Type 0
IsAuthorityValue scheme text value = (parts : AuthorityParts)
    × IsAuthorityFor scheme text parts × (value ≡ authority_text parts)
